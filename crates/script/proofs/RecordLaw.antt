-- A record says exactly what it is written as.
--
--   byte_of    a byte, of what a field is told
--   go_on      what comes of what the first field is told
--   Form       what stands behind a mark: the end, a number, a byte, or all that is left
--   read       what bytes of this form say
--   Leads      these numbers lead through the form to what is said
--   Written    the text is how this is written
--   Sound      whatever the form says is written so; `text` puts what stands before the form
--   Mark       a mark, and the form behind it
--   look       what is said by the first of these marks that stands there
use Rattle.std.proofs.Common.{◌≡◌, ◌⊎◌, ℕ, ◌<◌, Bool, true, false, cond, ◌&&◌, eqb, ltb, List, [], ◌∷◌, ◌++◌, length, get_or, Option, Some, None, Result, Ok, Err, sym, refl, ap, ◌∙◌, inl, inr, arith}
use Rattle.std.specs.Fmt.{decimal}
use Rattle.std.proofs.lemmas.Bool.Decides.{nat_tests}
use Rattle.std.proofs.lemmas.List.{nil_from_length}
use Rattle.question.specs.declared.line.Claim.{Claim}
use Rattle.question.specs.declared.line.Claim.TheVariants.{Colour, Not, And, Tied}
use Rattle.script.specs.Fields.{field, byte_field, after_field}
use Rattle.script.specs.FieldLaw.{Reads}
use Rattle.script.specs.Records.{Said, after, after_byte, ended, parse}
use Rattle.script.specs.RecordLaw.{spaced, line_of, claim_written, written, ClaimInBounds, InBounds, RecordLaw}
use Rattle.script.specs.declared.faults.Reason.{Reason}
use Rattle.script.proofs.FieldLaw.{field_law}

abbrev pub Answer : Type 0
Answer = Result Said Reason

abbrev byte_of : Option ℕ → Option ℕ
byte_of told = elim told [ Some n ↦ cond (ltb n 256) (Some n) None | None ↦ None ]

byte_told : (told : Option ℕ) (n : ℕ) → byte_of told ≡ Some n → (told ≡ Some n) × (n < 256)
byte_told (Some m) n e = by_test (ltb m 256) refl e
  where
    by_test : (small : Bool) → ltb m 256 ≡ small → ◌≡◌ {A = Option ℕ} (cond small (Some m) None) (Some n) → (Some m ≡ Some n) × (n < 256)
    by_test true is same = let value : m ≡ n = cc in (same, grind (arith, nat_tests))
    by_test false is same = absurd (cc)
byte_told None n e = absurd (cc)

module _ (next : ℕ → List ℕ → Answer) (bytes : List ℕ) where
  abbrev pub go_on : Option ℕ → Answer
  go_on told = elim told [ Some n ↦ next n (after_field bytes) | None ↦ Err Reason.Fields ]

  go_on_says : (told : Option ℕ) (said : Said) → go_on told ≡ Ok said → (n : ℕ) × (told ≡ Some n) × (next n (after_field bytes) ≡ Ok said)
  go_on_says (Some n) said e = (n, refl, e)
  go_on_says None said e = absurd (cc)

  after_says : (said : Said) → after bytes next ≡ Ok said → (n : ℕ) × Reads bytes n (after_field bytes) × (next n (after_field bytes) ≡ Ok said)
  after_says said e =
      let (n, is, more) = go_on_says (field bytes) said e in
      (n, (field_law.reads_so bytes n (after_field bytes)).0 (is, refl), more)

  after_byte_says : (said : Said) → after_byte bytes next ≡ Ok said → (n : ℕ) × Reads bytes n (after_field bytes) × (n < 256) × (next n (after_field bytes) ≡ Ok said)
  after_byte_says said e =
      let (n, is, more) = go_on_says (byte_field bytes) said e in
      let (told, small) = byte_told (field bytes) n is in
      (n, (field_law.reads_so bytes n (after_field bytes)).0 (told, refl), small, more)

spaced_closed : (numbers : List ℕ) → (spaced numbers ≡ []) ⊎ (get_or (spaced numbers) 0 0 ≡ 32)
spaced_closed [] = inl refl
spaced_closed (n ∷ numbers) = inr refl

spaced_reads : (n : ℕ) (numbers : List ℕ) → n < 65536 → (field (spaced (n ∷ numbers)) ≡ Some n) × (after_field (spaced (n ∷ numbers)) ≡ spaced numbers)
spaced_reads n numbers l = (field_law.reads_so (spaced (n ∷ numbers)) n (spaced numbers)).1 (record { small = l; written = refl; closed = spaced_closed numbers })

after_spaced : (n : ℕ) (numbers : List ℕ) (next : ℕ → List ℕ → Answer) → n < 65536 → after (spaced (n ∷ numbers)) next ≡ next n (spaced numbers)
after_spaced n numbers next l = let (says, leaves) = spaced_reads n numbers l in ap (go_on next (spaced (n ∷ numbers))) says ∙ ap (next n) leaves

after_byte_spaced : (n : ℕ) (numbers : List ℕ) (next : ℕ → List ℕ → Answer) → n < 256 → after_byte (spaced (n ∷ numbers)) next ≡ next n (spaced numbers)
after_byte_spaced n numbers next l =
    let (says, leaves) = spaced_reads n numbers (omega arith) in
    let small : ltb n 256 ≡ true = grind (arith, nat_tests) in
    let told : byte_of (Some n) ≡ Some n = rw small in
    ap (go_on next (spaced (n ∷ numbers))) (ap byte_of says ∙ told) ∙ ap (next n) leaves

ended_says : (what said : Said) (bytes : List ℕ) → ended what bytes ≡ Ok said → (bytes ≡ []) × (what ≡ said)
ended_says what said bytes e = by_test (eqb (length bytes) 0) refl e
  where
    by_test : (none : Bool) → eqb (length bytes) 0 ≡ none → ◌≡◌ {A = Answer} (cond none (Ok what) (Err Reason.Fields)) (Ok said) → (bytes ≡ []) × (what ≡ said)
    by_test true is same = (nil_from_length bytes (grind (arith, nat_tests)), cc)
    by_test false is same = absurd (cc)

pub data Form : Type 0 where
  End : Said → Form
  Number : (ℕ → Form) → Form
  Byte : (ℕ → Form) → Form
  All : (List ℕ → Said) → Form

abbrev pub read : Form → List ℕ → Answer
read (End what) bytes = ended what bytes
read (Number next) bytes = after bytes (λ n. read (next n))
read (Byte next) bytes = after_byte bytes (λ n. read (next n))
read (All what) bytes = Ok (what bytes)

abbrev Leads : Form → List ℕ → Said → Type 0
Leads (End what) [] said = what ≡ said
Leads (End what) (n ∷ numbers) said = ⊥
Leads (Number next) [] said = ⊥
Leads (Number next) (n ∷ numbers) said = (n < 65536) × Leads (next n) numbers said
Leads (Byte next) [] said = ⊥
Leads (Byte next) (n ∷ numbers) said = (n < 256) × Leads (next n) numbers said
Leads (All what) numbers said = what (spaced numbers) ≡ said

reads_spaced : (form : Form) (numbers : List ℕ) (said : Said) → Leads form numbers said → read form (spaced numbers) ≡ Ok said
reads_spaced (End what) [] said is = ap Ok is
reads_spaced (End what) (n ∷ numbers) said is = absurd is
reads_spaced (Number next) [] said is = absurd is
reads_spaced (Number next) (n ∷ numbers) said (l, is) = after_spaced n numbers (λ n. read (next n)) l ∙ reads_spaced (next n) numbers said is
reads_spaced (Byte next) [] said is = absurd is
reads_spaced (Byte next) (n ∷ numbers) said (l, is) = after_byte_spaced n numbers (λ n. read (next n)) l ∙ reads_spaced (next n) numbers said is
reads_spaced (All what) numbers said is = ap Ok is

abbrev Written : List ℕ → Said → Type 0
Written text said = (text ≡ written said) × InBounds said

abbrev Sound : (List ℕ → List ℕ) → Form → Type 0
Sound text (End what) = Written (text []) what
Sound text (Number next) = (n : ℕ) → n < 65536 → Sound (λ rest. text (32 ∷ (decimal n ++ rest))) (next n)
Sound text (Byte next) = (n : ℕ) → n < 256 → Sound (λ rest. text (32 ∷ (decimal n ++ rest))) (next n)
Sound text (All what) = (rest : List ℕ) → Written (text rest) (what rest)

sound_says : (text : List ℕ → List ℕ) (form : Form) → Sound text form → (bytes : List ℕ) (said : Said) → read form bytes ≡ Ok said → Written (text bytes) said
sound_says text (End what) sound bytes said e = let (none, is) = ended_says what said bytes e in rw none (rw is at sound)
sound_says text (Number next) sound bytes said e =
    let (n, reads, more) = after_says (λ n. read (next n)) bytes said e in
    rw reads.written (sound_says (λ rest. text (32 ∷ (decimal n ++ rest))) (next n) (sound n reads.small) (after_field bytes) said more)
sound_says text (Byte next) sound bytes said e =
    let (n, reads, small, more) = after_byte_says (λ n. read (next n)) bytes said e in
    rw reads.written (sound_says (λ rest. text (32 ∷ (decimal n ++ rest))) (next n) (sound n small) (after_field bytes) said more)
sound_says text (All what) sound bytes said e = let is : what bytes ≡ said = cc in rw is at (sound bytes)

pub record Mark : Type 0 where
  pub first : ℕ
  pub second : ℕ
  pub form : Form
  pub sound : Sound (λ rest. first ∷ second ∷ rest) form

abbrev pub look : List Mark → ℕ → ℕ → List ℕ → Answer
look [] a b bytes = Err Reason.Mark
look (mark ∷ marks) a b bytes = cond (eqb a mark.first && eqb b mark.second) (read mark.form bytes) (look marks a b bytes)

look_says : (marks : List Mark) (a b : ℕ) (bytes : List ℕ) (said : Said) → look marks a b bytes ≡ Ok said → Written (a ∷ b ∷ bytes) said
look_says [] a b bytes said e = absurd (cc)
look_says (mark ∷ marks) a b bytes said e = by_test (look_says marks a b bytes said) (eqb a mark.first && eqb b mark.second) refl e
  where
    by_test : (look marks a b bytes ≡ Ok said → Written (a ∷ b ∷ bytes) said) → (here : Bool) → (eqb a mark.first && eqb b mark.second) ≡ here → ◌≡◌ {A = Answer} (cond here (read mark.form bytes) (look marks a b bytes)) (Ok said) → Written (a ∷ b ∷ bytes) said
    by_test later true is same =
        let first : a ≡ mark.first = grind (arith, nat_tests) in
        let second : b ≡ mark.second = grind (arith, nat_tests) in
        rw (first, second) (sound_says (λ rest. mark.first ∷ mark.second ∷ rest) mark.form mark.sound bytes said same)
    by_test later false is same = later same

abbrev matrix : Form
matrix = Number (λ n. End (Said.Matrix n))

abbrev two_mode : Form
two_mode = Number (λ a. Number (λ b. End (Said.TwoMode a b)))

abbrev slots : Form
slots = Number (λ n. Number (λ s. End (Said.Slots n s)))

abbrev put : Form
put = Number (λ i. Number (λ j. Byte (λ b. End (Said.Put i j b))))

abbrev colour : Form
colour = Number (λ i. Byte (λ c. End (Said.Colour i c)))

abbrev claim_line : Claim → Said
claim_line c = Said.Question (line_of c)

abbrev of_colour : Form
of_colour = Byte (λ c. End (claim_line (Colour c)))

abbrev not_line : Form
not_line = Number (λ k. End (claim_line (Not k)))

abbrev and_lines : Form
and_lines = Number (λ k. Number (λ l. End (claim_line (And k l))))

abbrev tied : Form
tied = Number (λ k. Byte (λ t. End (claim_line (Tied k t))))

abbrev pub marks : List Mark
marks =
    record { first = 78; second = 77; form = matrix; sound = λ n l. (refl, l) }
    ∷ record { first = 78; second = 84; form = two_mode; sound = λ a la b lb. (refl, (la, lb)) }
    ∷ record { first = 78; second = 76; form = slots; sound = λ n ln s ls. (refl, (ln, ls)) }
    ∷ record { first = 77; second = 75; form = End Said.Kinds; sound = (refl, tt) }
    ∷ record { first = 77; second = 66; form = End Said.Bundles; sound = (refl, tt) }
    ∷ record { first = 77; second = 84; form = End Said.Tally; sound = (refl, tt) }
    ∷ record { first = 80; second = 85; form = put; sound = λ i li j lj b lb. (refl, (li, lj, lb)) }
    ∷ record { first = 67; second = 79; form = colour; sound = λ i li c lc. (refl, (li, lc)) }
    ∷ record { first = 81; second = 67; form = of_colour; sound = λ c l. (refl, (Colour c, refl, l)) }
    ∷ record { first = 81; second = 78; form = not_line; sound = λ k l. (refl, (Not k, refl, l)) }
    ∷ record { first = 81; second = 65; form = and_lines; sound = λ k lk l ll. (refl, (And k l, refl, (lk, ll))) }
    ∷ record { first = 81; second = 84; form = tied; sound = λ k lk t lt. (refl, (Tied k t, refl, (lk, lt))) }
    ∷ record { first = 71; second = 79; form = End Said.Go; sound = (refl, tt) }
    ∷ record { first = 82; second = 77; form = All Said.Remark; sound = λ text. (refl, tt) }
    ∷ []

pub parse_marked : (a b : ℕ) (bytes : List ℕ) → parse (a ∷ b ∷ bytes) ≡ look marks a b bytes
parse_marked a b bytes = let long : ltb (length (a ∷ b ∷ bytes)) 2 ≡ false = grind (arith, nat_tests) in rw long

says : (text : List ℕ) (said : Said) → parse text ≡ Ok said → Written text said
says [] said e = absurd (cc)
says (a ∷ []) said e = absurd (cc)
says (a ∷ b ∷ bytes) said e = look_says marks a b bytes said (sym (parse_marked a b bytes) ∙ e)

marked : (a b : ℕ) (form : Form) (numbers : List ℕ) (said : Said) → look marks a b (spaced numbers) ≡ read form (spaced numbers) → Leads form numbers said → parse (a ∷ b ∷ spaced numbers) ≡ Ok said
marked a b form numbers said is leads = parse_marked a b (spaced numbers) ∙ is ∙ reads_spaced form numbers said leads

claim_reads : (c : Claim) → ClaimInBounds c → parse (claim_written c) ≡ Ok (claim_line c)
claim_reads (Colour c) l = marked 81 67 of_colour (c ∷ []) (claim_line (Colour c)) refl (l, refl)
claim_reads (Not k) l = marked 81 78 not_line (k ∷ []) (claim_line (Not k)) refl (l, refl)
claim_reads (And k l) (lk, ll) = marked 81 65 and_lines (k ∷ l ∷ []) (claim_line (And k l)) refl (lk, (ll, refl))
claim_reads (Tied k t) (lk, lt) = marked 81 84 tied (k ∷ t ∷ []) (claim_line (Tied k t)) refl (lk, (lt, refl))

claim_line_written : (c : Claim) → written (claim_line c) ≡ claim_written c
claim_line_written (Colour c) = refl
claim_line_written (Not k) = refl
claim_line_written (And k l) = refl
claim_line_written (Tied k t) = refl

written_reads : (said : Said) → InBounds said → parse (written said) ≡ Ok said
written_reads (Said.Matrix n) l = marked 78 77 matrix (n ∷ []) (Said.Matrix n) refl (l, refl)
written_reads (Said.TwoMode a b) (la, lb) = marked 78 84 two_mode (a ∷ b ∷ []) (Said.TwoMode a b) refl (la, (lb, refl))
written_reads (Said.Slots n s) (ln, ls) = marked 78 76 slots (n ∷ s ∷ []) (Said.Slots n s) refl (ln, (ls, refl))
written_reads Said.Kinds l = refl
written_reads Said.Bundles l = refl
written_reads Said.Tally l = refl
written_reads (Said.Put i j b) (li, lj, lb) = marked 80 85 put (i ∷ j ∷ b ∷ []) (Said.Put i j b) refl (li, (lj, (lb, refl)))
written_reads (Said.Colour i c) (li, lc) = marked 67 79 colour (i ∷ c ∷ []) (Said.Colour i c) refl (li, (lc, refl))
written_reads (Said.Question line) (c, is, l) = rw is (ap parse (claim_line_written c) ∙ claim_reads c l)
written_reads Said.Go l = refl
written_reads (Said.Remark text) l = parse_marked 82 77 text

pub record_law : RecordLaw
record_law = record { says_so = λ text said. (says text said, λ (at, l). rw at (written_reads said l)) }
