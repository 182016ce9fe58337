-- Whatever a script prints is lines of the forms.
--
--   Plain      a byte is no line feed
--   Inline     nor is any of the bytes
--   Shows      the line that tells this has one line feed, at its end
--   Sayable    a remark has no line feed
use Rattle.std.proofs.Common.{◌≡◌, ◌≢◌, ℕ, suc, zero, ◌+◌, ◌/◌, ◌%◌, ◌≤◌, leb, Bool, true, false, cond, eqb, ltb, List, [], ◌∷◌, ◌++◌, length, fold, All, Result, Ok, Err, append_assoc, append-nil, sym, refl, ap₂, ◌∙◌, codes, decimal, subst, arith}
use Rattle.std.specs.Fmt.{digits_onto, digits, digit_glyph}
use Rattle.std.specs.List.{slice_split, onto_first}
use Rattle.std.proofs.lemmas.Bool.Decides.{nat_tests}
use Rattle.std.proofs.lemmas.Grind.{flat_map-append}
use Rattle.std.proofs.lemmas.List.Elements.{All-nil, All-cons, All-head, All-tail, All-append}
use Rattle.measure.specs.Bundles.{bundles}
use Rattle.measure.specs.Kinds.{kinds}
use Rattle.measure.specs.Measures.{Operations}
use Rattle.measure.specs.Tally.{tally}
use Rattle.question.specs.declared.line.Line.{Line}
use Rattle.network.specs.Put.{put_answer}
use Rattle.session.specs.Sessions.{colour_answer}
use Rattle.driving.specs.Book.{Book, after_put, after_colour}
use Rattle.script.specs.Drafts.{add_answer}
use Rattle.script.specs.Networks.{enough, list_named, matrix_named, two_mode_named}
use Rattle.script.specs.Faults.{number}
use Rattle.script.specs.FormsLaw.{Printed, shown, IsLine, InForms, FormsLaw}
use Rattle.script.specs.Listings.{each_below, heads, role_total, split_total, settled_lines, is_true, true_lines, go_lines}
use Rattle.script.specs.Records.{Said, parse}
use Rattle.script.specs.Stages.{Phase, Outcome, does, outcome, printed_in}
use Rattle.script.specs.Transcripts.{newline, without_empty_last, records, Played, blank, play, played, limit, transcript}
use Rattle.script.specs.Words.{refusal_line, settled_line, node_line, true_line, remark_line}
use Rattle.script.specs.Works.{Chosen, go_by}
use Rattle.script.specs.declared.faults.Reason.{Reason}
use Rattle.script.proofs.RecordLaw.{record_law}

abbrev Plain : ℕ → Type 0
Plain b = b ≢ 10

abbrev Inline : List ℕ → Type 0
Inline = All Plain

inline_nil : Inline []
inline_nil = All-nil Plain

inline_cons : (b : ℕ) (bytes : List ℕ) → Plain b → Inline bytes → Inline (b ∷ bytes)
inline_cons b bytes = All-cons Plain b bytes

-- what holds of both holds of one of them
either : {X : Type 0} (P : X → Type 0) (test : Bool) (x y : X) → P x → P y → P (cond test x y)
either P true x y px py = px
either P false x y px py = py

-- what decimal writes of any number
glyph_plain : (d : ℕ) → Plain (digit_glyph false d)
glyph_plain d = either Plain (ltb d 10) (48 + d) (87 + d) (λ e. omega arith) (λ e. omega arith)

digits_inline : (k n : ℕ) (acc : List ℕ) → Inline acc → Inline (digits_onto k 10 false n acc)
digits_inline zero n acc i = i
digits_inline (suc k) n acc i =
    let longer = inline_cons (digit_glyph false (n % 10)) acc (glyph_plain (n % 10)) i in
    either Inline (eqb (n / 10) 0) (digit_glyph false (n % 10) ∷ acc) (digits_onto k 10 false (n / 10) (digit_glyph false (n % 10) ∷ acc)) longer
    (digits_inline k (n / 10) (digit_glyph false (n % 10) ∷ acc) longer)

decimal_inline : (n : ℕ) → Inline (decimal n)
unfolding digits
decimal_inline n = digits_inline 64 n [] inline_nil

-- a mark of two capitals, what stands behind it, and a line feed
marked : (a b : ℕ) (text : List ℕ) → 65 ≤ a → 65 ≤ b → Inline text → IsLine (a ∷ b ∷ (text ++ codes "\n"))
marked a b text la lb i = record { text = a ∷ b ∷ text; ended = refl; one = inline_cons a (b ∷ text) (λ e. omega arith) (inline_cons b text (λ e. omega arith) i) }

spaced_inline : (n : ℕ) → Inline (32 ∷ decimal n)
spaced_inline n = inline_cons 32 (decimal n) (λ e. omega arith) (decimal_inline n)

numbered : (a b n : ℕ) → 65 ≤ a → 65 ≤ b → IsLine (a ∷ b ∷ 32 ∷ (decimal n ++ codes "\n"))
numbered a b n la lb = marked a b (32 ∷ decimal n) la lb (spaced_inline n)

numbered_twice : (a b m n : ℕ) → 65 ≤ a → 65 ≤ b → IsLine (a ∷ b ∷ 32 ∷ (decimal m ++ (32 ∷ (decimal n ++ codes "\n"))))
numbered_twice a b m n la lb =
    subst (λ bytes. IsLine (a ∷ b ∷ 32 ∷ bytes)) (append_assoc (decimal m) (32 ∷ decimal n) (codes "\n"))
    (marked a b ((32 ∷ decimal m) ++ (32 ∷ decimal n)) la lb (All-append Plain (32 ∷ decimal m) (32 ∷ decimal n) (spaced_inline m) (spaced_inline n)))

abbrev Shows : Printed → Type 0
Shows printed = IsLine (shown printed)

none_printed : InForms []
none_printed = record { prints = []; shows = refl; lines = All-nil Shows }

one_printed : (printed : Printed) → Shows printed → InForms (shown printed)
one_printed printed is = record { prints = printed ∷ []; shows = sym (append-nil (shown printed)); lines = All-cons Shows printed [] is (All-nil Shows) }

both_printed : (a b : List ℕ) → InForms a → InForms b → InForms (a ++ b)
both_printed a b before more =
    record {
      prints = before.prints ++ more.prints;
      shows = ap₂ (λ a b. a ++ b) before.shows more.shows ∙ sym (flat_map-append shown before.prints more.prints);
      lines = All-append Shows before.prints more.prints before.lines more.lines;
    }

refusal_printed : (n refusal : ℕ) → InForms (refusal_line n refusal)
refusal_printed n refusal = one_printed (Printed.Refused n refusal) (numbered_twice 69 82 n refusal (omega arith) (omega arith))

remark_printed : (text : List ℕ) → Inline text → InForms (remark_line text)
remark_printed text i = one_printed (Printed.Remark text) (marked 82 77 text (omega arith) (omega arith) i)

-- what GO prints
each_printed : (lines : ℕ → List ℕ) → ((x : ℕ) → InForms (lines x)) → (n : ℕ) → InForms (each_below lines n)
each_printed lines each zero = none_printed
each_printed lines each (suc n) = both_printed (each_below lines n) (lines n) (each_printed lines each n) (each n)

true_printed : (x : ℕ) (says : Bool) → InForms (cond says (true_line x) [])
true_printed x says = either InForms says (true_line x) [] (one_printed (Printed.TrueOf x) (numbered 81 85 x (omega arith) (omega arith))) none_printed

module _ {V : Type 0} (o : Operations V) (book : Book) where
  settled_printed : InForms (settled_lines o book)
  unfolding settled_lines
  settled_printed =
      both_printed (settled_line (role_total o book) (split_total o book)) (each_below (λ x. node_line x (heads o book x)) book.network.nodes)
      (one_printed (Printed.Settled (role_total o book) (split_total o book)) (numbered_twice 71 79 (role_total o book) (split_total o book) (omega arith) (omega arith)))
      (each_printed (λ x. node_line x (heads o book x)) (λ x. one_printed (Printed.Node x (heads o book x)) (numbered_twice 78 79 x (heads o book x) (omega arith) (omega arith))) book.network.nodes)

  trues_printed : (lines : List Line) → InForms (true_lines o book lines)
  unfolding true_lines
  trues_printed lines = each_printed (λ x. cond (is_true o book lines x) (true_line x) []) (λ x. true_printed x (is_true o book lines x)) book.network.nodes

  go_printed : (lines : List Line) → InForms (go_lines o book lines)
  unfolding go_lines
  go_printed lines = both_printed (settled_lines o book) (true_lines o book lines) settled_printed (trues_printed lines)

go_by_printed : (by : Chosen) (book : Book) (lines : List Line) → InForms (go_by by book lines)
go_by_printed Chosen.Kinds book lines = go_printed kinds book lines
go_by_printed Chosen.Bundles book lines = go_printed bundles book lines
go_by_printed Chosen.Tally book lines = go_printed tally book lines

abbrev Sayable : Said → Type 0
Sayable (Said.Remark text) = Inline text
Sayable other = Unit {0}

says_sayable : (bytes : List ℕ) (said : Said) → Inline bytes → parse bytes ≡ Ok said → Sayable said
says_sayable bytes (Said.Remark text) i e = let (at, all) = (record_law.says_so bytes (Said.Remark text)).0 e in All-tail Plain 77 text (All-tail Plain 82 (77 ∷ text) (subst Inline at i))
says_sayable bytes said i e = tt

-- what only leads to the next phase, or is refused, prints nothing
quiet : {A F : Type 0} (answer : Result A F) (next : A → Phase) (why : F → Reason) → InForms (printed_in (elim answer [ Ok a ↦ Ok (next a, []) | Err f ↦ Err (why f) ]))
quiet (Ok a) next why = none_printed
quiet (Err f) next why = none_printed

does_printed : (phase : Phase) (said : Said) → Sayable said → InForms (printed_in (does phase said))
does_printed phase (Said.Remark text) i = remark_printed text i
does_printed Phase.Network (Said.Matrix n) i = quiet (matrix_named n enough) Phase.Measure Reason.Network
does_printed Phase.Network (Said.TwoMode a b) i = quiet (two_mode_named a b enough) Phase.Measure Reason.Network
does_printed Phase.Network (Said.Slots n s) i = quiet (list_named n s) Phase.Measure Reason.Network
does_printed (Phase.Measure m) Said.Kinds i = none_printed
does_printed (Phase.Measure m) Said.Bundles i = none_printed
does_printed (Phase.Measure m) Said.Tally i = none_printed
does_printed (Phase.Work by book lines) (Said.Put k j b) i = quiet (put_answer book.network k j b) (λ _. Phase.Work by (after_put book k j b) lines) Reason.Network
does_printed (Phase.Work by book lines) (Said.Colour k c) i = quiet (colour_answer book.network.nodes k) (λ _. Phase.Work by (after_colour book k c) lines) Reason.Session
does_printed (Phase.Work by book lines) (Said.Question line) i = quiet (add_answer lines line) (λ _. Phase.Work by book (lines ++ line ∷ [])) Reason.Question
does_printed (Phase.Work by book lines) Said.Go i = go_by_printed by book lines
does_printed phase said i = none_printed

outcome_printed : (phase : Phase) (bytes : List ℕ) → Inline bytes → InForms (printed_in (outcome phase bytes))
outcome_printed phase bytes i = by_said (parse bytes) refl
  where
    by_said : (said : Result Said Reason) → parse bytes ≡ said → InForms (printed_in (elim said [ Ok said ↦ does phase said | Err why ↦ Err why ]))
    by_said (Ok said) e = does_printed phase said (says_sayable bytes said i e)
    by_said (Err why) e = none_printed

-- the records have no line feed
newline_plain : (b : ℕ) → newline b ≡ false → Plain b
newline_plain b e = λ same. grind (arith, nat_tests)

onto_inline : (b : ℕ) (parts : List (List ℕ)) → Plain b → All Inline parts → All Inline (onto_first b parts)
onto_inline b [] plain i = All-cons Inline (b ∷ []) [] (inline_cons b [] plain inline_nil) (All-nil Inline)
onto_inline b (part ∷ parts) plain i = All-cons Inline (b ∷ part) parts (inline_cons b part plain (All-head Inline part parts i)) (All-tail Inline part parts i)

split_inline : (bytes : List ℕ) → All Inline (slice_split newline bytes)
split_inline [] = All-cons Inline [] [] inline_nil (All-nil Inline)
split_inline (b ∷ bytes) = by_test (split_inline bytes) (newline b) refl
  where
    by_test : All Inline (slice_split newline bytes) → (ends : Bool) → newline b ≡ ends → All Inline (cond ends ([] ∷ slice_split newline bytes) (onto_first b (slice_split newline bytes)))
    by_test more true e = All-cons Inline [] (slice_split newline bytes) inline_nil more
    by_test more false e = onto_inline b (slice_split newline bytes) (newline_plain b e) more

without_empty_last_inline : (parts : List (List ℕ)) → All Inline parts → All Inline (without_empty_last parts)
without_empty_last_inline [] i = i
without_empty_last_inline (last ∷ []) i = either (All Inline) (eqb (length last) 0) [] (last ∷ []) (All-nil Inline) i
without_empty_last_inline (part ∷ next ∷ more) i = All-cons Inline part (without_empty_last (next ∷ more)) (All-head Inline part (next ∷ more) i) (without_empty_last_inline (next ∷ more) (All-tail Inline part (next ∷ more) i))

play_printed : (p : Played) (bytes : List ℕ) → InForms p.printed → Inline bytes → InForms (play p bytes).printed
play_printed p bytes before i = by_outcome (outcome p.phase bytes) refl (outcome_printed p.phase bytes i)
  where
    by_outcome : (done : Outcome) → outcome p.phase bytes ≡ done → InForms (printed_in done) → InForms (play p bytes).printed
    by_outcome (Ok next) e more = rw (e, play) (both_printed p.printed next.1 before more)
    by_outcome (Err why) e more = rw (e, play) (both_printed p.printed (refusal_line (p.count + 1) (number why)) before (refusal_printed (p.count + 1) (number why)))

played_printed : (p : Played) (lines : List (List ℕ)) → InForms p.printed → All Inline lines → InForms (fold play p lines).printed
played_printed p [] before i = before
played_printed p (bytes ∷ lines) before i = played_printed (play p bytes) lines (play_printed p bytes before (All-head Inline bytes lines i)) (All-tail Inline bytes lines i)

-- a script that is too long prints one refusal
script_printed : (script : List ℕ) → InForms (transcript script)
script_printed script =
    either InForms (leb (length script) limit) (played script).printed (refusal_line 0 15)
    (played_printed blank (records script) none_printed (without_empty_last_inline (slice_split newline script) (split_inline script)))
    (refusal_printed 0 15)

pub forms_law : FormsLaw
forms_law = record { in_forms = script_printed }
