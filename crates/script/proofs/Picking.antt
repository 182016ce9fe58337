-- The lines of a test among those that are printed.
--
--   Plain         no byte is a line feed
--   EachPlain     so is each of these
--   last_digit    the last digit of a number
--   Spares        no line GO, NO or QU passes the test
--   Picks         what is printed is whole lines, and these are those that pass
--   copied        the line that what is read leaves where it is accepted, or none
--   Copies        what is accepted prints that line and lines that do not pass
--   Quiet         what is accepted prints lines that do not pass alone
--   left          the line that a record leaves: its copy, or its refusal
use Rattle.std.proofs.Common.{◌≡◌, ℕ, ◌+◌, ◌/◌, ◌%◌, suc, zero, Bool, true, false, cond, eqb, ltb, List, [], ◌∷◌, ◌++◌, length, codes, Result, Ok, Err, refl, sym, ap, subst, ◌∙◌, append_assoc, arith}
use Rattle.std.specs.Fmt.{decimal, digits, digits_onto}
use Rattle.std.specs.List.{filter, slice_split, onto_first}
use Rattle.std.specs.Result.{MatchResult}
use Rattle.std.proofs.lemmas.Bool.Decides.{nat_tests}
use Rattle.std.proofs.lemmas.List.{append-nil}
use Rattle.measure.specs.Bundles.{bundles}
use Rattle.measure.specs.Kinds.{kinds}
use Rattle.measure.specs.Measures.{Operations}
use Rattle.measure.specs.Tally.{tally}
use Rattle.network.specs.Meaning.{Meaning}
use Rattle.network.specs.Put.{put_answer}
use Rattle.network.specs.declared.faults.Fault as network
use Rattle.question.specs.declared.line.Line.{Line}
use Rattle.session.specs.Sessions.{colour_answer}
use Rattle.driving.specs.Book.{Book, after_put, after_colour}
use Rattle.script.specs.Drafts.{add_answer}
use Rattle.script.specs.ErrorsLaw.{error_text}
use Rattle.script.specs.Faults.{number}
use Rattle.script.specs.Listings.{each_below, heads, role_total, split_total, settled_lines, is_true, true_lines, go_lines}
use Rattle.script.specs.Networks.{enough, list_named, matrix_named, two_mode_named}
use Rattle.script.specs.RecordLaw.{written}
use Rattle.script.specs.Records.{Said, parse}
use Rattle.script.specs.Stages.{Phase, Outcome, named, does, outcome}
use Rattle.script.specs.Transcripts.{Played, fault_at, newline, play, records, without_empty_last, after_outcome}
use Rattle.script.specs.Words.{refusal_line, settled_line, node_line, true_line}
use Rattle.script.specs.Works.{Chosen, go_by}
use Rattle.script.specs.declared.faults.Fault.{Fault}
use Rattle.script.specs.declared.faults.Reason.{Reason}
use Rattle.script.proofs.RecordLaw.{record_law}
use Rattle.script.proofs.RefusedLaw.{acted}
use Rattle.script.proofs.Sequences.{records_before}

abbrev Plain : List ℕ → Type 0
Plain [] = Unit {0}
Plain (b ∷ bytes) = (newline b ≡ false) × Plain bytes

abbrev pub EachPlain : List (List ℕ) → Type 0
EachPlain [] = Unit {0}
EachPlain (line ∷ rs) = Plain line × EachPlain rs

plain-append : (a b : List ℕ) → Plain a → Plain b → Plain (a ++ b)
plain-append [] b of_a of_b = of_b
plain-append (x ∷ a) b (first, of_a) of_b = (first, plain-append a b of_a of_b)

plain_split : (line : List ℕ) → Plain line → slice_split newline line ≡ line ∷ []
plain_split [] plain = refl
plain_split (b ∷ line) (first, plain) = rw first (ap (onto_first b) (plain_split line plain))

abbrev last_digit : ℕ → ℕ
last_digit n = cond (ltb (n % 10) 10) (48 + n % 10) (87 + n % 10)

plain_digit : (n : ℕ) → newline (last_digit n) ≡ false
plain_digit n = let small : ltb (n % 10) 10 ≡ true = grind (arith, nat_tests) in rw small (grind (arith, nat_tests))

plain_onto : (k n : ℕ) (acc : List ℕ) → Plain acc → Plain (digits_onto k 10 false n acc)
plain_onto zero n acc plain = plain
plain_onto (suc k) n acc plain = by_test (plain_onto k (n / 10) (last_digit n ∷ acc) (plain_digit n, plain)) (eqb (n / 10) 0)
  where
    by_test : Plain (digits_onto k 10 false (n / 10) (last_digit n ∷ acc)) → (last : Bool) → Plain (cond last (last_digit n ∷ acc) (digits_onto k 10 false (n / 10) (last_digit n ∷ acc)))
    by_test more true = (plain_digit n, plain)
    by_test more false = more

plain_decimal : (n : ℕ) → Plain (decimal n)
unfolding digits
plain_decimal n = plain_onto 64 n [] tt

-- each line of a script
plain_onto_first : (b : ℕ) (parts : List (List ℕ)) → newline b ≡ false → EachPlain parts → EachPlain (onto_first b parts)
plain_onto_first b [] is plain = ((is, tt), tt)
plain_onto_first b (part ∷ parts) is (first, plain) = ((is, first), plain)

plain_parts : (bytes : List ℕ) → EachPlain (slice_split newline bytes)
plain_parts [] = (tt, tt)
plain_parts (b ∷ bytes) = by_test (plain_parts bytes) (newline b) refl
  where
    by_test : EachPlain (slice_split newline bytes) → (feed : Bool) → newline b ≡ feed → EachPlain (slice_split newline (b ∷ bytes))
    by_test more true is = rw is (tt, more)
    by_test more false is = rw is (plain_onto_first b (slice_split newline bytes) is more)

plain_unless_empty : (parts : List (List ℕ)) → EachPlain parts → EachPlain (without_empty_last parts)
plain_unless_empty [] plain = tt
plain_unless_empty (last ∷ []) (plain, end) = by_test (eqb (length last) 0)
  where
    by_test : (none : Bool) → EachPlain (cond none [] (last ∷ []))
    by_test true = tt
    by_test false = (plain, tt)
plain_unless_empty (part ∷ next ∷ more) (first, plain) = (first, plain_unless_empty (next ∷ more) plain)

pub plain_records : (script : List ℕ) → EachPlain (records script)
plain_records script = plain_unless_empty (slice_split newline script) (plain_parts script)

-- the lines of one number or two
plain_one : (mark : List ℕ) (n : ℕ) → Plain mark → Plain (mark ++ decimal n)
plain_one mark n plain = plain-append mark (decimal n) plain (plain_decimal n)

plain_two : (mark : List ℕ) (m n : ℕ) → Plain mark → Plain (mark ++ (decimal m ++ (codes " " ++ decimal n)))
plain_two mark m n plain = plain-append mark (decimal m ++ (codes " " ++ decimal n)) plain (plain-append (decimal m) (codes " " ++ decimal n) (plain_decimal m) (refl, plain_decimal n))

ends_one : (mark : List ℕ) (n : ℕ) → mark ++ (decimal n ++ 10 ∷ []) ≡ (mark ++ decimal n) ++ 10 ∷ []
ends_one mark n = sym (append_assoc mark (decimal n) (10 ∷ []))

ends_two : (mark : List ℕ) (m n : ℕ) → mark ++ (decimal m ++ (codes " " ++ (decimal n ++ 10 ∷ []))) ≡ (mark ++ (decimal m ++ (codes " " ++ decimal n))) ++ 10 ∷ []
ends_two mark m n = simp append_assoc

abbrev pub copied : Result Said Reason → List (List ℕ)
copied (Ok (Said.Remark text)) = (codes "RM" ++ text) ∷ []
copied other = []

abbrev pub left : Played → Result Said Reason → Outcome → List (List ℕ)
left p told (Ok next) = copied told
left p told (Err why) = error_text (fault_at p why) ∷ []

pub record Spares (test : List ℕ → Bool) : Type 0 where
  pub settled : (rest : List ℕ) → test (codes "GO " ++ rest) ≡ false
  pub node : (rest : List ℕ) → test (codes "NO " ++ rest) ≡ false
  pub answer : (rest : List ℕ) → test (codes "QU " ++ rest) ≡ false

module _ (test : List ℕ → Bool) where
  abbrev pub Picks : List ℕ → List (List ℕ) → Type 0
  Picks out lines = (rest : List ℕ) → filter test (records (out ++ rest)) ≡ lines ++ filter test (records rest)

  pub picks_none : Picks [] []
  picks_none rest = refl

  picks-append : (out more : List ℕ) (a b : List (List ℕ)) → Picks out a → Picks more b → Picks (out ++ more) (a ++ b)
  picks-append out more a b of_out of_more rest =
      rw (append_assoc out more rest, append_assoc a b (filter test (records rest)))
      (of_out (more ++ rest) ∙ ap (λ v. a ++ v) (of_more rest))

  pub all_picked : (out : List ℕ) (lines : List (List ℕ)) → Picks out lines → filter test (records out) ≡ lines
  all_picked out lines are = ap (λ bytes. filter test (records bytes)) (sym (append-nil out)) ∙ are [] ∙ append-nil lines

  picks_line : (line : List ℕ) → Plain line → Picks (line ++ 10 ∷ []) (filter test (line ∷ []))
  picks_line line plain rest =
      let parts : records (line ++ 10 ∷ rest) ≡ line ∷ records rest = records_before line rest ∙ ap (λ parts. parts ++ records rest) (plain_split line plain) in
      rw (append_assoc line (10 ∷ []) rest) (ap (filter test) parts ∙ by_test (test line))
    where
      by_test : (passes : Bool) → cond passes (line ∷ filter test (records rest)) (filter test (records rest)) ≡ cond passes (line ∷ []) [] ++ filter test (records rest)
      by_test true = refl
      by_test false = refl

  quiet_line : (line : List ℕ) → Plain line → test line ≡ false → Picks (line ++ 10 ∷ []) []
  quiet_line line plain is = subst (λ passes. Picks (line ++ 10 ∷ []) (cond passes (line ∷ []) [])) is (picks_line line plain)

  pub picks_refusal : (f : Fault) → Picks (refusal_line f.«record» (number f.reason)) (filter test (error_text f ∷ []))
  picks_refusal f =
      subst (λ out. Picks out (filter test (error_text f ∷ []))) (sym (ends_two (codes "ER ") f.«record» (number f.reason)))
      (picks_line (error_text f) (plain_two (codes "ER ") f.«record» (number f.reason) (refl, (refl, (refl, tt)))))

  quiet_each : (line : ℕ → List ℕ) → ((x : ℕ) → Picks (line x) []) → (n : ℕ) → Picks (each_below line n) []
  quiet_each line quiet zero = picks_none
  quiet_each line quiet (suc n) = picks-append (each_below line n) (line n) [] [] (quiet_each line quiet n) (quiet n)

  module _ (spares : Spares test) where
    quiet_settled : (roles splits : ℕ) → Picks (settled_line roles splits) []
    quiet_settled roles splits =
        subst (λ out. Picks out []) (sym (ends_two (codes "GO ") roles splits))
        (quiet_line (codes "GO " ++ (decimal roles ++ (codes " " ++ decimal splits))) (plain_two (codes "GO ") roles splits (refl, (refl, (refl, tt)))) (spares.settled (decimal roles ++ (codes " " ++ decimal splits))))

    quiet_node : (x head : ℕ) → Picks (node_line x head) []
    quiet_node x head =
        subst (λ out. Picks out []) (sym (ends_two (codes "NO ") x head))
        (quiet_line (codes "NO " ++ (decimal x ++ (codes " " ++ decimal head))) (plain_two (codes "NO ") x head (refl, (refl, (refl, tt)))) (spares.node (decimal x ++ (codes " " ++ decimal head))))

    quiet_true : (x : ℕ) → Picks (true_line x) []
    quiet_true x =
        subst (λ out. Picks out []) (sym (ends_one (codes "QU ") x))
        (quiet_line (codes "QU " ++ decimal x) (plain_one (codes "QU ") x (refl, (refl, (refl, tt)))) (spares.answer (decimal x)))

    quiet_if : (says : Bool) (x : ℕ) → Picks (cond says (true_line x) []) []
    quiet_if true x = quiet_true x
    quiet_if false x = picks_none

    module _ {V : Type 0} (o : Operations V) (book : Book) where
      quiet_settled_lines : Picks (settled_lines o book) []
      unfolding settled_lines
      quiet_settled_lines =
          picks-append (settled_line (role_total o book) (split_total o book)) (each_below (λ x. node_line x (heads o book x)) book.network.nodes) [] []
          (quiet_settled (role_total o book) (split_total o book))
          (quiet_each (λ x. node_line x (heads o book x)) (λ x. quiet_node x (heads o book x)) book.network.nodes)

      quiet_true_lines : (lines : List Line) → Picks (true_lines o book lines) []
      unfolding true_lines
      quiet_true_lines lines = quiet_each (λ x. cond (is_true o book lines x) (true_line x) []) (λ x. quiet_if (is_true o book lines x) x) book.network.nodes

      quiet_go_lines : (lines : List Line) → Picks (go_lines o book lines) []
      unfolding go_lines
      quiet_go_lines lines = picks-append (settled_lines o book) (true_lines o book lines) [] [] quiet_settled_lines (quiet_true_lines lines)

    quiet_go : (by : Chosen) (book : Book) (lines : List Line) → Picks (go_by by book lines) []
    quiet_go Chosen.Kinds book lines = quiet_go_lines kinds book lines
    quiet_go Chosen.Bundles book lines = quiet_go_lines bundles book lines
    quiet_go Chosen.Tally book lines = quiet_go_lines tally book lines

    abbrev Copies : Result Said Reason → Outcome → Type 0
    Copies told did = MatchResult did (λ next. Picks next.1 (filter test (copied told))) (λ why. Unit {0})

    abbrev Quiet : Outcome → Type 0
    Quiet did = MatchResult did (λ next. Picks next.1 []) (λ why. Unit {0})

    quiet_named : (made : Result Meaning network.Fault) → Quiet (named made)
    quiet_named (Ok m) = picks_none
    quiet_named (Err f) = tt

    quiet_told : {F : Type 0} (phase : Phase) (reason : F → Reason) (answer : Result (Unit {0}) F) → Quiet (elim answer [ Ok _ ↦ Ok (phase, []) | Err f ↦ Err (reason f) ])
    quiet_told phase reason (Ok _) = picks_none
    quiet_told phase reason (Err f) = tt

    copies_does : (phase : Phase) (said : Said) → Plain (written said) → Copies (Ok said) (does phase said)
    copies_does phase (Said.Remark text) plain = picks_line (codes "RM" ++ text) plain
    copies_does Phase.Network (Said.Matrix n) plain = quiet_named (matrix_named n enough)
    copies_does Phase.Network (Said.TwoMode a b) plain = quiet_named (two_mode_named a b enough)
    copies_does Phase.Network (Said.Slots n s) plain = quiet_named (list_named n s)
    copies_does Phase.Network Said.Kinds plain = tt
    copies_does Phase.Network Said.Bundles plain = tt
    copies_does Phase.Network Said.Tally plain = tt
    copies_does Phase.Network (Said.Put i j b) plain = tt
    copies_does Phase.Network (Said.Colour i c) plain = tt
    copies_does Phase.Network (Said.Question line) plain = tt
    copies_does Phase.Network Said.Go plain = tt
    copies_does (Phase.Measure m) (Said.Matrix n) plain = tt
    copies_does (Phase.Measure m) (Said.TwoMode a b) plain = tt
    copies_does (Phase.Measure m) (Said.Slots n s) plain = tt
    copies_does (Phase.Measure m) Said.Kinds plain = picks_none
    copies_does (Phase.Measure m) Said.Bundles plain = picks_none
    copies_does (Phase.Measure m) Said.Tally plain = picks_none
    copies_does (Phase.Measure m) (Said.Put i j b) plain = tt
    copies_does (Phase.Measure m) (Said.Colour i c) plain = tt
    copies_does (Phase.Measure m) (Said.Question line) plain = tt
    copies_does (Phase.Measure m) Said.Go plain = tt
    copies_does (Phase.Work by book lines) (Said.Matrix n) plain = tt
    copies_does (Phase.Work by book lines) (Said.TwoMode a b) plain = tt
    copies_does (Phase.Work by book lines) (Said.Slots n s) plain = tt
    copies_does (Phase.Work by book lines) Said.Kinds plain = tt
    copies_does (Phase.Work by book lines) Said.Bundles plain = tt
    copies_does (Phase.Work by book lines) Said.Tally plain = tt
    copies_does (Phase.Work by book lines) (Said.Put i j b) plain = quiet_told (Phase.Work by (after_put book i j b) lines) (λ f. Reason.Network f) (put_answer book.network i j b)
    copies_does (Phase.Work by book lines) (Said.Colour i c) plain = quiet_told (Phase.Work by (after_colour book i c) lines) (λ f. Reason.Session f) (colour_answer book.network.nodes i)
    copies_does (Phase.Work by book lines) (Said.Question line) plain = quiet_told (Phase.Work by book (lines ++ line ∷ [])) (λ f. Reason.Question f) (add_answer lines line)
    copies_does (Phase.Work by book lines) Said.Go plain = quiet_go by book lines

    copies_acted : (phase : Phase) (line : List ℕ) (told : Result Said Reason) → parse line ≡ told → Plain line → Copies told (acted phase told)
    copies_acted phase line (Ok said) is plain = copies_does phase said (subst Plain ((record_law.says_so line said).0 is).0 plain)
    copies_acted phase line (Err why) is plain = tt

    picks_went : (p : Played) (line : List ℕ) (told : Result Said Reason) (did : Outcome) (before : List (List ℕ)) → Copies told did → Picks p.printed before → Picks (after_outcome p line did).printed (before ++ filter test (left p told did))
    picks_went p line told (Ok next) before copies so_far = picks-append p.printed next.1 before (filter test (copied told)) so_far copies
    picks_went p line told (Err why) before copies so_far =
        picks-append p.printed (refusal_line (p.count + 1) (number why)) before (filter test (error_text (fault_at p why) ∷ [])) so_far (picks_refusal (fault_at p why))

    -- a record more
    pub picks_more : (p : Played) (line : List ℕ) (before : List (List ℕ)) → Plain line → Picks p.printed before → Picks (play p line).printed (before ++ filter test (left p (parse line) (outcome p.phase line)))
    picks_more p line before plain so_far = picks_went p line (parse line) (outcome p.phase line) before (copies_acted p.phase line (parse line) refl plain) so_far
