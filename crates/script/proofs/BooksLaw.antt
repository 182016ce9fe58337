-- What a script has named and told so far, by its records.
--
--   Turned     what a record makes of a script that has named nothing
--   Measured   what it makes of one that has named a network
--   Middle     the story from there on
use Rattle.std.proofs.Common.{◌≡◌, ℕ, ◌+◌, ◌*◌, ◌<◌, ◌≤◌, Bool, true, false, cond, eqb, ltb, leb, ◌&&◌, List, [], ◌∷◌, ◌++◌, Result, Ok, Err, refl, sym, ap, subst, ◌∙◌, arith}
use Rattle.std.specs.Prelude.{fold}
use Rattle.std.proofs.lemmas.Bool.Decides.{nat_tests}
use Rattle.std.proofs.lemmas.List.Elements.{All-nil, All-cons}
use Rattle.std.proofs.lemmas.Nat.{mul-le}
use Rattle.network.specs.Listed.{untied_slots}
use Rattle.network.specs.Matrices.{untied}
use Rattle.network.specs.TwoModes.{untied_sides}
use Rattle.network.specs.Meaning.{Meaning}
use Rattle.network.specs.Put.{put_answer, with_tie}
use Rattle.network.specs.declared.faults.Fault as network
use Rattle.question.specs.declared.line.Line.{Line}
use Rattle.question.specs.declared.faults.Fault as question
use Rattle.driving.specs.Book.{Book, book_after, opened, after_put, after_colour}
use Rattle.driving.specs.declared.call.Edit.{Edit}
use Rattle.driving.proofs.Turning.{book_same}
use Rattle.script.specs.BooksLaw.{Names, Chooses, Silent, First, edit, edits, fed, drafted, asked, Story, BooksLaw}
use Rattle.script.specs.Drafts.{add_answer, lines_after}
use Rattle.script.specs.Networks.{enough, list_named, matrix_named, two_mode_named}
use Rattle.script.specs.Records.{Said, parse}
use Rattle.script.specs.Stages.{Phase, Outcome, named, does, outcome, next_phase}
use Rattle.script.specs.Transcripts.{Played, blank, play}
use Rattle.script.specs.Works.{Chosen}
use Rattle.script.specs.declared.faults.Reason.{Reason}

-- the phase after what a record says
abbrev turn : Phase → Result Said Reason → Phase
turn phase said = next_phase phase (elim said [ Ok what ↦ does phase what | Err why ↦ Err why ])

play_phase : (p : Played) (line : List ℕ) → (play p line).phase ≡ turn p.phase (parse line)
play_phase p line = by_outcome (outcome p.phase line) refl
  where
    by_outcome : (o : Outcome) → outcome p.phase line ≡ o → (play p line).phase ≡ next_phase p.phase o
    by_outcome (Ok next) e = rw (e, play) refl
    by_outcome (Err why) e = rw (e, play) refl

module _ {X : Type 0} (Says : Result Said Reason → X → Type 0) (line : List ℕ) where
  first_here : (x : X) (since : List (List ℕ)) → Says (parse line) x → First Says (line ∷ since) x since
  first_here x since says = record { before = []; line = line; parts = refl; silent = All-nil _; says = says }

  abbrev Mute : List ℕ → Type 0
  Mute line = (x : X) → Says (parse line) x → ⊥

  silent_more : (rs : List (List ℕ)) → Mute line → Silent Says rs → Silent Says (line ∷ rs)
  silent_more rs mute silent = All-cons Mute line rs mute silent

  first_later : (rs : List (List ℕ)) (x : X) (since : List (List ℕ)) → Mute line → First Says rs x since → First Says (line ∷ rs) x since
  first_later rs x since mute first =
      record {
        before = line ∷ first.before;
        line = first.line;
        parts = ap (λ (rs : List (List ℕ)). line ∷ rs) first.parts;
        silent = silent_more first.before mute first.silent;
        says = first.says;
      }

module _ (by : Chosen) (book : Book) (lines : List Line) where
  abbrev here : Phase
  here = Phase.Work by book lines

  put_refused : (i j b : ℕ) (f : network.Fault) → put_answer book.network i j b ≡ Err f → after_put book i j b ≡ book
  put_refused i j b f e = book_same (ap (λ a. elim a as (λ _. Meaning) [ Ok _ ↦ with_tie book.network i j b | Err _ ↦ book.network ]) e) refl

  colour_refused : (i c : ℕ) → ltb i book.network.nodes ≡ false → after_colour book i c ≡ book
  colour_refused i c e = book_same refl (λ k x. cond (e k && eqb x i) c (book.colours x))

  put_worked : (i j b : ℕ) → turn here (Ok (Said.Put i j b)) ≡ Phase.Work by (after_put book i j b) lines
  put_worked i j b = by_answer (put_answer book.network i j b) refl
    where
      by_answer : (a : Result (Unit {0}) network.Fault) → put_answer book.network i j b ≡ a → turn here (Ok (Said.Put i j b)) ≡ Phase.Work by (after_put book i j b) lines
      by_answer (Ok _) e = rw (e, does) refl
      by_answer (Err f) e = rw (e, does) (ap (λ b. Phase.Work by b lines) (sym (put_refused i j b f e)))

  colour_worked : (i c : ℕ) → turn here (Ok (Said.Colour i c)) ≡ Phase.Work by (after_colour book i c) lines
  colour_worked i c = by_test (ltb i book.network.nodes) refl
    where
      by_test : (node : Bool) → ltb i book.network.nodes ≡ node → turn here (Ok (Said.Colour i c)) ≡ Phase.Work by (after_colour book i c) lines
      by_test true e = rw (e, does) refl
      by_test false e = rw (e, does) (ap (λ b. Phase.Work by b lines) (sym (colour_refused i c e)))

  question_worked : (line : Line) → turn here (Ok (Said.Question line)) ≡ Phase.Work by book (lines_after lines line)
  question_worked line = by_answer (add_answer lines line) refl
    where
      by_answer : (a : Result (Unit {0}) question.Fault) → add_answer lines line ≡ a → turn here (Ok (Said.Question line)) ≡ Phase.Work by book (lines_after lines line)
      by_answer (Ok _) e = rw (e, does, lines_after) refl
      by_answer (Err f) e = rw (e, does, lines_after) refl

  worked : (said : Result Said Reason) → turn here said ≡ Phase.Work by (fold book_after book (edit said)) (drafted lines said)
  worked (Ok (Said.Put i j b)) = put_worked i j b
  worked (Ok (Said.Colour i c)) = colour_worked i c
  worked (Ok (Said.Question line)) = question_worked line
  worked (Ok other) = refl
  worked (Err why) = refl

edit_first : (book : Book) (said : Result Said Reason) (more : List Edit) → fold book_after book (edit said ++ more) ≡ fold book_after (fold book_after book (edit said)) more
edit_first book (Ok (Said.Put i j b)) more = refl
edit_first book (Ok (Said.Colour i c)) more = refl
edit_first book other more = refl

abbrev asked_from : List Line → List (List ℕ) → List Line
asked_from lines rs = fold (λ lines line. drafted lines (parse line)) lines rs

from_work : (rs : List (List ℕ)) (p : Played) (by : Chosen) (book : Book) (lines : List Line) → p.phase ≡ Phase.Work by book lines → (fold play p rs).phase ≡ Phase.Work by (fold book_after book (edits rs)) (asked_from lines rs)
from_work [] p by book lines e = e
from_work (line ∷ rs) p by book lines e =
    let next = play_phase p line ∙ ap (λ phase. turn phase (parse line)) e ∙ worked by book lines (parse line) in
    from_work rs (play p line) by (fold book_after book (edit (parse line))) (drafted lines (parse line)) next
    ∙ ap (λ b. Phase.Work by b (asked_from lines (line ∷ rs))) (sym (edit_first book (parse line) (edits rs)))

abbrev Measured : Meaning → Result Said Reason → Phase → Type 0
Measured m said Phase.Network = ⊥
Measured m said (Phase.Measure n) = (n ≡ m) × ((by : Chosen) → Chooses said by → ⊥)
Measured m said (Phase.Work by book lines) = Chooses said by × (book ≡ opened m) × (lines ≡ [])

measured : (m : Meaning) (said : Result Said Reason) → Measured m said (turn (Phase.Measure m) said)
measured m (Ok Said.Kinds) = (refl, refl, refl)
measured m (Ok Said.Bundles) = (refl, refl, refl)
measured m (Ok Said.Tally) = (refl, refl, refl)
measured m (Ok other) = (refl, λ by none. none)
measured m (Err why) = (refl, λ by none. none)

abbrev Middle : Meaning → List (List ℕ) → Phase → Type 0
Middle m rs Phase.Network = ⊥
Middle m rs (Phase.Measure n) = (n ≡ m) × Silent Chooses rs
Middle m rs (Phase.Work by book lines) = (since : List (List ℕ)) × First Chooses rs by since × (book ≡ fed m since) × (lines ≡ asked since)

middle_later : (m : Meaning) (line : List ℕ) (rs : List (List ℕ)) → ((by : Chosen) → Chooses (parse line) by → ⊥) → (phase : Phase) → Middle m rs phase → Middle m (line ∷ rs) phase
middle_later m line rs mute Phase.Network none = none
middle_later m line rs mute (Phase.Measure n) (same, silent) = (same, silent_more Chooses line rs mute silent)
middle_later m line rs mute (Phase.Work by book lines) (since, first, kept, question) = (since, first_later Chooses line rs by since mute first, kept, question)

from_measure : (rs : List (List ℕ)) (p : Played) (m : Meaning) → p.phase ≡ Phase.Measure m → Middle m rs (fold play p rs).phase
from_measure [] p m e = subst (Middle m []) (sym e) (refl, All-nil _)
from_measure (line ∷ rs) p m e =
    by_phase (from_measure rs) (turn (Phase.Measure m) (parse line)) (measured m (parse line)) (play_phase p line ∙ ap (λ phase. turn phase (parse line)) e)
  where
    by_phase : ((p : Played) (m : Meaning) → p.phase ≡ Phase.Measure m → Middle m rs (fold play p rs).phase) → (phase : Phase) → Measured m (parse line) phase → (play p line).phase ≡ phase → Middle m (line ∷ rs) (fold play (play p line) rs).phase
    by_phase later Phase.Network none at = absurd none
    by_phase later (Phase.Measure n) (same, mute) at = middle_later m line rs mute (fold play (play p line) rs).phase (later (play p line) m (at ∙ ap Phase.Measure same))
    by_phase later (Phase.Work by book lines) (chooses, new, none) at =
        let next = at ∙ ap (λ book. Phase.Work by book lines) new ∙ ap (Phase.Work by (opened m)) none in
        subst (Middle m (line ∷ rs)) (sym (from_work rs (play p line) by (opened m) [] next)) (rs, first_here Chooses line by rs chooses, refl, refl)

abbrev Turned : Result Said Reason → Phase → Type 0
Turned said Phase.Network = (m : Meaning) → Names said m → ⊥
Turned said (Phase.Measure m) = Names said m
Turned said (Phase.Work by book lines) = ⊥

-- where the network is made, or is not
abbrev Made : Said → Result Meaning network.Fault → Type 0
Made said made = Turned (Ok said) (next_phase Phase.Network (named made))

matrix_turned : (n : ℕ) → Turned (Ok (Said.Matrix n)) (turn Phase.Network (Ok (Said.Matrix n)))
matrix_turned n = by_test (ltb 0 n && leb n 128) refl
  where
    by_test : (sized : Bool) → (ltb 0 n && leb n 128) ≡ sized → Made (Said.Matrix n) (matrix_named n enough)
    by_test true e =
        let some : 0 < n = grind (arith, nat_tests) in
        let few : n ≤ 128 = grind (arith, nat_tests) in
        let room : n * n ≤ 128 * 128 = mul-le n n 128 128 few few in
        let fits : leb (n * n) 16384 ≡ true = grind (arith, nat_tests) in
        let made : matrix_named n enough ≡ Ok (untied n) = rw (e, fits, matrix_named) refl in
        subst (Made (Said.Matrix n)) (sym made) (refl, some, few)
    by_test false e =
        let made : matrix_named n enough ≡ Err network.Fault.Size = rw (e, matrix_named) refl in
        subst (Made (Said.Matrix n)) (sym made) (λ m names. grind (arith, nat_tests, names))

two_mode_turned : (a b : ℕ) → Turned (Ok (Said.TwoMode a b)) (turn Phase.Network (Ok (Said.TwoMode a b)))
two_mode_turned a b = by_test (ltb 0 a && (ltb 0 b && leb (a + b) 128)) refl
  where
    by_test : (sized : Bool) → (ltb 0 a && (ltb 0 b && leb (a + b) 128)) ≡ sized → Made (Said.TwoMode a b) (two_mode_named a b enough)
    by_test true e =
        let first : 0 < a = grind (arith, nat_tests) in
        let second : 0 < b = grind (arith, nat_tests) in
        let few : a + b ≤ 128 = grind (arith, nat_tests) in
        let room : a * b ≤ 128 * 128 = mul-le a b 128 128 (omega arith) (omega arith) in
        let fits : leb (a * b) 16384 ≡ true = grind (arith, nat_tests) in
        let made : two_mode_named a b enough ≡ Ok (untied_sides a b) = rw (e, fits, two_mode_named) refl in
        subst (Made (Said.TwoMode a b)) (sym made) (refl, first, second, few)
    by_test false e =
        let made : two_mode_named a b enough ≡ Err network.Fault.Size = rw (e, two_mode_named) refl in
        subst (Made (Said.TwoMode a b)) (sym made) (λ m names. grind (arith, nat_tests, names))

slots_turned : (n s : ℕ) → Turned (Ok (Said.Slots n s)) (turn Phase.Network (Ok (Said.Slots n s)))
slots_turned n s = by_tests (ltb 0 n && leb n 128) (ltb 0 s && leb s 1024) refl refl
  where
    by_tests : (sized fits : Bool) → (ltb 0 n && leb n 128) ≡ sized → (ltb 0 s && leb s 1024) ≡ fits → Made (Said.Slots n s) (list_named n s)
    by_tests true true e f =
        let some : 0 < n = grind (arith, nat_tests) in
        let few : n ≤ 128 = grind (arith, nat_tests) in
        let any : 0 < s = grind (arith, nat_tests) in
        let held : s ≤ 1024 = grind (arith, nat_tests) in
        let made : list_named n s ≡ Ok (untied_slots n s) = rw (e, f, list_named) refl in
        subst (Made (Said.Slots n s)) (sym made) (refl, some, few, any, held)
    by_tests true false e f =
        let made : list_named n s ≡ Err network.Fault.Memory = rw (e, f, list_named) refl in
        subst (Made (Said.Slots n s)) (sym made) (λ m names. grind (arith, nat_tests, names))
    by_tests false fits e f =
        let made : list_named n s ≡ Err network.Fault.Size = rw (e, list_named) refl in
        subst (Made (Said.Slots n s)) (sym made) (λ m names. grind (arith, nat_tests, names))

turned : (said : Result Said Reason) → Turned said (turn Phase.Network said)
turned (Ok (Said.Matrix n)) = matrix_turned n
turned (Ok (Said.TwoMode a b)) = two_mode_turned a b
turned (Ok (Said.Slots n s)) = slots_turned n s
turned (Ok other) = λ m none. none
turned (Err why) = λ m none. none

-- a record more in front, that names no network
story_later : (line : List ℕ) (rs : List (List ℕ)) → ((m : Meaning) → Names (parse line) m → ⊥) → (phase : Phase) → Story rs phase → Story (line ∷ rs) phase
story_later line rs mute Phase.Network silent = silent_more Names line rs mute silent
story_later line rs mute (Phase.Measure m) (behind, first, silent) = (behind, first_later Names line rs m behind mute first, silent)
story_later line rs mute (Phase.Work by book lines) w =
    record {
      network = w.network;
      behind = w.behind;
      since = w.since;
      named = first_later Names line rs w.network w.behind mute w.named;
      chosen = w.chosen;
      kept = w.kept;
      question = w.question;
    }

-- one that names it
story_named : (m : Meaning) (line : List ℕ) (rs : List (List ℕ)) → Names (parse line) m → (phase : Phase) → Middle m rs phase → Story (line ∷ rs) phase
story_named m line rs names Phase.Network none = absurd none
story_named m line rs names (Phase.Measure n) (same, silent) = (rs, first_here Names line n rs (subst (Names (parse line)) (sym same) names), silent)
story_named m line rs names (Phase.Work by book lines) (since, first, kept, question) =
    record {
      network = m;
      behind = rs;
      since = since;
      named = first_here Names line m rs names;
      chosen = first;
      kept = kept;
      question = question;
    }

from_network : (rs : List (List ℕ)) (p : Played) → p.phase ≡ Phase.Network → Story rs (fold play p rs).phase
from_network [] p e = subst (Story []) (sym e) (All-nil _)
from_network (line ∷ rs) p e =
    by_phase (from_network rs) (turn Phase.Network (parse line)) (turned (parse line)) (play_phase p line ∙ ap (λ phase. turn phase (parse line)) e)
  where
    by_phase : ((p : Played) → p.phase ≡ Phase.Network → Story rs (fold play p rs).phase) → (phase : Phase) → Turned (parse line) phase → (play p line).phase ≡ phase → Story (line ∷ rs) (fold play (play p line) rs).phase
    by_phase later Phase.Network mute at = story_later line rs mute (fold play (play p line) rs).phase (later (play p line) at)
    by_phase later (Phase.Measure m) names at = story_named m line rs names (fold play (play p line) rs).phase (from_measure rs (play p line) m at)
    by_phase later (Phase.Work by book lines) none at = absurd none

pub books_law : BooksLaw
books_law = record { books = λ rs. from_network rs blank refl }
