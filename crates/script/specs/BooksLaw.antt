-- What a script has named and told so far, by its records.
--
--   Names        the record names this network without ties: a matrix of 1 to 128 nodes, a node on each side and at most 128 in all, or a list of 1 to 128 nodes and 1 to 1,024 slots
--   Chooses      the record chooses this measure
--   Silent       none of the records says a thing of this sort
--   First        the first record that does says x, and these records stand behind it
--   edit         the edit of a session that the record is, or none
--   edits        those of the records, in order
--   fed          the book at the making, fed each edit
--   drafted      the question after the record: a line more where it is accepted, no line after GO
--   asked        the question that the records leave
--   Working      the first record that names a network, the first one behind it that chooses a measure, and what is said since
--   Story        this phase is told by the records
--   BooksLaw     so it is at each moment of a script
--
-- A record is given as what its bytes say, or as the refusal of its bytes.
use Rattle.std.specs.Prelude.{◌≡◌, ◌<◌, ◌≤◌, ℕ, ◌+◌, List, [], ◌∷◌, ◌++◌, fold, Result, Ok}
use Rattle.std.specs.List.{All, flat_map}
use Rattle.network.specs.Listed.{untied_slots}
use Rattle.network.specs.Matrices.{untied}
use Rattle.network.specs.Meaning.{Meaning}
use Rattle.network.specs.TwoModes.{untied_sides}
use Rattle.question.specs.declared.line.Line.{Line}
use Rattle.driving.specs.Book.{Book, book_after, opened}
use Rattle.driving.specs.declared.call.Edit.{Edit}
use Rattle.script.specs.Drafts.{lines_after}
use Rattle.script.specs.Records.{Said, parse}
use Rattle.script.specs.Stages.{Phase}
use Rattle.script.specs.Transcripts.{blank, play}
use Rattle.script.specs.Works.{Chosen}
use Rattle.script.specs.declared.faults.Reason.{Reason}

abbrev pub Names : Result Said Reason → Meaning → Type 0
Names (Ok (Said.Matrix n)) m = (m ≡ untied n) × (0 < n) × (n ≤ 128)
Names (Ok (Said.TwoMode a b)) m = (m ≡ untied_sides a b) × (0 < a) × (0 < b) × (a + b ≤ 128)
Names (Ok (Said.Slots n s)) m = (m ≡ untied_slots n s) × (0 < n) × (n ≤ 128) × (0 < s) × (s ≤ 1024)
Names other m = ⊥

abbrev pub Chooses : Result Said Reason → Chosen → Type 0
Chooses (Ok Said.Kinds) by = by ≡ Chosen.Kinds
Chooses (Ok Said.Bundles) by = by ≡ Chosen.Bundles
Chooses (Ok Said.Tally) by = by ≡ Chosen.Tally
Chooses other by = ⊥

abbrev pub Silent : {X : Type 0} → (Result Said Reason → X → Type 0) → List (List ℕ) → Type 0
Silent {X} Says rs = All (λ line. (x : X) → Says (parse line) x → ⊥) rs

pub record First {X : Type 0} (Says : Result Said Reason → X → Type 0) (rs : List (List ℕ)) (x : X) (behind : List (List ℕ)) : Type 0 where
  pub before : List (List ℕ)
  pub line : List ℕ
  pub parts : rs ≡ before ++ line ∷ behind
  pub silent : Silent Says before
  pub says : Says (parse line) x

abbrev pub edit : Result Said Reason → List Edit
edit (Ok (Said.Put i j b)) = Edit.Put i j b ∷ []
edit (Ok (Said.Colour i c)) = Edit.Colour i c ∷ []
edit other = []

abbrev pub edits : List (List ℕ) → List Edit
edits rs = flat_map (λ line. edit (parse line)) rs

-- an edit that is refused leaves the book as it is
abbrev pub fed : Meaning → List (List ℕ) → Book
fed m since = fold book_after (opened m) (edits since)

abbrev pub drafted : List Line → Result Said Reason → List Line
drafted lines (Ok (Said.Question line)) = lines_after lines line
drafted lines (Ok Said.Go) = []
drafted lines other = lines

abbrev pub asked : List (List ℕ) → List Line
asked since = fold (λ lines line. drafted lines (parse line)) [] since

pub record Working (rs : List (List ℕ)) (by : Chosen) (book : Book) (lines : List Line) : Type 0 where
  pub network : Meaning
  pub behind : List (List ℕ)
  pub since : List (List ℕ)
  pub named : First Names rs network behind
  pub chosen : First Chooses behind by since
  pub kept : book ≡ fed network since
  pub question : lines ≡ asked since

abbrev pub Story : List (List ℕ) → Phase → Type 0
Story rs Phase.Network = Silent Names rs
Story rs (Phase.Measure m) = (behind : List (List ℕ)) × First Names rs m behind × Silent Chooses behind
Story rs (Phase.Work by book lines) = Working rs by book lines

pub record BooksLaw : Type 0 where
  pub books : (rs : List (List ℕ)) → Story rs (fold play blank rs).phase
