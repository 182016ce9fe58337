-- Which records have a known mark.
--
--   marks      the fourteen marks
--   Marked     the record begins with one of them
--   MarkLaw    12 is the refusal of the records that do not, however short, and of no others; 13 is that of those that do, and say nothing
use Rattle.std.specs.Prelude.{◌≡◌, ◌↔◌, ℕ, List, [], ◌∷◌, take, codes, Ok, Err, Contains}
use Rattle.script.specs.Records.{Said, parse}
use Rattle.script.specs.declared.faults.Reason.{Reason}

abbrev pub marks : List (List ℕ)
marks =
    codes "NM" ∷ codes "NT" ∷ codes "NL" ∷ codes "MK" ∷ codes "MB" ∷ codes "MT" ∷ codes "PU"
    ∷ codes "CO" ∷ codes "QC" ∷ codes "QN" ∷ codes "QA" ∷ codes "QT" ∷ codes "GO" ∷ codes "RM" ∷ []

abbrev pub Marked : List ℕ → Type 0
Marked text = Contains marks (take 2 text)

pub record MarkLaw : Type 0 where
  pub unknown : (text : List ℕ) → parse text ≡ Err Reason.Mark ↔ ¬ (Marked text)
  pub wrong : (text : List ℕ) → parse text ≡ Err Reason.Fields ↔ Marked text × ((said : Said) → ¬ (parse text ≡ Ok said))
