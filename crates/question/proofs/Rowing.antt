-- Rows, line by line.
use Rattle.std.proofs.Common.{◌≡◌, ℕ, ◌+◌, ◌<◌, Bool, true, not, ◌&&◌, List, [], ◌∷◌, ◌++◌, length, get_or, take, drop, refl, sym, ap, ap₂, ◌∙◌, arith}
use Rattle.std.specs.List.{fold}
use Rattle.std.proofs.lemmas.Bool.Decides.{nat_tests}
use Rattle.std.proofs.lemmas.List.{length_push, length-take-le, take-append-drop, get_or_append_left}
use Rattle.std.proofs.lemmas.List.Sums.{fold_more, fold-append}
use Rattle.network.specs.Meaning.{Meaning}
use Rattle.measure.specs.Measures.{Operations}
use Rattle.equivalence.specs.Regular.{Table}
use Rattle.equivalence.proofs.Gathering.{total_same}
use Rattle.question.specs.Lines.{earlier}
use Rattle.question.specs.Truth.{Columns, row, claimed, line_row, rows}
use Rattle.question.specs.declared.line.Line.{Line}
use Rattle.question.specs.declared.line.Claim.{Claim}
use Rattle.question.specs.declared.line.Claim.TheVariants.{Colour, Not, And, Tied}

module _ {V : Type 0} (o : Operations V) (m : Meaning) (colours : Table) (at : Columns) where
  abbrev row_more : List (ℕ → Bool) → Line → List (ℕ → Bool)
  row_more before line = before ++ line_row o m colours at (row before) line ∷ []

  pub rows_more : (lines : List Line) (k : ℕ) (d : Line) → k < length lines → rows o m colours at (take (k + 1) lines) ≡ rows o m colours at (take k lines) ++ line_row o m colours at (row (rows o m colours at (take k lines))) (get_or lines k d) ∷ []
  rows_more lines k d l = fold_more row_more [] lines k d l

  length_fold : (lines : List Line) (before : List (ℕ → Bool)) → length (fold row_more before lines) ≡ length before + length lines
  length_fold [] before = omega arith
  length_fold (line ∷ lines) before = omega (arith, length_fold lines (row_more before line), length_push before (line_row o m colours at (row before) line))

  -- one row for each line
  pub length_rows : (lines : List Line) → length (rows o m colours at lines) ≡ length lines
  length_rows lines = omega (arith, length_fold lines [])

  -- the rows so far stay as further lines are answered
  row_stays : (lines : List Line) (before : List (ℕ → Bool)) (j : ℕ) → j < length before → row (fold row_more before lines) j ≡ row before j
  row_stays [] before j l = refl
  row_stays (line ∷ lines) before j l =
      row_stays lines (row_more before line) j (omega (arith, l, length_push before (line_row o m colours at (row before) line)))
      ∙ get_or_append_left before (line_row o m colours at (row before) line ∷ []) _ j l

  -- the row of line j is known once line j is answered
  pub row_known : (lines : List Line) (k j : ℕ) → j < k → k < length lines + 1 → row (rows o m colours at lines) j ≡ row (rows o m colours at (take k lines)) j
  row_known lines k j l in_lines =
      let parts : fold row_more [] lines ≡ fold row_more (fold row_more [] (take k lines)) (drop k lines) =
      ap (fold row_more []) (sym (take-append-drop k lines)) ∙ fold-append row_more [] (take k lines) (drop k lines)
      in
      ap (λ r. row r j) parts
      ∙ row_stays (drop k lines) (fold row_more [] (take k lines)) j (omega (arith, l, length_rows (take k lines), length-take-le k lines (omega (arith, in_lines))))

  -- a claim is read the same where the earlier lines that it names are true of the same columns
  pub claimed_same :
      (r s : ℕ → ℕ → Bool) (k p : ℕ)
      → ((j : ℕ) → j < k → r j p ≡ s j p)
      → ((j y : ℕ) → j < k → y < m.nodes → r j (at.column y) ≡ s j (at.column y))
      → (c : Claim)
      → earlier k c ≡ true
      → claimed o m colours at r c p ≡ claimed o m colours at s c p
  claimed_same r s k p here there (Colour c) e = refl
  claimed_same r s k p here there (Not j) e = ap not (here j (grind (arith, nat_tests)))
  claimed_same r s k p here there (And i j) e = ap₂ (λ a b. a && b) (here i (grind (arith, nat_tests))) (here j (grind (arith, nat_tests)))
  claimed_same r s k p here there (Tied j t) e = ap (λ v. o.holds v t) (total_same o m (at.node p) _ _ (λ y l. there j y (grind (arith, nat_tests)) l))
