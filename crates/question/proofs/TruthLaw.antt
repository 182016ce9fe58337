-- The rows of a question are the one truth of its lines by which each is as it claims.
use Rattle.std.proofs.Common.{◌≡◌, ℕ, zero, suc, ◌+◌, ◌<◌, Bool, false, List, length, take, Some, None, sym, ap, ◌∙◌, arith}
use Rattle.std.proofs.lemmas.List.{get_or_push, length-take-le}
use Rattle.network.specs.Meaning.{Meaning}
use Rattle.measure.specs.Measures.{Operations}
use Rattle.equivalence.specs.Regular.{Table}
use Rattle.question.specs.Lines.{line_at}
use Rattle.question.specs.Checks.{EachPasses}
use Rattle.question.specs.Truth.{Columns, row, claimed, line_row, rows, AsClaimed, TruthLaw}
use Rattle.question.specs.declared.line.Line.{Line}
use Rattle.question.proofs.Passing.{names_earlier}
use Rattle.question.proofs.Rowing.{length_rows, rows_more, row_known, claimed_same}

module _ {V : Type 0} (o : Operations V) (m : Meaning) (colours : Table) (at : Columns) (lines : List Line) where
  abbrev all : List (ℕ → Bool)
  all = rows o m colours at lines

  abbrev before : ℕ → List (ℕ → Bool)
  before k = rows o m colours at (take k lines)

  -- the row of line k is by the rows of the lines before it
  row_next : (k : ℕ) → k < length lines → row all k ≡ line_row o m colours at (row (before k)) (line_at lines k)
  row_next k l =
      row_known o m colours at lines (k + 1) k (omega arith) (omega (arith, l))
      ∙ ap (λ r. row r k) (rows_more o m colours at lines k _ l)
      ∙ get_or_push (before k) (line_row o m colours at (row (before k)) (line_at lines k)) _ k (length_rows o m colours at (take k lines) ∙ length-take-le k lines (omega (arith, l)))

  module _ (each : EachPasses lines) where
    solved : AsClaimed o m colours at lines (row all)
    solved k c l says p =
        let stays : (j q : ℕ) → j < k → row (before k) j q ≡ row all j q =
        λ j q h. ap (λ f. f q) (sym (row_known o m colours at lines k j h (omega (arith, l))))
        in
        ap (λ f. f p) (row_next k l)
        ∙ ap {B = Bool} (λ t. elim t [ Some b ↦ claimed o m colours at (row (before k)) b p | None ↦ false ]) says
        ∙ claimed_same o m colours at (row (before k)) (row all) k p (λ j h. stays j p h) (λ j y h n. stays j (at.column y) h) c (names_earlier k (line_at lines k) (each k l) c says)

    only : (truth : ℕ → ℕ → Bool) → AsClaimed o m colours at lines truth → (n k p : ℕ) → k < n → k < length lines → truth k p ≡ row all k p
    only truth so zero k p h l = absurd (omega arith)
    only truth so (suc n) k p h l =
        let (c, says, after) = each k l in
        so k c l says p
        ∙ claimed_same o m colours at truth (row all) k p
        (λ j under. only truth so n j p (omega (arith, under, h)) (omega (arith, under, l)))
        (λ j y under node. only truth so n j (at.column y) (omega (arith, under, h)) (omega (arith, under, l)))
        c after
        ∙ sym (solved k c l says p)

pub truth_law : {V : Type 0} (o : Operations V) → TruthLaw o
truth_law o =
    record {
      solved = λ m colours at lines each. solved o m colours at lines each;
      only = λ m colours at lines truth each so k p l. only o m colours at lines each truth so (suc k) k p (omega arith) l;
    }
