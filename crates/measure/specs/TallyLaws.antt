-- The laws of tally.
use Rattle.std.specs.Prelude.{◌≡◌, ◌≤◌, refl}
use Rattle.std.proofs.Common.{ap, arith}
use mathlib.Core.HLevel.{is_prop→PathP}
use Rattle.std.proofs.Math.Bridge.{le_prop}
use Rattle.std.proofs.lemmas.Bool.Decides.{Decides-eqb, Decides-and, Decides-like}
use Rattle.measure.specs.Measures.{Laws}
use Rattle.measure.specs.Tally.{tally}
use Rattle.measure.specs.declared.tally.counts.Counts.{Counts}

-- equal counts are equal values
pub counts_same : (a b : Counts) → a.out ≡ b.out → a.into ≡ b.into → a ≡ b
counts_same a b o i =
    λ k. record {
      out = o k;
      into = i k;
      out_few = is_prop→PathP (λ j. o j ≤ 128) (λ j. le_prop) a.out_few b.out_few k;
      into_few = is_prop→PathP (λ j. i j ≤ 128) (λ j. le_prop) a.into_few b.into_few k;
    }

pub tally_laws : Laws tally
tally_laws =
    record {
      comm = λ a b. counts_same _ _ (omega arith) (omega arith);
      assoc = λ a b c. counts_same _ _ (omega arith) (omega arith);
      neutral = λ a. counts_same _ _ (omega arith) (omega arith);
      nothing = counts_same _ _ refl refl;
      sameness =
          λ a b. Decides-like _ (λ e. counts_same a b e.0 e.1) (λ e. (ap (λ v. v.out) e, ap (λ v. v.into) e))
          (Decides-and _ _ (Decides-eqb a.out b.out) (Decides-eqb a.into b.into));
    }
