-- The laws of kinds.
use Rattle.std.specs.Prelude.{◌≡◌, ◌<◌, refl}
use Rattle.std.proofs.Common.{ap}
use mathlib.Core.HLevel.{is_prop→PathP}
use Rattle.std.proofs.Math.Bridge.{le_prop}
use Rattle.std.proofs.lemmas.Nat.{or_comm}
use Rattle.std.specs.Int.Bits.{or_zero_r}
use Rattle.std.proofs.lemmas.Bool.Decides.{Decides-eqb, Decides-and, Decides-like}
use Rattle.measure.specs.Measures.{Laws}
use Rattle.measure.specs.Kinds.{kinds}
use Rattle.measure.specs.declared.kinds.sets.KindSets.{KindSets}
use Rattle.measure.specs.BitsLemmas.{or_assoc_below}

-- equal sets are equal values
pub sets_same : (a b : KindSets) → a.out ≡ b.out → a.into ≡ b.into → a ≡ b
sets_same a b o i =
    λ k. record {
      out = o k;
      into = i k;
      out_byte = is_prop→PathP (λ j. o j < 256) (λ j. le_prop) a.out_byte b.out_byte k;
      into_byte = is_prop→PathP (λ j. i j < 256) (λ j. le_prop) a.into_byte b.into_byte k;
    }

pub kinds_laws : Laws kinds
kinds_laws =
    record {
      comm = λ a b. sets_same _ _ (or_comm a.out b.out) (or_comm a.into b.into);
      assoc = λ a b c. sets_same _ _ (or_assoc_below 8 a.out b.out c.out a.out_byte b.out_byte c.out_byte) (or_assoc_below 8 a.into b.into c.into a.into_byte b.into_byte c.into_byte);
      neutral = λ a. sets_same _ _ (or_zero_r a.out) (or_zero_r a.into);
      nothing = sets_same _ _ refl refl;
      sameness =
          λ a b. Decides-like _ (λ e. sets_same a b e.0 e.1) (λ e. (ap (λ v. v.out) e, ap (λ v. v.into) e))
          (Decides-and _ _ (Decides-eqb a.out b.out) (Decides-eqb a.into b.into));
    }
