-- The laws of bundles.
use Rattle.std.specs.Prelude.{◌≡◌, ◌^◌, ◌<◌, refl}
use Rattle.std.proofs.Common.{ap}
use mathlib.Core.HLevel.{is_prop→PathP}
use Rattle.std.proofs.Math.Bridge.{le_prop}
use Rattle.std.proofs.lemmas.Nat.{or_comm}
use Rattle.std.specs.Int.Bits.{or_zero_r}
use Rattle.std.proofs.lemmas.Bool.Decides.{Decides-eqb, Decides-like}
use Rattle.measure.specs.Measures.{Laws}
use Rattle.measure.specs.Bundles.{bundles}
use Rattle.measure.specs.declared.bundles.set.BundleSet.{BundleSet}
use Rattle.measure.specs.BitsLemmas.{or_assoc_below}

-- equal members are equal values
pub members_same : (a b : BundleSet) → a.members ≡ b.members → a ≡ b
members_same a b e = λ k. record { members = e k; wide = is_prop→PathP (λ j. e j < 2 ^ 64) (λ j. le_prop) a.wide b.wide k }

pub bundles_laws : Laws bundles
bundles_laws =
    record {
      comm = λ a b. members_same _ _ (or_comm a.members b.members);
      assoc = λ a b c. members_same _ _ (or_assoc_below 64 a.members b.members c.members a.wide b.wide c.wide);
      neutral = λ a. members_same _ _ (or_zero_r a.members);
      nothing = members_same _ _ refl;
      sameness = λ a b. Decides-like _ (members_same a b) (ap (λ v. v.members)) (Decides-eqb a.members b.members);
    }
