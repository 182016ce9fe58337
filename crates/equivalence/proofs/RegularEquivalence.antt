-- Regular under kinds is regular equivalence of each of the eight kinds.
use Rattle.std.proofs.Common.{◌≡◌, ℕ, ◌+◌, ◌<◌, ◌||◌, sym, refl, ◌∙◌, ap₂, arith}
use Rattle.std.proofs.lemmas.Bool.{lt-ltb}
use Rattle.std.proofs.lemmas.Bool.Decides.{nat_tests}
use Rattle.network.specs.Meaning.{Meaning}
use Rattle.measure.specs.Bits.{bit}
use Rattle.measure.specs.Kinds.{kinds}
use Rattle.measure.specs.BitsLemmas.{bit-or, same_bits}
use Rattle.measure.specs.KindLaws.{sets_same}
use Rattle.measure.specs.declared.kinds.sets.KindSets.{KindSets}
use Rattle.measure.proofs.Bits.{bit_low, bit_zero}
use Rattle.equivalence.specs.Totals.{total}
use Rattle.equivalence.specs.Regular.{Table, Regular, members}
use Rattle.equivalence.specs.Classical.{RegularInEach, RegularUnderKinds}
use Rattle.equivalence.proofs.SetTotals.{Member}
use Rattle.equivalence.proofs.Carrying.{carried_from_regular, same_member}

-- test k asks for a kind that goes out, test k + 8 for one that comes in
module _ (k : ℕ) (kind : k < 8) where
  tests_out : (v : KindSets) → kinds.holds v k ≡ bit v.out k
  tests_out v = rw (lt-ltb k 8 kind) refl

  tests_in : (v : KindSets) → kinds.holds v (k + 8) ≡ bit v.into k
  tests_in v = grind (arith, nat_tests)

  pub out_member : Member kinds k (λ o i. bit o k)
  out_member =
      record {
        of_none = tests_out kinds.none ∙ bit_zero k;
        of_weigh = λ o i. tests_out (kinds.weigh o i) ∙ bit_low 8 k o kind;
        of_join = λ a b. tests_out (kinds.join a b) ∙ bit-or a.out b.out k ∙ ap₂ (λ p q. p || q) (sym (tests_out a)) (sym (tests_out b));
      }

  pub in_member : Member kinds (k + 8) (λ o i. bit i k)
  in_member =
      record {
        of_none = tests_in kinds.none ∙ bit_zero k;
        of_weigh = λ o i. tests_in (kinds.weigh o i) ∙ bit_low 8 k i kind;
        of_join = λ a b. tests_in (kinds.join a b) ∙ bit-or a.into b.into k ∙ ap₂ (λ p q. p || q) (sym (tests_in a)) (sym (tests_in b));
      }

each_from_regular : (m : Meaning) (role : Table) → Regular kinds m role → RegularInEach m role
each_from_regular m role regular k kind =
    record {
      outgoing = carried_from_regular kinds _ _ (out_member k kind) m role regular;
      incoming = carried_from_regular kinds _ _ (in_member k kind) m role regular;
    }

regular_from_each : (m : Meaning) (role : Table) → RegularInEach m role → Regular kinds m role
regular_from_each m role each z hz x y hx hy e =
    let a = total kinds m x (members role (role z)) in
    let b = total kinds m y (members role (role z)) in
    sets_same a b
    (same_bits 8 a.out b.out a.out_byte b.out_byte
    (λ k kind. sym (tests_out k kind a) ∙ same_member kinds _ _ (out_member k kind) m role (each k kind).outgoing x y z hx hy e ∙ tests_out k kind b))
    (same_bits 8 a.into b.into a.into_byte b.into_byte
    (λ k kind. sym (tests_in k kind a) ∙ same_member kinds _ _ (in_member k kind) m role (each k kind).incoming x y z hx hy e ∙ tests_in k kind b))

pub regular_under_kinds : RegularUnderKinds
regular_under_kinds m role = (each_from_regular m role, regular_from_each m role)
