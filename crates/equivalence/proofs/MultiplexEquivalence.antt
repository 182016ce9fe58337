-- Regular under bundles is multiplex regular equivalence, over kinds 0 to 2 and their inverses.
use Rattle.std.proofs.Common.{◌≡◌, ℕ, true, ◌<◌, ◌&&◌, ◌||◌, eqb, ltb, sym, refl, ◌∙◌, ap₂, arith}
use Rattle.std.proofs.lemmas.Bool.{and_parts, and_from, lt-ltb, ltb-true, eq-eqb, eqb-true}
use Rattle.std.proofs.lemmas.Bool.Decides.{same_from_decides}
use Rattle.network.specs.Meaning.{Meaning}
use Rattle.measure.specs.Bundles.{bundles, bundle}
use Rattle.measure.specs.Bits.{bit}
use Rattle.measure.specs.BitsLemmas.{bit-or, same_bits}
use Rattle.measure.specs.declared.bundles.set.BundleSet.{BundleSet}
use Rattle.measure.proofs.Bits.{bit_zero}
use Rattle.measure.proofs.BundleBits.{bit-singleton, bundle_out, bundle_in, bundle_same, bundle_some, bundle_pos}
use Rattle.measure.specs.BundleLaws.{members_same}
use Rattle.equivalence.specs.Totals.{total}
use Rattle.equivalence.specs.Regular.{Table, Regular, members}
use Rattle.equivalence.specs.Multiplex.{SameBundle, MultiplexRegular, RegularUnderBundles}
use Rattle.equivalence.proofs.SetTotals.{Member}
use Rattle.equivalence.proofs.Carrying.{Carried, carried_from_regular, same_member}

-- test t asks for the bundle of this number
module _ (t : ℕ) (number : t < 64) where
  tests_bundle : (v : BundleSet) → bundles.holds v t ≡ bit v.members t
  tests_bundle v = rw (lt-ltb t 64 number) refl

  pub bundle_member : Member bundles t (λ o i. ltb 0 t && eqb (bundle o i) t)
  bundle_member =
      record {
        of_none = tests_bundle bundles.none ∙ bit_zero t;
        of_weigh = λ o i. tests_bundle (bundles.weigh o i) ∙ bit-singleton (bundle o i) t;
        of_join = λ a b. tests_bundle (bundles.join a b) ∙ bit-or a.members b.members t ∙ ap₂ (λ p q. p || q) (sym (tests_bundle a)) (sym (tests_bundle b));
      }

module _ (m : Meaning) where
  -- the number of what x has with y
  abbrev with : ℕ → ℕ → ℕ
  with x y = bundle (m.tie x y) (m.tie y x)

  same_from_number : (a c b d : ℕ) → with a c ≡ with b d → SameBundle m a c b d
  same_from_number a c b d e =
      record {
        outgoing = λ k kind. let s = bundle_out (m.tie a c) (m.tie c a) (m.tie b d) (m.tie d b) k kind e in (λ h. sym s ∙ h, λ h. s ∙ h);
        incoming = λ k kind. let s = bundle_in (m.tie a c) (m.tie c a) (m.tie b d) (m.tie d b) k kind e in (λ h. sym s ∙ h, λ h. s ∙ h);
      }

  number_from_same : (a c b d : ℕ) → SameBundle m a c b d → with a c ≡ with b d
  number_from_same a c b d same =
      bundle_same (m.tie a c) (m.tie c a) (m.tie b d) (m.tie d b)
      (λ k kind. same_from_decides _ _ (same.outgoing k kind) (λ h. h, λ h. h))
      (λ k kind. same_from_decides _ _ (same.incoming k kind) (λ h. h, λ h. h))

  module _ (role : Table) where
    multiplex_from_regular : Regular bundles m role → MultiplexRegular m role
    multiplex_from_regular regular a b c ha hb hc e (k, kind, some) =
        let t = with a c in
        let has = and_from (ltb 0 t) (eqb t t) (lt-ltb 0 t (bundle_pos (m.tie a c) (m.tie c a) k kind some)) (eq-eqb t t refl) in
        let found = carried_from_regular bundles t _ (bundle_member t (omega arith)) m role regular a b c ha hb hc e has in
        let d = found.0 in
        let number = eqb-true (with b d) t (and_parts (ltb 0 t) (eqb (with b d) t) found.3).1 in
        (d, found.1, found.2, same_from_number a c b d (sym number))

    carried_from_multiplex : MultiplexRegular m role → (t : ℕ) → Carried m.nodes (λ x y. (ltb 0 t && eqb (with x y) t) ≡ true) role
    carried_from_multiplex multiplex t a b c ha hb hc e has =
        let both = and_parts (ltb 0 t) (eqb (with a c) t) has in
        let number = eqb-true (with a c) t both.1 in
        let some = bundle_some (m.tie a c) (m.tie c a) (omega (arith, ltb-true 0 t both.0)) in
        let found = multiplex a b c ha hb hc e some in
        let same = number_from_same a c b found.0 found.3 in
        (found.0, found.1, found.2, and_from (ltb 0 t) (eqb (with b found.0) t) both.0 (eq-eqb _ t (sym same ∙ number)))

    regular_from_multiplex : MultiplexRegular m role → Regular bundles m role
    regular_from_multiplex multiplex z hz x y hx hy e =
        let a = total bundles m x (members role (role z)) in
        let b = total bundles m y (members role (role z)) in
        members_same a b
        (same_bits 64 a.members b.members a.wide b.wide
        (λ t number. sym (tests_bundle t number a) ∙ same_member bundles t _ (bundle_member t number) m role (carried_from_multiplex multiplex t) x y z hx hy e ∙ tests_bundle t number b))

pub regular_under_bundles : RegularUnderBundles
regular_under_bundles m role = (multiplex_from_regular m role, regular_from_multiplex m role)
