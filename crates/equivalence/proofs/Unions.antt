-- A regular table has equal totals toward every union of its roles.
use Rattle.std.proofs.Common.{◌≡◌, ℕ, zero, suc, ◌<◌, ◌≤◌, Bool, true, false, cond, not, ◌&&◌, eqb, sym, refl, ap, ◌∙◌, ap₂, arith}
use Rattle.std.proofs.lemmas.Bool.Decides.{nat_tests}
use Rattle.network.specs.Meaning.{Meaning}
use Rattle.measure.specs.Measures.{Operations, Laws}
use Rattle.equivalence.specs.Totals.{gather, share, total}
use Rattle.equivalence.specs.Regular.{Table, Balanced, Regular, members}
use Rattle.equivalence.proofs.Gathering.{gather_same, total_same}

abbrev IsUnion : ℕ → Table → (ℕ → Bool) → Type 0
IsUnion n role among = (a b : ℕ) → a < n → b < n → role a ≡ role b → among a ≡ among b

module _ {V : Type 0} (o : Operations V) (laws : Laws o) where
  exchange : (a b c d : V) → o.join (o.join a b) (o.join c d) ≡ o.join (o.join a c) (o.join b d)
  exchange a b c d =
      laws.assoc a b (o.join c d)
      ∙ ap (o.join a) (sym (laws.assoc b c d) ∙ ap (λ v. o.join v d) (laws.comm b c) ∙ laws.assoc c b d)
      ∙ sym (laws.assoc a c (o.join b d))

  gather_join : (f g : ℕ → V) (n : ℕ) → gather o (λ k. o.join (f k) (g k)) n ≡ o.join (gather o f n) (gather o g n)
  gather_join f g zero = sym (laws.neutral o.none)
  gather_join f g (suc n) = ap (λ v. o.join v (o.join (f n) (g n))) (gather_join f g n) ∙ exchange (gather o f n) (gather o g n) (f n) (g n)

  parted : (c d : Bool) (w : V) → cond c w o.none ≡ o.join (cond (c && not d) w o.none) (cond (c && d) w o.none)
  parted true true w = sym (laws.comm o.none w ∙ laws.neutral w)
  parted true false w = sym (laws.neutral w)
  parted false d w = sym (laws.neutral o.none)

  -- a set has the totals of its parts, out of another set and in it
  total_parted : (m : Meaning) (x : ℕ) (c d : ℕ → Bool) → total o m x c ≡ o.join (total o m x (λ y. c y && not (d y))) (total o m x (λ y. c y && d y))
  total_parted m x c d =
      gather_same o _ _ m.nodes (λ y _. parted (c y) (d y) (o.weigh (m.tie x y) (m.tie y x)))
      ∙ gather_join (share o m x (λ y. c y && not (d y))) (share o m x (λ y. c y && d y)) m.nodes

  module _ (m : Meaning) (role : Table) (regular : Regular o m role) where
    balanced_same : (a b : ℕ → Bool) → ((y : ℕ) → y < m.nodes → a y ≡ b y) → Balanced o m role b → Balanced o m role a
    balanced_same a b same balance x y hx hy e = total_same o m x a b same ∙ balance x y hx hy e ∙ sym (total_same o m y a b same)

    -- one role, or no nodes
    balanced_one : (b : Bool) (k : ℕ) → k < m.nodes → Balanced o m role (λ y. b && members role (role k) y)
    balanced_one true k node = regular k node
    balanced_one false k node = λ x y hx hy e. refl

    -- a union of roles that has no node from k on
    balanced_below : (k : ℕ) → k ≤ m.nodes → (among : ℕ → Bool) → IsUnion m.nodes role among → ((y : ℕ) → k ≤ y → y < m.nodes → among y ≡ false) → Balanced o m role among
    balanced_below zero fits among union none = balanced_same among (λ _. false) (λ y l. none y (omega arith) l) (λ x y hx hy e. refl)
    balanced_below (suc k) fits among union none =
        let node : k < m.nodes = omega arith in
        let rest : ℕ → Bool = λ y. among y && not (members role (role k) y) in
        let one : ℕ → Bool = λ y. among y && members role (role k) y in
        let still : IsUnion m.nodes role rest = λ a b la lb e. ap₂ (λ s t. s && not t) (union a b la lb e) (ap (λ r. eqb r (role k)) e) in
        let below = balanced_below k (omega arith) rest still (λ y le l. grind (arith, nat_tests, none y)) in
        let here = balanced_same one (λ y. among k && members role (role k) y) (λ y l. grind (arith, nat_tests, union y k l node)) (balanced_one (among k) k node) in
        λ x y hx hy e. total_parted m x among (members role (role k)) ∙ ap₂ o.join (below x y hx hy e) (here x y hx hy e) ∙ sym (total_parted m y among (members role (role k)))

-- a set that has all or none of the nodes of each role
pub balanced_union :
    {V : Type 0} (o : Operations V) (laws : Laws o) (m : Meaning) (role : Table)
    → Regular o m role
    → (among : ℕ → Bool)
    → ((a b : ℕ) → a < m.nodes → b < m.nodes → role a ≡ role b → among a ≡ among b)
    → Balanced o m role among
balanced_union o laws m role regular among union = balanced_below o laws m role regular m.nodes (omega arith) among union (λ y le l. absurd (omega arith))
