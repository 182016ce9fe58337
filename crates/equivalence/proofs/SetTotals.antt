-- The totals of a measure of sets, member by member: a total has a member exactly where some node of the set brings it.
use Rattle.std.proofs.Common.{◌≡◌, ℕ, zero, suc, ◌<◌, Bool, true, false, cond, ◌&&◌, ◌||◌, Decides, sym, refl, ap, ◌∙◌}
use mathlib.Core.Path.{fun_ext}
use mathlib.Core.Bool.{or_comm}
use Rattle.std.proofs.lemmas.Bool.{and_parts, and_from}
use Rattle.std.proofs.lemmas.Bool.Decides.{Decides-below_or}
use Rattle.network.specs.Meaning.{Meaning}
use Rattle.measure.specs.Measures.{Operations}
use Rattle.equivalence.specs.Totals.{gather, share, total}

-- p holds of some number below n
abbrev any_below : (ℕ → Bool) → ℕ → Bool
any_below p zero = false
any_below p (suc n) = p n || any_below p n

any_decides : (p : ℕ → Bool) (n : ℕ) → Decides (any_below p n) ((y : ℕ) × (y < n) × (p y ≡ true))
any_decides p = Decides-below_or p (λ y. p y ≡ true) (any_below p) (λ y. (λ e. e, λ e. e)) refl (λ _. refl)

-- test t asks for a member, which a pair with these bytes brings or not
pub record Member {V : Type 0} (o : Operations V) (t : ℕ) (brings : ℕ → ℕ → Bool) : Type 0 where
  pub of_none : o.holds o.none t ≡ false
  pub of_weigh : (out into : ℕ) → o.holds (o.weigh out into) t ≡ brings out into
  pub of_join : (a b : V) → o.holds (o.join a b) t ≡ (o.holds a t || o.holds b t)

module _ {V : Type 0} (o : Operations V) (t : ℕ) (brings : ℕ → ℕ → Bool) (is : Member o t brings) where
  gather_holds : (f : ℕ → V) (n : ℕ) → o.holds (gather o f n) t ≡ any_below (λ y. o.holds (f y) t) n
  gather_holds f zero = is.of_none
  gather_holds f (suc n) =
      is.of_join (gather o f n) (f n)
      ∙ ap (λ b. b || o.holds (f n) t) (gather_holds f n)
      ∙ or_comm (any_below (λ y. o.holds (f y) t) n) (o.holds (f n) t)

  chosen_holds : (inner : Bool) (v : V) → o.holds (cond inner v o.none) t ≡ (inner && o.holds v t)
  chosen_holds true v = refl
  chosen_holds false v = is.of_none

  module _ (m : Meaning) (x : ℕ) (among : ℕ → Bool) where
    -- y is in the set and brings the member
    abbrev brought : ℕ → Bool
    brought y = among y && brings (m.tie x y) (m.tie y x)

    share_holds : (y : ℕ) → o.holds (share o m x among y) t ≡ brought y
    share_holds y = chosen_holds (among y) (o.weigh (m.tie x y) (m.tie y x)) ∙ ap (λ b. among y && b) (is.of_weigh (m.tie x y) (m.tie y x))

    total_holds : o.holds (total o m x among) t ≡ any_below brought m.nodes
    total_holds = gather_holds (share o m x among) m.nodes ∙ ap (λ p. any_below p m.nodes) (fun_ext λ y. share_holds y)

    pub node_from_total : o.holds (total o m x among) t ≡ true → (y : ℕ) × (y < m.nodes) × (among y ≡ true) × (brings (m.tie x y) (m.tie y x) ≡ true)
    node_from_total e =
        let found = (any_decides brought m.nodes).0 (sym total_holds ∙ e) in
        let both = and_parts (among found.0) (brings (m.tie x found.0) (m.tie found.0 x)) found.2 in
        (found.0, found.1, both.0, both.1)

    pub total_from_node : (y : ℕ) → y < m.nodes → among y ≡ true → brings (m.tie x y) (m.tie y x) ≡ true → o.holds (total o m x among) t ≡ true
    total_from_node y node inner has = total_holds ∙ (any_decides brought m.nodes).1 (y, node, and_from (among y) _ inner has)
