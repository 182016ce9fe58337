-- What a total is made of.
use Rattle.std.proofs.Common.{◌≡◌, ℕ, zero, suc, ◌+◌, ◌<◌, Bool, true, false, cond, List, ◌∷◌, map, filter, sym, refl, ap, ◌∙◌, ap₂, arith}
use Rattle.std.specs.List.{All, fold, range_with_len}
use Rattle.std.proofs.lemmas.List.Elements.{All-filter}
use Rattle.std.proofs.lemmas.List.FromFn.{length-range_with_len, get_or-range_with_len}
use Rattle.network.specs.Meaning.{Meaning}
use Rattle.measure.specs.Measures.{Operations, Laws}
use Rattle.equivalence.specs.Totals.{gather, share, total}

module _ {V : Type 0} (o : Operations V) where
  -- equal summands give equal sums
  pub gather_same : (f g : ℕ → V) (n : ℕ) → ((k : ℕ) → k < n → f k ≡ g k) → gather o f n ≡ gather o g n
  gather_same f g zero e = refl
  gather_same f g (suc n) e = ap₂ o.join (gather_same f g n (λ k h. e k (omega arith))) (e n (omega arith))

  -- sets with the same nodes have the same totals
  pub total_same : (m : Meaning) (x : ℕ) (a b : ℕ → Bool) → ((y : ℕ) → y < m.nodes → a y ≡ b y) → total o m x a ≡ total o m x b
  total_same m x a b e =
      gather_same (share o m x a) (share o m x b) m.nodes (λ y h. ap (λ (t : Bool). cond t (o.weigh (m.tie x y) (m.tie y x)) o.none) (e y h))

  -- a sum with what a number brings, where it passes
  abbrev pub step : (ℕ → V) → (ℕ → Bool) → V → ℕ → V
  step f p sum k = cond (p k) (o.join sum (f k)) sum

  module _ (laws : Laws o) (f : ℕ → V) (p : ℕ → Bool) where
    -- a number that is left out might as well bring nothing
    pick : (b : Bool) (sum : V) (k : ℕ) (ks : List ℕ) → fold o.join sum (map f (cond b (k ∷ ks) ks)) ≡ fold o.join (o.join sum (cond b (f k) o.none)) (map f ks)
    pick true sum k ks = refl
    pick false sum k ks = ap (λ v. fold o.join v (map f ks)) (sym (laws.neutral sum))

    abbrev chosen : ℕ → V
    chosen k = cond (p k) (f k) o.none

    gather_from : (a n : ℕ) → fold o.join (gather o chosen a) (map f (filter p (range_with_len a n))) ≡ gather o chosen (a + n)
    gather_from a zero = ap (gather o chosen) (omega arith)
    gather_from a (suc n) =
        let rest = filter p (range_with_len (a + 1) n) in
        let next : suc a ≡ a + 1 = omega arith in
        pick (p a) (gather o chosen a) a rest
        ∙ ap (λ k. fold o.join (gather o chosen k) (map f rest)) next
        ∙ gather_from (a + 1) n
        ∙ ap (gather o chosen) (omega arith)

    -- the sum over the numbers below n that pass
    pub gather_filter : (n : ℕ) → fold o.join o.none (map f (filter p (range_with_len 0 n))) ≡ gather o chosen n
    gather_filter n = gather_from 0 n ∙ ap (gather o chosen) (omega arith)

    passed : (b : Bool) (sum : V) (k : ℕ) → cond b (o.join sum (f k)) sum ≡ o.join sum (cond b (f k) o.none)
    passed true sum k = refl
    passed false sum k = sym (laws.neutral sum)

    steps_from : (a n : ℕ) → fold (step f p) (gather o chosen a) (range_with_len a n) ≡ gather o chosen (a + n)
    steps_from a zero = ap (gather o chosen) (omega arith)
    steps_from a (suc n) =
        let rest = range_with_len (a + 1) n in
        let next : suc a ≡ a + 1 = omega arith in
        ap (λ v. fold (step f p) v rest) (passed (p a) (gather o chosen a) a)
        ∙ ap (λ k. fold (step f p) (gather o chosen k) rest) next
        ∙ steps_from (a + 1) n
        ∙ ap (gather o chosen) (omega arith)

    -- the same in one pass
    pub gather_steps : (n : ℕ) → fold (step f p) o.none (range_with_len 0 n) ≡ gather o chosen n
    gather_steps n = steps_from 0 n ∙ ap (gather o chosen) (omega arith)

-- a list of nodes in order is of nodes
pub filtered_below : (among : ℕ → Bool) (n : ℕ) → All (λ y. y < n) (filter among (range_with_len 0 n))
filtered_below among n =
    All-filter among (λ y. y < n) (range_with_len 0 n)
    (λ k d l.
    let under : k < n = omega (arith, length-range_with_len 0 n, l) in
    omega (arith, get_or-range_with_len 0 n k d under, under))
