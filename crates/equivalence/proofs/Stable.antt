-- Tables that refine one another are one partition.
use Rattle.std.proofs.Common.{◌≡◌, ℕ, ◌<◌, ◌≤◌, Bool, true, not, ◌&&◌, eqb, sym, ap, ◌∙◌, inl, inr, arith}
use Rattle.std.specs.Prelude.{◌≢◌}
use Rattle.std.proofs.lemmas.Bool.{cases_Bool}
use Rattle.std.proofs.lemmas.Bool.Decides.{nat_tests}
use Rattle.network.specs.Meaning.{Meaning, count_below}
use Rattle.network.proofs.Counting.{count_below_inject, count_below_more}
use Rattle.measure.specs.Measures.{Operations}
use Rattle.equivalence.specs.Regular.{Table, Regular, members}
use Rattle.equivalence.specs.Heads.{head_of, is_head, roles}
use Rattle.equivalence.specs.Coarsest.{Refines, Coarsest}
use Rattle.equivalence.proofs.Gathering.{total_same}
use Rattle.equivalence.proofs.Heads.{head_is, head_le, head_lowest, head_mate, head_again, head_same, head_decides}
use Rattle.equivalence.proofs.Refinement.{is_head_finer, roles_le}

-- those that pass p pass q, and q has no more: then those that pass q pass p
count_below_back :
    (p q : ℕ → Bool) (n : ℕ)
    → ((k : ℕ) → k < n → p k ≡ true → q k ≡ true)
    → count_below q n ≤ count_below p n
    → (k : ℕ) → k < n → q k ≡ true → p k ≡ true
count_below_back p q n into few k l within =
    elim (cases_Bool (p k)) [
      | inl here ↦ here
      | inr none ↦
          let rest : ℕ → Bool = λ j. q j && not (eqb j k) in
          let off : (j : ℕ) → p j ≡ true → j ≢ k = λ j t e. grind (arith, ap p e) in
          let fewer = count_below_inject p rest n n (λ j. j) (λ j lj t. (lj, grind (arith, nat_tests, into j lj t, off j t))) (λ i j _ _ _ _ e. e) in
          let more = count_below_more rest q n k l (grind (arith, nat_tests)) within (λ j off. grind (arith, nat_tests)) in
          absurd (omega (arith, fewer, more))
    ]

-- a table with no more roles than a coarser one is that partition
pub refines_back : (n : ℕ) (fine coarse : Table) → Refines n fine coarse → roles fine n ≤ roles coarse n → Refines n coarse fine
refines_back n fine coarse refines few x y hx hy e =
    let low : ℕ → ℕ = head_of fine in
    let node : (k : ℕ) → k < n → low k < n = λ k l. omega (arith, head_le fine k, l) in
    let still : (k : ℕ) → k < n → head_of coarse (low k) ≡ low k =
    λ k l. (head_decides coarse (low k)).0 (count_below_back (is_head coarse) (is_head fine) n (is_head_finer n fine coarse refines) few (low k) (node k l) ((head_decides fine (low k)).1 (head_again fine k))) in
    let shared : coarse (low x) ≡ coarse (low y) =
    refines (low x) x (node x hx) hx (head_mate fine x) ∙ e ∙ sym (refines (low y) y (node y hy) hy (head_mate fine y)) in
    let one : low x ≡ low y = sym (still x hx) ∙ head_same coarse (low x) (low y) shared ∙ still y hy in
    sym (head_mate fine x) ∙ ap fine one ∙ head_mate fine y

module _ (n : ℕ) (a b : Table) (to : Refines n a b) (from : Refines n b a) where
  members_same : (z y : ℕ) → z < n → y < n → members a (a z) y ≡ members b (b z) y
  members_same z y hz hy = grind (arith, nat_tests, to y z hy hz, from y z hy hz)

  pub heads_same : (x : ℕ) → x < n → head_of a x ≡ head_of b x
  heads_same x l =
      let low = head_le b x in
      head_is a (head_of b x) x (from (head_of b x) x (omega arith) l (head_mate b x))
      (λ k under e. head_lowest b x k under (to k x (omega arith) l e))

  pub roles_same : roles a n ≡ roles b n
  roles_same = omega (arith, roles_le n a b to, roles_le n b a from)

module _ {V : Type 0} (o : Operations V) (m : Meaning) where
  -- being regular is of the partition
  pub regular_same : (a b : Table) → Refines m.nodes a b → Refines m.nodes b a → Regular o m a → Regular o m b
  regular_same a b to from regular z hz x y hx hy e =
      let set = λ (k : ℕ) (l : k < m.nodes). members_same m.nodes b a from to z k hz l in
      total_same o m x (members b (b z)) (members a (a z)) set ∙ regular z hz x y hx hy (from x y hx hy e) ∙ sym (total_same o m y (members b (b z)) (members a (a z)) set)

  -- the coarsest table is one partition
  pub coarsest_one : (classes a b : Table) → Coarsest o m classes a → Coarsest o m classes b → Refines m.nodes a b × Refines m.nodes b a × (roles a m.nodes ≡ roles b m.nodes)
  coarsest_one classes a b one other =
      let to = other.covers.inside a one.regular one.covers.within in
      let from = one.covers.inside b other.regular other.covers.within in
      (to, from, roles_same m.nodes a b to from)
