-- Laws and bounds of sums and counts over the numbers below n.
use Rattle.std.proofs.Common.{◌≡◌, ℕ, zero, suc, ◌+◌, ◌<◌, ◌≤◌, Bool, true, false, cond, not, ◌&&◌, eqb, refl, ap, ◌∙◌, inl, inr, arith}
use Rattle.std.proofs.lemmas.Bool.{cases_Bool, cases_lt, cases_eq}
use Rattle.std.proofs.lemmas.Bool.Decides.{nat_tests}
use Rattle.network.specs.Meaning.{sum_below, count_below}

pub sum_below_none : (f : ℕ → ℕ) (n : ℕ) → ((k : ℕ) → k < n → f k ≡ 0) → sum_below f n ≡ 0
sum_below_none f zero h = refl
sum_below_none f (suc n) h = omega (arith, sum_below_none f n (λ k l. h k (omega arith)), h n (omega arith))

sum_below_plus : (f g : ℕ → ℕ) (n : ℕ) → sum_below (λ k. f k + g k) n ≡ sum_below f n + sum_below g n
sum_below_plus f g zero = omega arith
sum_below_plus f g (suc n) = omega (arith, sum_below_plus f g n)

-- a double sum, by rows or by columns
pub sum_below_swap : (f : ℕ → ℕ → ℕ) (m n : ℕ) → sum_below (λ i. sum_below (λ j. f i j) n) m ≡ sum_below (λ j. sum_below (λ i. f i j) m) n
sum_below_swap f m zero = sum_below_none (λ _. 0) m (λ _ _. refl)
sum_below_swap f m (suc n) =
    sum_below_plus (λ i. sum_below (λ j. f i j) n) (λ i. f i n) m ∙ ap (λ k. k + sum_below (λ i. f i n) m) (sum_below_swap f m n)

pub sum_below_le : (f g : ℕ → ℕ) (n : ℕ) → ((k : ℕ) → k < n → f k ≤ g k) → sum_below f n ≤ sum_below g n
sum_below_le f g zero h = omega arith
sum_below_le f g (suc n) h = omega (arith, sum_below_le f g n (λ k l. h k (omega arith)), h n (omega arith))

-- one summand falls short, so the sum does
pub sum_below_lt : (f g : ℕ → ℕ) (n : ℕ) → ((k : ℕ) → k < n → f k ≤ g k) → (i : ℕ) → i < n → f i < g i → sum_below f n < sum_below g n
sum_below_lt f g zero h i l short = omega arith
sum_below_lt f g (suc n) h i l short =
    let lower = λ (k : ℕ) (l : k < n). h k (omega arith) in
    let here : f n ≤ g n = h n (omega arith) in
    elim (cases_lt i n) [
      | inl below ↦ omega (arith, sum_below_lt f g n lower i below short)
      | inr above ↦ let e : i ≡ n = omega arith in omega (arith, sum_below_le f g n lower, rw e at short)
    ]

one_le : (a b : Bool) → (a ≡ true → b ≡ true) → ◌≤◌ (cond a 1 0) (cond b 1 0)
one_le a b within = grind (arith, nat_tests, within)

-- those that pass p pass q
pub count_below_within : (p q : ℕ → Bool) (n : ℕ) → ((k : ℕ) → p k ≡ true → q k ≡ true) → count_below p n ≤ count_below q n
count_below_within p q n within = sum_below_le (λ k. cond (p k) 1 0) (λ k. cond (q k) 1 0) n (λ k _. one_le (p k) (q k) (within k))

-- and one more passes q
pub count_below_short : (p q : ℕ → Bool) (n : ℕ) → ((k : ℕ) → p k ≡ true → q k ≡ true) → (i : ℕ) → i < n → p i ≡ false → q i ≡ true → count_below p n < count_below q n
count_below_short p q n within i l out is =
    sum_below_lt (λ k. cond (p k) 1 0) (λ k. cond (q k) 1 0) n (λ k _. one_le (p k) (q k) (within k)) i l (rw (out, is) (omega arith))

pub count_below_all : (n : ℕ) → count_below (λ _. true) n ≡ n
count_below_all zero = refl
count_below_all (suc n) = omega (arith, count_below_all n)

pub count_below_le : (p : ℕ → Bool) (n : ℕ) → count_below p n ≤ n
count_below_le p n = omega (arith, count_below_within p (λ _. true) n (λ _ _. refl), count_below_all n)

pub count_below_lt : (p : ℕ → Bool) (n i : ℕ) → i < n → p i ≡ false → count_below p n < n
count_below_lt p n i l out = omega (arith, count_below_short p (λ _. true) n (λ _ _. refl) i l out refl, count_below_all n)

same_one : (a b : Bool) → a ≡ b → ◌≡◌ {A = ℕ} (cond a 1 0) (cond b 1 0)
same_one a b e = ap {B = ℕ} (λ t. cond t 1 0) e

pub sum_below_same : (f g : ℕ → ℕ) (n : ℕ) → ((k : ℕ) → k < n → f k ≡ g k) → sum_below f n ≡ sum_below g n
sum_below_same f g zero h = refl
sum_below_same f g (suc n) h = omega (arith, sum_below_same f g n (λ k l. h k (omega arith)), h n (omega arith))

pub count_below_same : (p q : ℕ → Bool) (n : ℕ) → ((k : ℕ) → k < n → p k ≡ q k) → count_below p n ≡ count_below q n
count_below_same p q n h = sum_below_same (λ k. cond (p k) 1 0) (λ k. cond (q k) 1 0) n (λ k l. same_one (p k) (q k) (h k l))

-- the summand at x is one more, and every other the same
pub sum_below_more : (f g : ℕ → ℕ) (n x : ℕ) → x < n → g x ≡ f x + 1 → ((k : ℕ) → (k ≡ x → ⊥) → f k ≡ g k) → sum_below g n ≡ sum_below f n + 1
sum_below_more f g zero x l more h = omega arith
sum_below_more f g (suc n) x l more h =
    elim (cases_lt x n) [
      | inl below ↦ omega (arith, sum_below_more f g n x below more h, h n (λ e. omega arith))
      | inr above ↦
          let e : x ≡ n = omega arith in
          omega (arith, sum_below_same f g n (λ k l. h k (λ d. omega arith)), rw e at more)
    ]

-- x passes q and not p, and every other passes both or neither
pub count_below_more : (p q : ℕ → Bool) (n x : ℕ) → x < n → p x ≡ false → q x ≡ true → ((k : ℕ) → (k ≡ x → ⊥) → p k ≡ q k) → count_below q n ≡ count_below p n + 1
count_below_more p q n x l out within h =
    sum_below_more (λ k. cond (p k) 1 0) (λ k. cond (q k) 1 0) n x l (rw (out, within) refl) (λ k ne. same_one (p k) (q k) (h k ne))

-- the numbers that pass p go to numbers that pass q, no two to one
pub count_below_inject :
    (p q : ℕ → Bool) (n m : ℕ) (f : ℕ → ℕ)
    → ((k : ℕ) → k < n → p k ≡ true → (f k < m) × (q (f k) ≡ true))
    → ((j k : ℕ) → j < n → k < n → p j ≡ true → p k ≡ true → f j ≡ f k → j ≡ k)
    → count_below p n ≤ count_below q m
count_below_inject p q zero m f goes apart = omega arith
count_below_inject p q (suc n) m f goes apart =
    let apart' = λ (j k : ℕ) (lj : j < n) (lk : k < n). apart j k (omega arith) (omega arith) in
    elim (cases_Bool (p n)) [
      | inl here ↦
          let to = goes n (omega arith) here in
          let rest : ℕ → Bool = λ k. q k && not (eqb k (f n)) in
          let off : (k : ℕ) → k < n → p k ≡ true → f k ≡ f n → ⊥ = λ k l t e. omega (arith, apart k n (omega arith) (omega arith) t here e) in
          let still : (k : ℕ) → k < n → p k ≡ true → (f k < m) × (rest (f k) ≡ true) = λ k l t. grind (arith, nat_tests, off k l t, goes k (omega arith) t) in
          let fewer = count_below_inject p rest n m f still apart' in
          let more = count_below_more rest q m (f n) to.0 (grind (arith, nat_tests)) to.1 (λ k ne. grind (arith, nat_tests)) in
          omega (arith, fewer, more, same_one (p n) true here)
      | inr none ↦
          omega (arith, count_below_inject p q n m f (λ k l. goes k (omega arith)) apart', same_one (p n) false none)
    ]

-- one that passes is counted
pub count_below_pos : (p : ℕ → Bool) (n i : ℕ) → i < n → p i ≡ true → 0 < count_below p n
count_below_pos p n i l e = omega (arith, count_below_inject (λ _. true) p 1 n (λ _. i) (λ _ _ _. (l, e)) (λ j k hj hk _ _ _. omega arith))

-- where one at the most is counted, those that pass are one
pub count_below_one : (p : ℕ → Bool) (n i j : ℕ) → i < n → j < n → p i ≡ true → p j ≡ true → count_below p n ≤ 1 → i ≡ j
count_below_one p n i j li lj pi pj few =
    elim (cases_eq i j) [
      | inl e ↦ e
      | inr ne ↦
          let rest : ℕ → Bool = λ k. p k && not (eqb k i) in
          let more = count_below_more rest p n i li (grind (arith, nat_tests)) pi (λ k off. grind (arith, nat_tests)) in
          let pos = count_below_pos rest n j lj (grind (arith, nat_tests)) in
          absurd (omega (arith, more, pos))
    ]
