-- The lowest number below a bound that passes, and names by it.
use Rattle.std.proofs.Common.{◌≡◌, ℕ, zero, suc, ◌<◌, ◌≤◌, Bool, true, false, length, sym, subst, inl, inr, ◌↔◌, arith}
use Rattle.std.proofs.lemmas.Bool.{cases_Bool, cases_lt}
use Rattle.std.proofs.lemmas.List.FromFn.{get_or-map-range_with_len, length-map-range_with_len}
use Rattle.equivalence.specs.Heads.{lowest}
use Rattle.equivalence.specs.Vetted.{table_of}
use Rattle.equivalence.specs.Levels.{named}

pub lowest_le : (p : ℕ → Bool) (n : ℕ) → lowest p n ≤ n
lowest_le p zero = omega arith
lowest_le p (suc n) =
    elim (cases_Bool (p 0)) [
      | inl here ↦ rw here (omega arith)
      | inr none ↦ rw none (omega (arith, lowest_le (λ k. p (suc k)) n))
    ]

-- none below it passes
pub lowest_first : (p : ℕ → Bool) (n k : ℕ) → k < lowest p n → p k ≡ false
lowest_first p zero k l = absurd (omega arith)
lowest_first p (suc n) zero l =
    elim (cases_Bool (p 0)) [
      | inl here ↦ absurd (omega (arith, rw here at l))
      | inr none ↦ none
    ]
lowest_first p (suc n) (suc k) l =
    elim (cases_Bool (p 0)) [
      | inl here ↦ absurd (omega (arith, rw here at l))
      | inr none ↦ lowest_first (λ j. p (suc j)) n k (omega (arith, rw none at l))
    ]

-- where the bound passes, it does
pub lowest_passes : (p : ℕ → Bool) (n : ℕ) → p n ≡ true → p (lowest p n) ≡ true
lowest_passes p zero e = e
lowest_passes p (suc n) e =
    elim (cases_Bool (p 0)) [
      | inl here ↦ rw here here
      | inr none ↦ rw none (lowest_passes (λ k. p (suc k)) n e)
    ]

-- one that passes, where none below does
pub lowest_is : (p : ℕ → Bool) (n h : ℕ) → p n ≡ true → p h ≡ true → ((k : ℕ) → k < h → p k ≡ false) → lowest p n ≡ h
lowest_is p n h at here under =
    elim (cases_lt (lowest p n) h) [
      | inl below ↦ absurd (grind (arith, under (lowest p n) below, lowest_passes p n at))
      | inr above ↦
          elim (cases_lt h (lowest p n)) [
            | inl below ↦ absurd (grind (arith, lowest_first p n h below, here))
            | inr same ↦ omega (arith, above, same)
          ]
    ]

pub record Equivalence (together : ℕ → ℕ → Bool) : Type 0 where
  pub self : (x : ℕ) → together x x ≡ true
  pub back : (x y : ℕ) → together x y ≡ true → together y x ≡ true
  pub through : (x y z : ℕ) → together x y ≡ true → together y z ≡ true → together x z ≡ true

-- names by the lowest that is together with a number
module _ (together : ℕ → ℕ → Bool) (laws : Equivalence together) where
  abbrev name : ℕ → ℕ
  name x = lowest (together x) x

  pub name_with : (x : ℕ) → together x (name x) ≡ true
  name_with x = lowest_passes (together x) x (laws.self x)

  name_le : (x y : ℕ) → together x y ≡ true → name x ≤ name y
  name_le x y e =
      elim (cases_lt (name y) (name x)) [
        | inl under ↦ absurd (grind (arith, lowest_first (together x) x (name y) under, laws.through x y (name y) e (name_with y)))
        | inr over ↦ over
      ]

  -- numbers have one name exactly when they are together
  pub name_same : (x y : ℕ) → together x y ≡ true → name x ≡ name y
  name_same x y e = omega (arith, name_le x y e, name_le y x (laws.back x y e))

  pub name_together : (x y : ℕ) → name x ≡ name y → together x y ≡ true
  name_together x y e =
      laws.through x (name y) y (subst (λ k. together x k ≡ true) e (name_with x)) (laws.back y (name y) (name_with y))

  pub name_tells : (x y : ℕ) → (name x ≡ name y) ↔ (together x y ≡ true)
  name_tells x y = (name_together x y, name_same x y)

  pub name_again : (x : ℕ) → name (name x) ≡ name x
  name_again x = sym (name_same x (name x) (name_with x))

pub named_length : (n : ℕ) (together : ℕ → ℕ → Bool) → length (named n together) ≡ n
named_length n together = length-map-range_with_len (λ x. lowest (together x) x) 0 n

-- the list has the names
pub named_at : (n : ℕ) (together : ℕ → ℕ → Bool) (x : ℕ) → x < n → table_of (named n together) x ≡ lowest (together x) x
named_at n together x l = get_or-map-range_with_len (λ k. lowest (together k) k) 0 n x x 0 l (omega arith)
