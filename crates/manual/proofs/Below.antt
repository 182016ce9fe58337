-- What `all` finds in the list 0..n, said of the numbers below n.
use Rattle.std.proofs.Common.{◌≡◌, ℕ, ◌<◌, Bool, true, false, length, get_or, Decides, MatchBool, refl, sym, subst, arith}
use Rattle.std.specs.List.{HoldsAt, AllWithin, range_with_len}
use Rattle.std.proofs.lemmas.List.FromFn.{length-range_with_len, get_or-range_with_len}

module _ (P : ℕ → Type 0) (n : ℕ) where
  at : (k : ℕ) → k < n → get_or (range_with_len 0 n) k 0 ≡ k
  at k l = omega (arith, get_or-range_with_len 0 n k 0 l)

  pub decides_below : (r : Bool) → MatchBool r (AllWithin P (range_with_len 0 n) 0 (length (range_with_len 0 n))) ((k : ℕ) × (k < length (range_with_len 0 n)) × HoldsAt (λ y. P y → ⊥) (range_with_len 0 n) k) → Decides r ((y : ℕ) → y < n → P y)
  decides_below true h =
      (λ _ y l. subst P (at y l) (h y 0 (omega arith) (omega (arith, length-range_with_len 0 n))), λ _. refl)
  decides_below false h =
      let l : h.0 < n = omega (arith, h.1, length-range_with_len 0 n) in
      (λ e. absurd (cc), λ all. absurd (h.2 0 (subst P (sym (at h.0 l)) (all h.0 l))))
