-- Where as many pairs may be tied at a time as can be, there is always room for one more.
use Rattle.std.proofs.Common.{◌≡◌, ℕ, ◌<◌, ◌≤◌, Bool, true, false, arith}
use Rattle.std.proofs.lemmas.Bool.Decides.{nat_tests}
use Rattle.network.specs.Meaning.{Meaning, tied, tied_pairs, sum_below, count_below}
use Rattle.network.specs.Put.{room}
use Rattle.network.proofs.Counting.{sum_below_lt, count_below_within, count_below_short}

-- only such pairs are tied
module _ (m : Meaning) (can : ℕ → ℕ → Bool) (within : (i j : ℕ) → tied m i j ≡ true → can i j ≡ true) where
  -- an untied pair among them is missing from the count
  tied_pairs_lt : (i j : ℕ) → i < m.nodes → j < m.nodes → can i j ≡ true → tied m i j ≡ false → tied_pairs m < sum_below (λ i. count_below (can i) m.nodes) m.nodes
  tied_pairs_lt i j hi hj is free =
      sum_below_lt (λ i. count_below (tied m i) m.nodes) (λ i. count_below (can i) m.nodes) m.nodes
      (λ k _. count_below_within (tied m k) (can k) m.nodes (within k))
      i hi
      (count_below_short (tied m i) (can i) m.nodes (within i) j hj free is)

  pub room_within : (i j b : ℕ) → i < m.nodes → j < m.nodes → can i j ≡ true → sum_below (λ i. count_below (can i) m.nodes) m.nodes ≤ m.capacity → room m i j b ≡ true
  room_within i j b hi hj is cap = grind (arith, nat_tests, tied_pairs_lt i j hi hj is)
