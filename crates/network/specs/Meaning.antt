-- What a network means.
--
--   Meaning       nodes, ties, allowed pairs and cap of a network
--   most_nodes    as many nodes as a network may have
--   inside        both numbers of a pair are nodes
--   tied          the pair has a tie byte above 0
--   sum_below     the sum of f k over each k below n
--   count_below   how many k below n pass
--   tied_pairs    how many pairs of nodes are tied
use Rattle.std.specs.Prelude.{ℕ, zero, suc, ◌+◌, Bool, cond, ◌&&◌, nat_lt}

pub record Meaning : Type 0 where
  pub nodes : ℕ
  -- tie i j is the byte from i to j; bit k of it says that i has a tie of kind k to j
  pub tie : ℕ → ℕ → ℕ
  -- the pairs that may be tied
  pub allowed : ℕ → ℕ → Bool
  -- how many pairs may be tied at a time
  pub capacity : ℕ

abbrev pub most_nodes : ℕ
most_nodes = 128

abbrev pub inside : ℕ → ℕ → ℕ → Bool
inside n i j = nat_lt i n && nat_lt j n

abbrev pub tied : Meaning → ℕ → ℕ → Bool
tied m i j = nat_lt 0 (m.tie i j)

abbrev pub sum_below : (ℕ → ℕ) → ℕ → ℕ
sum_below f zero = 0
sum_below f (suc n) = sum_below f n + f n

abbrev pub count_below : (ℕ → Bool) → ℕ → ℕ
count_below p n = sum_below (λ k. cond (p k) 1 0) n

abbrev pub tied_pairs : Meaning → ℕ
tied_pairs m = sum_below (λ i. count_below (tied m i) m.nodes) m.nodes
