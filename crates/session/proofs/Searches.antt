-- What a search below a bound tells.
use Rattle.std.proofs.Common.{ℕ, ◌<◌, ◌≤◌, Option, Some, None, MatchOption, arith}

pub first_below : (r : Option ℕ) (n : ℕ) (Yes No Found : ℕ → Type 0)
    → ((i : ℕ) → i < n → Yes i → ((k : ℕ) → k < i → No k) → Found i)
    → MatchOption r ((k : ℕ) → 0 ≤ k → k < n → No k) (λ i. (0 ≤ i) × (i < n) × Yes i × ((k : ℕ) → 0 ≤ k → k < i → No k))
    → MatchOption r ((k : ℕ) → k < n → No k) Found
first_below None n Yes No Found found all = λ k l. all k (omega arith) l
first_below (Some i) n Yes No Found found is = found i is.1 is.2 (λ k l. is.3 k (omega arith) l)
