-- Roles by their lowest nodes.
--
--   lowest     the lowest number below n that passes, or n where none does
--   head_of    the head of a node's role, which is its lowest node
--   is_head    a node is the head of its role
--   roles      how many roles a table has on n nodes: as many as heads
use Rattle.std.specs.Prelude.{ℕ, zero, suc, Bool, cond, ◌==◌}
use Rattle.network.specs.Meaning.{count_below}
use Rattle.equivalence.specs.Regular.{Table, members}

abbrev pub lowest : (ℕ → Bool) → ℕ → ℕ
lowest p zero = zero
lowest p (suc n) = cond (p zero) zero (suc (lowest (λ k. p (suc k)) n))

abbrev pub head_of : Table → ℕ → ℕ
head_of role x = lowest (members role (role x)) x

abbrev pub is_head : Table → ℕ → Bool
is_head role x = head_of role x == x

abbrev pub roles : Table → ℕ → ℕ
roles role n = count_below (is_head role) n
