-- What a node has with a set of nodes.
--
--   gather      f 0, f 1, .. f (n - 1), joined
--   share       what one node brings to a total
--   total       what node x has with the nodes of a set
--   labelled    the set of the nodes whose byte in a list is the label
--   flag        the flag of a node in a list of flags
use Rattle.std.specs.Prelude.{ℕ, zero, suc, Bool, false, cond, ◌&&◌, List, length, ◌==◌, nat_lt, slice_index, slice_index_or}
use Rattle.network.specs.Meaning.{Meaning}
use Rattle.measure.specs.Measures.{Operations}

abbrev pub gather : {V : Type 0} → Operations V → (ℕ → V) → ℕ → V
gather o f zero = o.none
gather o f (suc n) = o.join (gather o f n) (f n)

-- what y brings to the total of x
abbrev pub share : {V : Type 0} → Operations V → Meaning → ℕ → (ℕ → Bool) → ℕ → V
share o m x among y = cond (among y) (o.weigh (m.tie x y) (m.tie y x)) o.none

abbrev pub total : {V : Type 0} → Operations V → Meaning → ℕ → (ℕ → Bool) → V
total o m x among = gather o (share o m x among) m.nodes

abbrev pub labelled : List ℕ → ℕ → ℕ → Bool
labelled labels label y = nat_lt y (length labels) && slice_index labels y == label

abbrev pub flag : List Bool → ℕ → Bool
flag flags x = slice_index_or flags x false
