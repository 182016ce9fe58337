-- What a session tells.
--
--   role_answer      the role of a node, or 3 where there is no such node
--   record_answer    the head and the size of a role, or 11 where there is no such role
--   nodes_of         the nodes of a role, in order
use Rattle.std.specs.Prelude.{ℕ, cond, nat_lt, List, filter, Result, Ok, Err}
use Rattle.std.specs.List.{range_with_len}
use Rattle.equivalence.specs.Regular.{members}
use Rattle.session.specs.States.{State, role, role_count, record_of}
use Rattle.session.specs.declared.faults.Fault.{Fault}
use Rattle.session.specs.declared.role.Role.{Role}

abbrev pub role_answer : State → ℕ → Result ℕ Fault
role_answer s x = cond (nat_lt x s.network.nodes) (Ok (role s x)) (Err Fault.Node)

abbrev pub record_answer : State → ℕ → Result Role Fault
record_answer s r = cond (nat_lt r (role_count s)) (Ok (record_of s r)) (Err Fault.Role)

abbrev pub nodes_of : State → ℕ → List ℕ
nodes_of s r = filter (members (role s) r) (range_with_len 0 s.network.nodes)
