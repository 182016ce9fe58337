use Rattle.std.proofs.Common.{◌≡◌, ◌≤◌, filter, length}
use Rattle.std.specs.List.{range_with_len}
use Rattle.equivalence.specs.Regular.{members}
use Rattle.equivalence.specs.Vetted.{table_of}
use Rattle.session.proofs.table.Table.members.Given as goal

-- those below y
abbrev pub invariant-loop-y : goal.invariant-loop-y
invariant-loop-y l = (l.nodes.items ≡ filter (members (table_of l.self.role_of.items) l.r) (range_with_len 0 l.y)) × (length l.nodes.items ≤ l.y)
