use Rattle.std.proofs.Common.{◌≡◌, ◌-◌}
use Rattle.session.specs.OpenSessions.{state_of, parts_of}
use Rattle.session.specs.States.{KeepsHeads, role_count}
use Rattle.session.proofs.open.Open.settle.Given as goal

-- ties, measure, colours and heads are as they were
abbrev pub invariant-loop : goal.invariant-loop
invariant-loop g l = (parts_of l.self ≡ parts_of l.fn.self) × ((state_of l.self).colours ≡ (state_of l.fn.self).colours) × KeepsHeads (state_of l.fn.self) (state_of l.self)

-- each split adds a role, and there are no more roles than nodes
abbrev pub decreases-loop : goal.decreases-loop
decreases-loop g l = (state_of l.self).network.nodes - role_count (state_of l.self)
