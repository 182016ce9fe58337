use Rattle.std.proofs.Common.{◌≡◌, ◌<◌, ℕ, length}
use Rattle.equivalence.specs.Vetted.{table_of}
use Rattle.session.specs.Roles.{head_at}
use Rattle.session.proofs.table.Table.of_heads.Given as goal

-- the nodes so far have their heads
abbrev pub invariant-loop-x : goal.invariant-loop-x
invariant-loop-x l =
    (length l.table.role_of.items ≡ l.x)
    × ((k : ℕ) → k < l.x → head_at l.table.roles.items (table_of l.table.role_of.items k) ≡ table_of l.heads k)
    × (l.table.colours ≡ l.fn.colours)
    × (l.table.splits ≡ l.fn.splits)
