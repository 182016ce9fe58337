use Rattle.std.proofs.Common.{◌≡◌, ◌<◌, ℕ, length}
use Rattle.equivalence.specs.Starting.{starting_classes}
use Rattle.equivalence.specs.Vetted.{table_of}
use Rattle.session.proofs.table.Table.starting.Given as goal

-- the classes of the nodes so far
abbrev pub invariant-loop-x : goal.invariant-loop-x
invariant-loop-x g l =
    (length l.heads.items ≡ l.x)
    × ((k : ℕ) → k < l.x → table_of l.heads.items k ≡ starting_classes (g.N.Readable.meaning l.network) (table_of l.colours) k)
