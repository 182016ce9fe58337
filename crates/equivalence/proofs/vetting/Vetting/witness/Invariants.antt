use Rattle.std.proofs.Common.{ℕ, ◌<◌}
use Rattle.equivalence.specs.Regular.{Balanced, members}
use Rattle.equivalence.specs.Vetted.{table_of}
use Rattle.equivalence.proofs.vetting.Vetting.witness.Given as goal

-- the table is balanced toward the role of each node below z
abbrev pub invariant-loop-z : goal.invariant-loop-z
invariant-loop-z g l =
    let role = table_of l.self.table.now in
    (k : ℕ) → k < l.z → Balanced g.M.Measure.ops (g.N.Readable.meaning l.self.network.now) role (members role (role k))
