use Rattle.std.proofs.Common.{◌≡◌, ◌<◌, ℕ}
use Rattle.equivalence.specs.Regular.{Balanced, members}
use Rattle.session.specs.Tables.{role_in}
use Rattle.session.proofs.open.Open.step.Given as goal

-- nothing is altered, and the table is balanced toward each role so far
abbrev pub invariant-loop-c : goal.invariant-loop-c
invariant-loop-c g l =
    let role = role_in l.fn.self.table in
    (l.self ≡ l.fn.self) × ((k : ℕ) → k < l.c → Balanced g.M.Measure.ops (g.N.Readable.meaning l.fn.self.network) role (members role k))
