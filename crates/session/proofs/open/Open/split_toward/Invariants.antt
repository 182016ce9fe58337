use Rattle.std.proofs.Common.{◌≡◌, ◌<◌, ℕ}
use Rattle.equivalence.specs.Regular.{Even, members}
use Rattle.session.specs.Tables.{role_in}
use Rattle.session.proofs.open.Open.split_toward.Given as goal

-- nothing is altered, and no role below r has nodes that differ
abbrev pub invariant-loop-r : goal.invariant-loop-r
invariant-loop-r g l =
    let role = role_in l.fn.self.table in
    (l.self ≡ l.fn.self) × ((k : ℕ) → k < l.r → Even g.M.Measure.ops (g.N.Readable.meaning l.fn.self.network) role k (members role l.c))
