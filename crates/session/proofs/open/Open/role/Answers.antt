use Rattle.std.proofs.Common.{◌<◌, length, arith}
use Rattle.session.proofs.Keeping.{numbered, recorded}
use Rattle.session.proofs.open.Open.role.Goals as goal

pub returns-clause-described : goal.returns-clause-described
returns-clause-described g c =
    let s = c.args.self.now in
    let m = g.N.Readable.meaning s.network in
    let known : c.args.r < length s.table.roles.items = rw c.count.ensures at c.if-r-count.false in
    rw (c.role.ensures, recorded s.table g.M.Measure.ops m s.sound.entries c.args.r known)
    (s.sound.described c.args.r (omega (arith, numbered s.table m.nodes s.sound.entries)))
