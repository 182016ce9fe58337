use Rattle.std.proofs.Common.{rules}
use Rattle.session.specs.SettledSessions.{settled_state}
use Rattle.script.proofs.Settling.{head_told}
use Rattle.script.proofs.listing.head_of.Goals as goal

pub returns : goal.returns
returns g c =
    let s = c.args.settled.now in
    search (rules, head_told g.M.Measure.ops g.met.M.Measure.lawful (settled_state s) s.session.sound s.regular c.args.x c.requires)
