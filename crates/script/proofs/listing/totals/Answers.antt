use Rattle.std.proofs.Common.{◌∙◌}
use Rattle.session.specs.SettledSessions.{settled_state}
use Rattle.script.proofs.Settling.{roles_told, splits_told}
use Rattle.script.proofs.listing.totals.Goals as goal

pub returns-clause-roles : goal.returns-clause-roles
returns-clause-roles g c =
    let s = c.args.settled.now in
    c.roles.ensures ∙ roles_told g.M.Measure.ops g.met.M.Measure.lawful (settled_state s) s.session.sound s.regular

pub returns-clause-splits : goal.returns-clause-splits
returns-clause-splits g c =
    let s = c.args.settled.now in
    c.splits.ensures.count ∙ splits_told g.M.Measure.ops g.met.M.Measure.lawful (settled_state s) s.session.sound s.regular
