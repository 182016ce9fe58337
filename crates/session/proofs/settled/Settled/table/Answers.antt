use Rattle.equivalence.proofs.Refinement.{fewest}
use Rattle.session.proofs.settled.Settled.table.Goals as goal

pub returns-clause-coarsest : goal.returns-clause-coarsest
returns-clause-coarsest g c =
    let s = c.args.self.now in
    record { regular = s.regular; covers = s.session.sound.covers }

pub returns-clause-fewest : goal.returns-clause-fewest
returns-clause-fewest g c = fewest g.M.Measure.ops
