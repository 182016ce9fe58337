use Rattle.session.proofs.Keeping.{sound_begun}
use Rattle.session.proofs.open.Open.put.Goals as goal

pub invariant_of-self-2 : goal.invariant_of-self-2
invariant_of-self-2 g c = record { sound = sound_begun c.restart.new.self g.M.Measure.ops (g.N.Readable.meaning c.put.new.self) c.restart.ensures.start }
