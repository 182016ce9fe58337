use Rattle.session.proofs.Classes.{classes_law}
use Rattle.session.proofs.Keeping.{sound_begun}
use Rattle.session.proofs.open.Open.new.Goals as goal

pub invariant_of-result : goal.invariant_of-result
invariant_of-result g c = record { sound = sound_begun c.new-table.result g.M.Measure.ops (g.N.Readable.meaning c.args.network) c.new-table.ensures.start }

pub returns-clause-classes : goal.returns-clause-classes
returns-clause-classes g c = classes_law
