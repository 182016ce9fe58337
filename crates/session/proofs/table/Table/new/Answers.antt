use Rattle.std.proofs.Common.{◌∙◌, ap}
use Rattle.equivalence.specs.Vetted.{table_of}
use Rattle.session.proofs.Keeping.{uncoloured}
use Rattle.session.proofs.table.Table.new.Goals as goal

pub returns-clause-colours : goal.returns-clause-colours
returns-clause-colours g c x = ap (λ xs. table_of xs x) c.starting.ensures.colours ∙ uncoloured x
