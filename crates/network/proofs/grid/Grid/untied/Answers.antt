use Rattle.std.proofs.Common.{vec_items, arith}
use Rattle.std.proofs.lemmas.Grind.{common_steps}
use Rattle.network.proofs.Places.{grid_of-cleared}
use Rattle.network.proofs.grid.Grid.untied.Goals as goal

pub returns-clause-meaning : goal.returns-clause-meaning
returns-clause-meaning g c =
    grid_of-cleared (g.S.Shape.layout c.args.shape) (g.met.S.Shape.laid_out c.args.shape) (vec_items c.args.memory) _ (grind (arith, common_steps))
