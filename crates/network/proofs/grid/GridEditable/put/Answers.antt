use Rattle.std.proofs.Common.{◌≡◌, Some, sym, ◌∙◌, rules}
use Rattle.network.specs.Layouts.{place_in}
use Rattle.network.proofs.Places.{grid_put_answer, grid_of-set, grid_written}
use Rattle.network.proofs.grid.GridEditable.put.Goals as goal

pub returns : goal.returns
returns g c =
    let m = c.args.self.now in
    let l = g.S.Shape.layout m.shape in
    let o = g.met.S.Shape.laid_out m.shape in
    let at : place_in l c.args.i c.args.j ≡ Some c.in-Some.place = sym c.place.ensures ∙ c.in-Some.is in
    search (rules, grid_put_answer l o, grid_of-set l o, grid_written l o)
