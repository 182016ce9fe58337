use Rattle.question.proofs.Rowing.{length_rows}
use Rattle.session.specs.Tables.{colour_in}
use Rattle.session.proofs.open.Open.answer.Goals as goal

pub returns-clause-area : goal.returns-clause-area
returns-clause-area g c =
    let s = c.args.self.now in
    rw (length_rows g.M.Measure.ops (g.N.Readable.meaning s.network) (colour_in s.table) (g.C.Columns.columns c.args.columns.now) c.args.question.now) c.write_rows.ensures
