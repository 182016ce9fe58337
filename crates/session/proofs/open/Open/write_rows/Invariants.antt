use Rattle.std.proofs.Common.{◌≡◌, ◌*◌, ◌++◌, take, drop, flat_map}
use Rattle.question.specs.Areas.{row_bytes}
use Rattle.question.specs.Truth.{rows}
use Rattle.session.specs.Tables.{colour_in}
use Rattle.session.proofs.open.Open.write_rows.Given as goal

-- the rows of the lines before line k are written
abbrev pub invariant-loop-k : goal.invariant-loop-k
invariant-loop-k g l =
    let before = rows g.M.Measure.ops (g.N.Readable.meaning l.self.network) (colour_in l.self.table) (g.C.Columns.columns l.columns) (take l.k l.question) in
    l.area ≡ flat_map (row_bytes l.width) before ++ drop (l.k * l.width) l.fn.area
