use Rattle.question.specs.Truth.{claimed}
use Rattle.question.specs.declared.line.Claim.{Claim}
use Rattle.session.specs.Marks.{marked}
use Rattle.session.specs.Tables.{colour_in}
use Rattle.session.proofs.Rows.{Filled}
use Rattle.session.proofs.open.Open.write_row.Given as goal

-- of each claim, the bytes in the columns below p are written
abbrev pub invariant-loop-p : goal.invariant-loop-p
invariant-loop-p g l = Filled l.row l.p (claimed g.M.Measure.ops (g.N.Readable.meaning l.self.network) (colour_in l.self.table) (g.C.Columns.columns l.columns) (marked (g.C.Columns.width l.columns) l.rows) (Claim.Colour l.c))

abbrev pub invariant-loop-p-2 : goal.invariant-loop-p-2
invariant-loop-p-2 g l = Filled l.row l.p (claimed g.M.Measure.ops (g.N.Readable.meaning l.self.network) (colour_in l.self.table) (g.C.Columns.columns l.columns) (marked (g.C.Columns.width l.columns) l.rows) (Claim.Not l.k))

abbrev pub invariant-loop-p-3 : goal.invariant-loop-p-3
invariant-loop-p-3 g l = Filled l.row l.p (claimed g.M.Measure.ops (g.N.Readable.meaning l.self.network) (colour_in l.self.table) (g.C.Columns.columns l.columns) (marked (g.C.Columns.width l.columns) l.rows) (Claim.And l.k l.l))

abbrev pub invariant-loop-p-4 : goal.invariant-loop-p-4
invariant-loop-p-4 g l = Filled l.row l.p (claimed g.M.Measure.ops (g.N.Readable.meaning l.self.network) (colour_in l.self.table) (g.C.Columns.columns l.columns) (marked (g.C.Columns.width l.columns) l.rows) (Claim.Tied l.k l.t))
