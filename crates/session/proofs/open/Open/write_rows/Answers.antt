use Rattle.std.proofs.Common.{◌≡◌, ◌∙◌, length, take, arith}
use Rattle.std.proofs.lemmas.List.{length-take-le}
use Rattle.question.specs.Lines.{line_at}
use Rattle.question.specs.Truth.{rows}
use Rattle.question.proofs.Passing.{each_passes, names_earlier}
use Rattle.question.proofs.Rowing.{length_rows, rows_more}
use Rattle.session.specs.Tables.{colour_in}
use Rattle.session.proofs.Rows.{written, rows_front, row_written, line_read}
use Rattle.session.proofs.open.Open.write_rows.Goals as goal

pub write_row-requires-clause-written : goal.write_row-requires-clause-written
write_row-requires-clause-written g c a says =
    let k = c.loop-k.k in
    let after = names_earlier k (line_at c.args.question.now k) (each_passes c.args.question.now c.requires.lines k c.loop-k-test.true) a says in
    rw (c.split_at_mut-rows.ensures.front_len, c.width-width.ensures.value) (written (g.C.Columns.width c.args.columns.now) k a after)

pub loop-k-preserved : goal.loop-k-preserved
loop-k-preserved g c =
    let s = c.args.self.now in
    let o = g.M.Measure.ops in
    let m = g.N.Readable.meaning s.network in
    let columns = c.args.columns.now in
    let at = g.C.Columns.columns columns in
    let lines = c.args.question.now in
    let k = c.loop-k.k in
    let line = line_at lines k in
    let width = g.C.Columns.width columns in
    let same = c.width-width.ensures.value in
    let before = rows o m (colour_in s.table) at (take k lines) in
    let count : length before ≡ k = length_rows o m (colour_in s.table) at (take k lines) ∙ length-take-le k lines (omega (arith, c.loop-k-test.true)) in
    let parts = c.split_at_mut-rows.ensures in
    let held = rw same at c.loop-k.invariant in
    let front = rows_front width before k count c.loop-k.area c.args.area.now held c.split_at_mut-rows.result.0.now (rw same at parts.front) in
    let here = c.write_row.ensures ∙ line_read o m (colour_in s.table) at width (λ y node. g.met.C.Columns.known columns y (omega (arith, c.requires.fits))) before c.split_at_mut-rows.result.0.now line front (rw count (each_passes lines c.requires.lines k c.loop-k-test.true)) in
    rw (same, rows_more o m (colour_in s.table) at lines k (record { code = 0; k = 0; l = 0; byte = 0 }) c.loop-k-test.true)
    (row_written width before k count c.loop-k.area c.args.area.now held _ c.split_at_mut-rows.result.0.now c.split_at_mut-rows.result.1.now c.write_row.new.row front (rw same at parts.back) here)
