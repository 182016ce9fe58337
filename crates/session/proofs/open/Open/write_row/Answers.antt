use Rattle.std.proofs.Common.{◌≡◌, ℕ, Bool, cond, ◌*◌, replicate, Some, ◌∙◌, ap, sym, arith}
use Rattle.equivalence.specs.Totals.{total}
use Rattle.question.specs.Truth.{claimed}
use Rattle.question.specs.declared.line.Claim.{Claim}
use Rattle.session.specs.Marks.{marked}
use Rattle.session.specs.Tables.{colour_in}
use Rattle.session.proofs.Rows.{byte_of_test, filled_more, row_claimed, row_none}
use Rattle.session.proofs.open.Open.write_row.Goals as goal

pub is_true-requires : goal.is_true-requires
is_true-requires g c =
    let row = c.requires.written (Claim.Not c.in-Some-Not.k) (sym c.claim.ensures ∙ c.in-Some-Not.is ∙ ap Some c.in-Some-Not.field-0-is) in
    omega (arith, row, ap (λ w. c.in-Some-Not.k * w) c.width-width.ensures.value, c.requires.width, c.loop-p-2-test.true)

pub is_true-requires-in-loop-p-3 : goal.is_true-requires-in-loop-p-3
is_true-requires-in-loop-p-3 g c =
    let (row, other) = c.requires.written (Claim.And c.in-Some-And.k c.in-Some-And.l) (sym c.claim.ensures ∙ c.in-Some-And.is ∙ ap Some c.in-Some-And.field-0-is) in
    omega (arith, row, ap (λ w. c.in-Some-And.k * w) c.width-width.ensures.value, c.requires.width, c.loop-p-3-test.true)

pub is_true-requires-then-is_true : goal.is_true-requires-then-is_true
is_true-requires-then-is_true g c =
    let (other, row) = c.requires.written (Claim.And c.in-Some-And.k c.in-Some-And.l) (sym c.claim.ensures ∙ c.in-Some-And.is ∙ ap Some c.in-Some-And.field-0-is) in
    omega (arith, row, ap (λ w. c.in-Some-And.l * w) c.width-width.ensures.value, c.requires.width, c.loop-p-3-test.true)

pub true_nodes-toward-requires-clause-written : goal.true_nodes-toward-requires-clause-written
true_nodes-toward-requires-clause-written g c = c.requires.written (Claim.Tied c.in-Some-Tied.k c.in-Some-Tied.t) (sym c.claim.ensures ∙ c.in-Some-Tied.is ∙ ap Some c.in-Some-Tied.field-0-is)

pub loop-p-4-preserved : goal.loop-p-4-preserved
loop-p-4-preserved g c =
    let o = g.M.Measure.ops in
    let m = g.N.Readable.meaning c.args.self.now.network in
    let columns = g.C.Columns.columns c.args.columns.now in
    let truth = marked (g.C.Columns.width c.args.columns.now) c.args.rows.now in
    let among = λ (y : ℕ). truth c.in-Some-Tied.k (columns.column y) in
    let holds : c.holds.result ≡ claimed o m (colour_in c.args.self.now.table) columns truth (Claim.Tied c.in-Some-Tied.k c.in-Some-Tied.t) c.loop-p-4.p =
    c.holds.ensures
    ∙ ap (λ v. o.holds v c.in-Some-Tied.t)
    (c.total_over-total.ensures.set among (c.deref.ensures.0 ∙ c.true_nodes-toward.ensures)
    ∙ ap (λ x. total o m x among) c.node-node.ensures.value)
    in
    filled_more c.loop-p-4.row c.loop-p-4.p c.from-in-loop-p-4.result _ (omega (arith, c.loop-p-4.auto.row, c.loop-p-4-test.true)) c.loop-p-4.invariant
    (c.from-in-loop-p-4.ensures ∙ byte_of_test c.holds.result ∙ ap {B = ℕ} (λ (b : Bool). cond b 1 0) holds)

pub returns-after-loop-p-4 : goal.returns-after-loop-p-4
returns-after-loop-p-4 g c =
    row_claimed g.M.Measure.ops (g.N.Readable.meaning c.args.self.now.network) (colour_in c.args.self.now.table) (g.C.Columns.columns c.args.columns.now) (marked (g.C.Columns.width c.args.columns.now) c.args.rows.now) c.args.line
    (g.C.Columns.width c.args.columns.now) c.loop-p-4.row (Claim.Tied c.in-Some-Tied.k c.in-Some-Tied.t)
    (c.loop-p-4.auto.row ∙ c.requires.width)
    (sym c.claim.ensures ∙ c.in-Some-Tied.is ∙ ap Some c.in-Some-Tied.field-0-is)
    (λ q under. c.loop-p-4.invariant q (omega (arith, under, c.requires.width, c.loop-p-4-test.false)))

pub returns-in-None : goal.returns-in-None
returns-in-None g c =
    c.fill.ensures.after (λ y same. same)
    ∙ ap (λ n. replicate n 0) c.requires.width
    ∙ row_none g.M.Measure.ops (g.N.Readable.meaning c.args.self.now.network) (colour_in c.args.self.now.table) (g.C.Columns.columns c.args.columns.now) (marked (g.C.Columns.width c.args.columns.now) c.args.rows.now) c.args.line
    (g.C.Columns.width c.args.columns.now) (sym c.claim.ensures ∙ c.in-None.is)
