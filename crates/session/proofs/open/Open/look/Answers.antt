use Rattle.std.proofs.Common.{◌≡◌, ◌∙◌, length, ap, ap₂}
use Rattle.question.specs.Areas.{area_after}
use Rattle.question.specs.Checks.{answer_start}
use Rattle.question.specs.Truth.{rows, each_node}
use Rattle.question.proofs.TruthLaw.{truth_law}
use Rattle.session.specs.OpenSessions.{state_of}
use Rattle.session.proofs.Asked.{look_agrees}
use Rattle.session.proofs.open.Open.look.Goals as goal

pub returns-clause-agrees : goal.returns-clause-agrees
returns-clause-agrees g c =
    let s = state_of c.args.self.now in
    let lines = c.args.question.now in
    let area = c.args.area.now in
    let width : c.of.result.nodes ≡ s.network.nodes = c.of.ensures ∙ c.nodes.ensures ∙ c.args.self.now.sound.entries in
    let start = c.answer.ensures.start ∙ ap (λ n. answer_start lines n (length area)) width in
    look_agrees g.M.Measure.ops s lines area c.answer.new.area c.answer.result start
    (c.answer.ensures.area ∙ ap₂ (λ r n. area_after r n (rows g.M.Measure.ops s.network s.colours each_node lines) area) start width)

pub returns-clause-truth : goal.returns-clause-truth
returns-clause-truth g c = truth_law g.M.Measure.ops
