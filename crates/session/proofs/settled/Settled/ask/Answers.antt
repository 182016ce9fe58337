use Rattle.question.proofs.Agreement.{roles_answer}
use Rattle.session.specs.SettledSessions.{settled_state}
use Rattle.session.proofs.Asked.{ask_agrees}
use Rattle.session.proofs.settled.Settled.ask.Goals as goal

pub returns-clause-agrees : goal.returns-clause-agrees
returns-clause-agrees g c =
    let s = c.args.self.now in
    ask_agrees g.M.Measure.ops g.met.M.Measure.lawful (settled_state s) s.session.sound s.regular
    c.args.question.now c.args.area.now c.answer_by_roles.new.area c.answer_by_roles.result c.answer_by_roles.ensures.start c.answer_by_roles.ensures.area

pub returns-clause-roles : goal.returns-clause-roles
returns-clause-roles g c = roles_answer g.M.Measure.ops g.met.M.Measure.lawful
