use Rattle.script.proofs.any_network.AnyNetworkEditable.put.Goals as goal

pub returns-in-OneMode-clause-after : goal.returns-in-OneMode-clause-after
returns-in-OneMode-clause-after c = rw c.in-OneMode.is c.put.ensures.after

pub returns-in-TwoMode-clause-answer : goal.returns-in-TwoMode-clause-answer
returns-in-TwoMode-clause-answer c = rw c.in-TwoMode.is c.put-in-TwoMode.ensures.answer

pub returns-in-TwoMode-clause-after : goal.returns-in-TwoMode-clause-after
returns-in-TwoMode-clause-after c = rw c.in-TwoMode.is c.put-in-TwoMode.ensures.after
