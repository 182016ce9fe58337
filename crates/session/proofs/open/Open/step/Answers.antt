use Rattle.std.proofs.Common.{rules, length, ap, refl, arith}
use Rattle.equivalence.specs.Regular.{Regular}
use Rattle.equivalence.proofs.Refinement.{regular_each}
use Rattle.equivalence.proofs.Splitting.{split_irregular, split_law}
use Rattle.session.specs.OpenSessions.{state_of}
use Rattle.session.specs.States.{role}
use Rattle.session.proofs.open.Open.step.Given.{Over}
use Rattle.session.proofs.open.Open.step.Goals as goal

pub returns-in-Some-clause-stable : goal.returns-in-Some-clause-stable
returns-in-Some-clause-stable g c = (
  λ e. absurd (search rules),
  λ regular. absurd (split_irregular g.M.Measure.ops g.met.M.Measure.lawful _ _ _ _ _ _ (rw c.loop-c.invariant.0 at c.in-Some.ensures.search).split regular),
)

regular : (g : Over) (c : goal.After-loop-c g) → Regular g.M.Measure.ops (state_of c.args.self.now).network (role (state_of c.args.self.now))
regular g c =
    let s = c.args.self.now in
    regular_each g.M.Measure.ops (state_of s).network (role (state_of s)) (length s.table.roles.items)
    (λ x l. s.table.recorded.ranged x (omega (arith, s.sound.entries)))
    (λ k l. c.loop-c.invariant.1 k (omega (arith, c.loop-c-test.false)))

pub returns-clause-stable : goal.returns-clause-stable
returns-clause-stable g c = (λ _. regular g c, λ _. refl)

pub returns-clause-stepped : goal.returns-clause-stepped
returns-clause-stepped g c = ap (λ v. state_of v) c.loop-c.invariant.0

pub returns-in-Some-clause-law : goal.returns-in-Some-clause-law
returns-in-Some-clause-law g c = split_law g.M.Measure.ops g.met.M.Measure.lawful

pub returns-clause-law : goal.returns-clause-law
returns-clause-law g c = split_law g.M.Measure.ops g.met.M.Measure.lawful
