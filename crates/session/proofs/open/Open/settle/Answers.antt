use Rattle.std.proofs.Common.{◌∙◌, sym, subst, refl, ap, arith}
use Rattle.network.specs.Meaning.{Meaning}
use Rattle.network.proofs.Counting.{count_below_le}
use Rattle.equivalence.specs.Regular.{Regular}
use Rattle.equivalence.specs.Heads.{is_head, roles}
use Rattle.equivalence.proofs.Splitting.{split_law}
use Rattle.session.specs.OpenSessions.{state_of}
use Rattle.session.specs.States.{State, KeepsHeads, role}
use Rattle.session.proofs.open.Open.settle.Goals as goal

pub returns-clause-ended : goal.returns-clause-ended
returns-clause-ended g c =
    let new = c.step.new.self in
    let s = state_of new in
    let stop = c.in_default.ensures in
    let regular : Regular g.M.Measure.ops s.network (role s) = subst (λ (v : State). Regular g.M.Measure.ops v.network (role v)) (sym stop.stepped) (stop.stable.0 refl) in
    record {
      network = ap (λ p. g.N.Readable.meaning p.0) (c.step.ensures.parts ∙ c.loop.invariant.0);
      colours = ap (λ t. t.colours) stop.stepped ∙ c.loop.invariant.1;
      coarsest = record { regular = regular; covers = new.sound.covers };
      splits = new.sound.counted;
      heads = subst (KeepsHeads (state_of c.args.self)) (sym stop.stepped) c.loop.invariant.2;
    }

pub loop-preserved : goal.loop-preserved
loop-preserved g c =
    let i = c.loop.invariant in
    let two = c.in-Split.ensures.stepped in
    let more = split_law g.M.Measure.ops g.met.M.Measure.lawful _ _ _ _ _ _ two.split in
    (c.step.ensures.parts ∙ i.0, two.colours ∙ i.1, λ x l own. more.heads x (omega (arith, l, ap (λ p. (g.N.Readable.meaning p.0).nodes) i.0)) (i.2 x l own))

pub loop-smaller : goal.loop-smaller
loop-smaller g c =
    let s = c.step.new.self in
    let two = c.in-Split.ensures.stepped in
    let more = split_law g.M.Measure.ops g.met.M.Measure.lawful _ _ _ _ _ _ two.split in
    omega (arith, more.more, ap (λ (m : Meaning). m.nodes) two.network, ap (λ (m : Meaning). roles (role (state_of s)) m.nodes) two.network, count_below_le (is_head (role (state_of s))) (state_of s).network.nodes)
