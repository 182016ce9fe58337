use Rattle.std.proofs.Common.{ap, subst, sym, ◌∙◌, ◌≤◌, arith}
use Rattle.std.specs.Result.{IsOk}
use Rattle.network.proofs.Counting.{count_below_le}
use Rattle.equivalence.specs.Heads.{is_head}
use Rattle.session.specs.SettledSessions.{settled_state}
use Rattle.session.specs.States.{role, role_count}
use Rattle.manual.proofs.LastRows.{answered, four_start}
use Rattle.manual.proofs.asking.answered.Goals as goal

pub unwrap-start-requires : goal.unwrap-start-requires
unwrap-start-requires g c =
    let s = c.args.settled.now in
    let state = settled_state s in
    let narrow : role_count state ≤ 128 = omega (arith, s.session.sound.few, count_below_le (is_head (role state)) state.network.nodes) in
    subst IsOk (sym c.ask.ensures.start) (four_start c.args.question.now (role_count state) (grind arith) c.requires narrow)

pub returns : goal.returns
returns g c =
    let s = c.args.settled.now in
    let start = c.unwrap-start.ensures in
    let next = c.unwrap-start-2.ensures in
    let nodes = c.nodes.ensures.value ∙ ap (λ n. (g.N.Readable.meaning n).nodes) c.network.ensures in
    answered g.M.Measure.ops (settled_state s) s.session.sound c.args.question.now
    c.ask.new.area 512 c.unwrap-start.result c.roles.result c.ask.auto.area (sym c.ask.ensures.start ∙ start) c.roles.ensures (rw start at c.ask.ensures.agrees)
    c.look.new.area c.unwrap-start-2.result c.nodes.result (sym c.look.ensures.start ∙ next) c.look.auto.area nodes c.look.ensures.area
    _ c.in_ok-roles.ensures c.in_ok-nodes.ensures
