use Rattle.std.proofs.Common.{◌≡◌, ℕ, ◌≤◌, get_or}
use Rattle.driving.specs.Courses.{course_before}
use Rattle.driving.specs.Promise.{RunTo}
use Rattle.driving.specs.States.{course_in, parts_in, state_in}
use Rattle.driving.proofs.Running.{none}
use Rattle.driving.proofs.drive.drive.Given as goal

-- the calls so far are given, and the exchanges behind them are as they were handed
abbrev pub invariant-loop-exchange : goal.invariant-loop-exchange
invariant-loop-exchange g l =
    let m = g.N.Readable.meaning l.fn.network in
    let k = l.exchange-index in
    ((parts_in l.session).1 ≡ l.fn.measure)
    × (course_in l.session ≡ course_before m l.fn.exchanges k)
    × ((run : RunTo g.M.Measure.ops m l.fn.exchanges l.exchanges k) × (run.state k ≡ state_in l.session))
    × ((j : ℕ) → k ≤ j → get_or l.exchanges j none ≡ get_or l.fn.exchanges j none)
