use Rattle.std.proofs.Common.{◌+◌, ◌++◌, ◌∙◌, ap, sym}
use Rattle.script.specs.Faults.{number}
use Rattle.script.specs.Stages.{outcome, phase_of}
use Rattle.script.specs.Words.{refusal_line}
use Rattle.script.proofs.Playing.{outcome_accepted, outcome_refused}
use Rattle.script.specs.Players.{played_in}
use Rattle.script.proofs.player.Player.play.Goals as goal
use Rattle.script.proofs.player.Player.play.Goals.{in-Err+in_ok-print_refusal+in_ok-push, in_default}

pub returns : goal.returns
returns c =
    let p = played_in c.args.self c.args.out.now.items in
    let line = c.args.line.now in
    let did = outcome p.phase line in
    let phase = phase_of c.in_ok-stage.stage in
    let printed = c.match-answer.out.items in
    let faults = c.match-answer.faults.items in
    elim c.match-answer.branch [
      | in-Err+in_ok-print_refusal+in_ok-push w ↦
          outcome_refused p line did w.in-Err.reason phase printed faults
          (sym c.in_ok-stage.ensures.answer ∙ w.in-Err.is)
          c.in_ok-stage.ensures.stage
          (ap (λ v. v.items) w.out-is ∙ w.in_ok-print_refusal.ensures
          ∙ ap (λ v. v ++ refusal_line (p.count + 1) (number w.in-Err.reason)) c.in_ok-stage.ensures.printed)
          (ap (λ v. v.items) w.faults-is ∙ w.in_ok-push.ensures.items)
      | in_default w ↦
          outcome_accepted p line did phase printed faults
          (sym c.in_ok-stage.ensures.answer ∙ w.in_default.is)
          c.in_ok-stage.ensures.stage
          (ap (λ v. v.items) w.out-is ∙ c.in_ok-stage.ensures.printed)
          (ap (λ v. v.items) w.faults-is)
    ]
