use Rattle.std.proofs.Common.{◌≡◌, drop}
use Rattle.question.specs.Checks.{lines_check}
use Rattle.question.proofs.checking.check_lines.Given as goal

-- what is left is checked as the whole
abbrev pub invariant-loop-at : goal.invariant-loop-at
invariant-loop-at l = lines_check l.at (drop l.at l.question) ≡ lines_check 0 l.question
