use Rattle.std.proofs.Common.{arith, length, ◌<◌}
use Rattle.std.proofs.lemmas.Bool.Decides.{nat_tests}
use Rattle.std.proofs.Math.Nat.{mul-le-mul_right}
use Rattle.question.proofs.checking.check.Goals as goal

-- there is a line, so there is a row
pub overflow_sub-result : goal.overflow_sub-result
overflow_sub-result c =
    let line : 0 < length c.args.question.now = grind (arith, nat_tests, c.is_empty.ensures, c.if-is_empty.false) in
    omega (arith, mul-le-mul_right {m = 1} {n = length c.args.question.now} c.args.width (omega arith), line)
