-- A question of lines that pass is never refused, where the area has room for 32 lines at 128 columns.
use Rattle.std.proofs.Common.{◌≡◌, ℕ, ◌*◌, ◌<◌, ◌≤◌, List, length, Ok, arith}
use Rattle.std.specs.Result.{IsOk}
use Rattle.std.proofs.lemmas.Nat.{mul-le}
use Rattle.std.proofs.lemmas.Bool.Decides.{nat_tests}
use Rattle.question.specs.Checks.{answer_start, lines_check}
use Rattle.question.specs.declared.line.Line.{Line}

pub never_refused : (lines : List Line) (width size : ℕ) → 0 < length lines → length lines ≤ 32 → lines_check 0 lines ≡ Ok tt → width ≤ 128 → 32 * 128 ≤ size → IsOk (answer_start lines width size)
never_refused lines width size some few passes narrow room =
    let needed : length lines * width ≤ 32 * 128 = mul-le (length lines) width 32 128 few narrow in
    rw passes (grind (arith, nat_tests, needed, room))
