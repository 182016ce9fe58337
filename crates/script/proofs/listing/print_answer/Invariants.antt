use Rattle.std.proofs.Common.{◌≡◌, ◌++◌, cond, []}
use Rattle.driving.specs.Book.{book_in}
use Rattle.session.specs.SettledSessions.{settled_state}
use Rattle.script.specs.Listings.{each_below, is_true}
use Rattle.script.specs.Words.{true_line}
use Rattle.script.proofs.listing.print_answer.Given as goal

-- those before x are printed
abbrev pub invariant-loop-x : goal.invariant-loop-x
invariant-loop-x g l =
    let o = g.M.Measure.ops in
    let book = book_in (settled_state l.settled) in
    l.out.items ≡ l.initial.out.items ++ each_below (λ x. cond (is_true o book l.question x) (true_line x) []) l.x
