use Rattle.std.proofs.Common.{◌≡◌, ◌++◌}
use Rattle.driving.specs.Book.{book_in}
use Rattle.session.specs.SettledSessions.{settled_state}
use Rattle.script.specs.Listings.{each_below, heads}
use Rattle.script.specs.Words.{node_line}
use Rattle.script.proofs.listing.print_roles.Given as goal

-- the nodes before x are printed
abbrev pub invariant-loop-x : goal.invariant-loop-x
invariant-loop-x g l =
    let o = g.M.Measure.ops in
    let book = book_in (settled_state l.settled) in
    l.out.items ≡ l.initial.out.items ++ each_below (λ x. node_line x (heads o book x)) l.x
