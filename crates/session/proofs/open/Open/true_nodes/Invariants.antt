use Rattle.std.proofs.Common.{◌≡◌, ◌≤◌, filter, length}
use Rattle.std.specs.List.{range_with_len}
use Rattle.session.specs.Marks.{marked}
use Rattle.session.proofs.open.Open.true_nodes.Given as goal

-- those below y
abbrev pub invariant-loop-y : goal.invariant-loop-y
invariant-loop-y g l = (l.nodes.items ≡ filter (λ y. marked l.width l.rows l.k ((g.C.Columns.columns l.columns).column y)) (range_with_len 0 l.y)) × (length l.nodes.items ≤ l.y)
