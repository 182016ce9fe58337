use Rattle.std.proofs.Common.{◌≡◌, eqb, filter, slice_index}
use Rattle.std.specs.List.{range_with_len}
use Rattle.manual.proofs.asking.ones.Given as goal

-- those below the next
abbrev pub invariant-loop-column : goal.invariant-loop-column
invariant-loop-column l = l.ones.items ≡ filter (λ p. eqb (slice_index l.row p) 1) (range_with_len 0 l.column)
