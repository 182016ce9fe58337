use Rattle.std.proofs.Common.{◌≡◌, ◌<◌, ℕ, Bool, filter}
use Rattle.std.specs.List.{range_with_len}
use Rattle.equivalence.specs.Totals.{flag}
use Rattle.equivalence.specs.Splitting.{leaves}
use Rattle.equivalence.specs.Vetted.{table_of}
use Rattle.equivalence.proofs.leaving.leaving.Given as goal

-- the flags of the nodes below x are set
abbrev pub invariant-loop-x : goal.invariant-loop-x
invariant-loop-x g l =
    let m = g.N.Readable.meaning l.network in
    (among : ℕ → Bool) → l.nodes ≡ filter among (range_with_len 0 m.nodes) → (k : ℕ) → k < l.x → flag l.leaves-items k ≡ leaves g.M.Measure.ops m (table_of l.table) l.part among k
