use Rattle.std.proofs.Common.{◌≡◌, ◌<◌, ℕ, cond, length}
use Rattle.equivalence.specs.Vetted.{table_of}
use Rattle.equivalence.specs.Totals.{flag}
use Rattle.session.specs.Roles.{head_at}
use Rattle.session.proofs.table.Table.split.Given as goal

-- the heads of the nodes so far
abbrev pub invariant-loop-x : goal.invariant-loop-x
invariant-loop-x l =
    let old = l.fn.self in
    (length l.heads.items ≡ l.x)
    × ((k : ℕ) → k < l.x → table_of l.heads.items k ≡ cond (flag l.leaves k) l.fresh (head_at old.roles.items (table_of old.role_of.items k)))
