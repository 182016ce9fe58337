-- What a step does to a table that is not regular.
--
--   leaves      x is of part's role, and has not part's total toward the set
--   Split       those that leave part's role, by totals toward toward's role, have the head fresh, and all others keep theirs
--   Parted      what that makes of the two tables
--   SplitLaw    of every split
use Rattle.std.specs.Prelude.{◌≡◌, ℕ, ◌+◌, ◌<◌, Bool, true, false, cond, not, ◌&&◌, ◌≢◌, ◌↔◌}
use Rattle.network.specs.Meaning.{Meaning}
use Rattle.measure.specs.Measures.{Operations}
use Rattle.equivalence.specs.Totals.{total}
use Rattle.equivalence.specs.Regular.{Table, members}
use Rattle.equivalence.specs.Heads.{head_of, roles}
use Rattle.equivalence.specs.Coarsest.{Refines}

abbrev pub leaves : {V : Type 0} → Operations V → Meaning → Table → ℕ → (ℕ → Bool) → ℕ → Bool
leaves o m role part among x = members role (role part) x && not (o.same (total o m x among) (total o m part among))

-- part and toward are heads of the old table, fresh is the lowest node that leaves
pub record Split {V : Type 0} (o : Operations V) (m : Meaning) (old new : Table) (part toward fresh : ℕ) : Type 0 where
  pub part_node : part < m.nodes
  pub part_head : head_of old part ≡ part
  pub toward_node : toward < m.nodes
  pub toward_head : head_of old toward ≡ toward
  pub fresh_node : fresh < m.nodes
  pub fresh_leaves : leaves o m old part (members old (old toward)) fresh ≡ true
  pub fresh_lowest : (x : ℕ) → x < fresh → leaves o m old part (members old (old toward)) x ≡ false
  pub heads : (x : ℕ) → x < m.nodes → head_of new x ≡ cond (leaves o m old part (members old (old toward)) x) fresh (head_of old x)

pub record Parted {V : Type 0} (o : Operations V) (m : Meaning) (old new : Table) (part toward fresh : ℕ) : Type 0 where
  -- those that stay with part are of its old role, and have its total toward toward's role; those that leave with fresh have it not
  pub stay : (x : ℕ) → x < m.nodes → (new x ≡ new part) ↔ ((old x ≡ old part) × (total o m x (members old (old toward)) ≡ total o m part (members old (old toward))))
  pub leave : (x : ℕ) → x < m.nodes → (new x ≡ new fresh) ↔ ((old x ≡ old part) × (total o m x (members old (old toward)) ≢ total o m part (members old (old toward))))
  -- neither has no node: part stays, and fresh leaves
  pub two : new part ≢ new fresh
  pub others : (x y : ℕ) → x < m.nodes → y < m.nodes → old x ≢ old part → (new x ≡ new y) ↔ (old x ≡ old y)
  pub finer : Refines m.nodes new old
  pub more : roles new m.nodes ≡ roles old m.nodes + 1
  pub heads : (x : ℕ) → x < m.nodes → head_of old x ≡ x → head_of new x ≡ x

abbrev pub SplitLaw : {V : Type 0} → Operations V → Type 0
SplitLaw o = (m : Meaning) (old new : Table) (part toward fresh : ℕ) → Split o m old new part toward fresh → Parted o m old new part toward fresh
