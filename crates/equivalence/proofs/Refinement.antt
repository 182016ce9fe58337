-- Tables within the starting classes, and the heads of finer tables.
use Rattle.std.proofs.Common.{◌≡◌, ℕ, ◌<◌, ◌≤◌, true, sym, ◌∙◌, refl, arith}
use Rattle.network.specs.Meaning.{Meaning}
use Rattle.network.proofs.Counting.{count_below_inject, count_below_same}
use Rattle.measure.specs.Measures.{Operations}
use Rattle.equivalence.specs.Regular.{Table, Balanced, Regular, members}
use Rattle.equivalence.specs.Heads.{head_of, is_head, roles}
use Rattle.equivalence.specs.Starting.{starting_classes}
use Rattle.equivalence.specs.Coarsest.{Refines, Covers, FewestLaw}
use Rattle.equivalence.proofs.Heads.{head_is, head_lowest, head_decides, head_same, same_head}
use Rattle.equivalence.proofs.Starting.{starting_heads}

module _ (n : ℕ) (fine coarse : Table) (refines : Refines n fine coarse) where
  -- a head of the coarser table is one of the finer
  pub head_finer : (x : ℕ) → x < n → head_of coarse x ≡ x → head_of fine x ≡ x
  head_finer x l e =
      head_is fine x x refl (λ k under d. head_lowest coarse x k (omega (arith, under, e)) (refines k x (omega arith) l d))

  pub is_head_finer : (x : ℕ) → x < n → is_head coarse x ≡ true → is_head fine x ≡ true
  is_head_finer x l e = (head_decides fine x).1 (head_finer x l ((head_decides coarse x).0 e))

  pub roles_le : roles coarse n ≤ roles fine n
  roles_le = count_below_inject (is_head coarse) (is_head fine) n n (λ k. k) (λ k l f. (l, is_head_finer k l f)) (λ j k _ _ _ _ e. e)

-- tables with equal heads are one partition
pub refines_from_heads : (n : ℕ) (a b : Table) → ((x : ℕ) → x < n → head_of a x ≡ head_of b x) → Refines n a b
refines_from_heads n a b heads x y hx hy e = same_head b x y (sym (heads x hx) ∙ head_same a x y e ∙ heads y hy)

pub roles_from_heads : (n : ℕ) (a b : Table) → ((x : ℕ) → x < n → head_of a x ≡ head_of b x) → roles a n ≡ roles b n
roles_from_heads n a b heads = count_below_same (is_head a) (is_head b) n (λ k l. rw (heads k l) refl)

module _ {V : Type 0} (o : Operations V) (m : Meaning) where
  pub covers_same : (classes role : Table) → Refines m.nodes role classes → Refines m.nodes classes role → Covers o m classes role
  covers_same classes role fine coarse =
      record { within = fine; inside = λ other regular within x y hx hy e. coarse x y hx hy (within x y hx hy e) }

  pub regular_each : (role : Table) (count : ℕ) → ((x : ℕ) → x < m.nodes → role x < count) → ((c : ℕ) → c < count → Balanced o m role (members role c)) → Regular o m role
  regular_each role count ranged each z hz = each (role z) (ranged z hz)

  -- a table whose heads are the starting classes
  module _ (colours role : Table) (start : (x : ℕ) → x < m.nodes → head_of role x ≡ starting_classes m colours x) where
    started_heads : (x : ℕ) → x < m.nodes → head_of role x ≡ head_of (starting_classes m colours) x
    started_heads x l = start x l ∙ sym (starting_heads m colours x)

    pub started_within : Refines m.nodes role (starting_classes m colours)
    started_within = refines_from_heads m.nodes role (starting_classes m colours) started_heads

    pub started_above : Refines m.nodes (starting_classes m colours) role
    started_above = refines_from_heads m.nodes (starting_classes m colours) role (λ x l. sym (started_heads x l))

    pub started_roles : roles role m.nodes ≡ roles (starting_classes m colours) m.nodes
    started_roles = roles_from_heads m.nodes role (starting_classes m colours) started_heads

    pub covers_started : Covers o m (starting_classes m colours) role
    covers_started = covers_same (starting_classes m colours) role started_within started_above

pub fewest : {V : Type 0} (o : Operations V) → FewestLaw o
fewest o m classes role other coarsest regular within = roles_le m.nodes other role (coarsest.covers.inside other regular within)
