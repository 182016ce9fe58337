-- A table has as many roles as records.
use Rattle.std.proofs.Common.{◌≡◌, ℕ, ◌<◌, Bool, true, sym, refl, ap, ◌∙◌, arith}
use Rattle.network.proofs.Counting.{count_below_all, count_below_inject}
use Rattle.equivalence.specs.Heads.{head_of, is_head, roles}
use Rattle.equivalence.proofs.Heads.{head_decides, head_is, head_same}
use Rattle.session.specs.Tables.{count_in, head_in, nodes_in, role_in}
use Rattle.session.specs.declared.table.Table.{Table as RoleTable}

abbrev any : ℕ → Bool
any _ = true

module _ (t : RoleTable) where
  -- the record of a node's role has its head
  pub head_known : (x : ℕ) → x < nodes_in t → head_of (role_in t) x ≡ head_in t (role_in t x)
  head_known x node =
      let told = t.recorded.described (role_in t x) (t.recorded.ranged x node) in
      head_is (role_in t) (head_in t (role_in t x)) x told.mate told.lowest

  pub head_own : (r : ℕ) → r < count_in t → head_of (role_in t) (head_in t r) ≡ head_in t r
  head_own r known =
      let told = t.recorded.described r known in
      head_known (head_in t r) told.node ∙ ap (head_in t) told.mate

  -- roles and heads are one to one
  pub counted : count_in t ≡ roles (role_in t) (nodes_in t)
  counted =
      let apart : (r s : ℕ) → r < count_in t → s < count_in t → head_in t r ≡ head_in t s → r ≡ s =
      λ r s lr ls e. sym (t.recorded.described r lr).mate ∙ ap (role_in t) e ∙ (t.recorded.described s ls).mate in
      let heads = count_below_inject any (is_head (role_in t)) (count_in t) (nodes_in t) (head_in t)
      (λ r l _. ((t.recorded.described r l).node, (head_decides (role_in t) (head_in t r)).1 (head_own r l)))
      (λ r s lr ls _ _. apart r s lr ls) in
      let of_heads = count_below_inject (is_head (role_in t)) any (nodes_in t) (count_in t) (role_in t)
      (λ x l _. (t.recorded.ranged x l, refl))
      (λ x y _ _ hx hy e. sym ((head_decides (role_in t) x).0 hx) ∙ head_same (role_in t) x y e ∙ (head_decides (role_in t) y).0 hy) in
      omega (arith, heads, of_heads, count_below_all (count_in t))
