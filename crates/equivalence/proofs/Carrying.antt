-- Under a measure of sets, regular says of each member: what a node has with another, each of its role has with some node of the other's role.
use Rattle.std.proofs.Common.{◌≡◌, ℕ, ◌<◌, Bool, true, sym, refl, ap, ◌∙◌}
use Rattle.std.proofs.lemmas.Bool.{eq-eqb, eqb-true}
use Rattle.std.proofs.lemmas.Bool.Decides.{same_from_decides}
use Rattle.network.specs.Meaning.{Meaning}
use Rattle.measure.specs.Measures.{Operations}
use Rattle.equivalence.specs.Totals.{total}
use Rattle.equivalence.specs.Regular.{Table, Regular, members}
use Rattle.equivalence.proofs.SetTotals.{Member, node_from_total, total_from_node}

-- what a has with c, b has with some d of c's role
abbrev pub Carried : ℕ → (ℕ → ℕ → Type 0) → Table → Type 0
Carried n R role = (a b c : ℕ) → a < n → b < n → c < n → role a ≡ role b → R a c → (d : ℕ) × (d < n) × (role d ≡ role c) × R b d

module _ {V : Type 0} (o : Operations V) (t : ℕ) (brings : ℕ → ℕ → Bool) (is : Member o t brings) (m : Meaning) (role : Table) where
  abbrev Has : ℕ → ℕ → Type 0
  Has x y = brings (m.tie x y) (m.tie y x) ≡ true

  -- the total of x toward z's role has the member
  abbrev holds : ℕ → ℕ → Bool
  holds x z = o.holds (total o m x (members role (role z))) t

  pub carried_from_regular : Regular o m role → Carried m.nodes Has role
  carried_from_regular regular a b c ha hb hc e has =
      let one : holds a c ≡ true = total_from_node o t brings is m a (members role (role c)) c hc (eq-eqb (role c) (role c) refl) has in
      let found = node_from_total o t brings is m b (members role (role c)) (ap (λ v. o.holds v t) (sym (regular c hc a b ha hb e)) ∙ one) in
      (found.0, found.1, eqb-true (role found.0) (role c) found.2, found.3)

  member_moves : Carried m.nodes Has role → (x y z : ℕ) → x < m.nodes → y < m.nodes → role x ≡ role y → holds x z ≡ true → holds y z ≡ true
  member_moves carry x y z hx hy e set =
      let from = node_from_total o t brings is m x (members role (role z)) set in
      let to = carry x y from.0 hx hy from.1 e from.3 in
      total_from_node o t brings is m y (members role (role z)) to.0 to.1 (eq-eqb (role to.0) (role z) (to.2 ∙ eqb-true (role from.0) (role z) from.2)) to.3

  -- a member of x's total is a member of y's, and the other way round
  pub same_member : Carried m.nodes Has role → (x y z : ℕ) → x < m.nodes → y < m.nodes → role x ≡ role y → holds x z ≡ holds y z
  same_member carry x y z hx hy e =
      same_from_decides (holds x z) (holds y z)
      (member_moves carry x y z hx hy e, member_moves carry y x z hy hx (sym e))
      (λ s. s, λ s. s)
