-- What the nodes that leave a role do to the table.
use Rattle.std.proofs.Common.{◌≡◌, ℕ, ◌+◌, ◌<◌, ◌≤◌, Bool, true, false, cond, List, sym, refl, ap, ◌∙◌, inl, inr, arith}
use Rattle.std.proofs.lemmas.Bool.{cases_Bool, eq-eqb}
use Rattle.network.specs.Meaning.{Meaning}
use Rattle.network.proofs.Counting.{count_below_one}
use Rattle.measure.specs.Measures.{Operations, Laws}
use Rattle.equivalence.specs.Totals.{total}
use Rattle.equivalence.specs.Regular.{Even, members}
use Rattle.equivalence.specs.Heads.{head_of}
use Rattle.equivalence.specs.Splitting.{leaves}
use Rattle.equivalence.specs.Vetted.{table_of}
use Rattle.equivalence.proofs.Heads.{head_same}
use Rattle.equivalence.proofs.Splitting.{even_none, leaver}
use Rattle.session.specs.Steps.{InTwo}
use Rattle.session.specs.States.{state_with}
use Rattle.session.specs.Tables.{count_in, head_in, nodes_in, record_in, role_in}
use Rattle.session.specs.declared.table.Table.{Table as RoleTable}
use Rattle.session.proofs.Counted.{head_own}

module _ {V : Type 0} (o : Operations V) (laws : Laws o) (m : Meaning) (t : RoleTable) (fits : nodes_in t ≡ m.nodes) where
  -- a single node has no other to differ from
  pub even_single : (r : ℕ) (among : ℕ → Bool) → r < count_in t → (record_in t r).size ≤ 1 → Even o m (role_in t) r among
  even_single r among known single x y hx hy ex ey =
      ap (λ k. total o m k among)
      (count_below_one (members (role_in t) r) (nodes_in t) x y (omega (arith, fits)) (omega (arith, fits)) (eq-eqb (role_in t x) r ex) (eq-eqb (role_in t y) r ey) (omega (arith, (t.recorded.described r known).size)))

  pub of_head : (r : ℕ) → r < count_in t → (head_in t r < m.nodes) × (head_of (role_in t) (head_in t r) ≡ head_in t r)
  of_head r known = (omega (arith, fits, (t.recorded.described r known).node), head_own t r known)

  module _
      (part toward : ℕ)
      (of_part : (part < m.nodes) × (head_of (role_in t) part ≡ part))
      (of_toward : (toward < m.nodes) × (head_of (role_in t) toward ≡ toward))
      (flags : ℕ → Bool)
      (flagged : (x : ℕ) → x < m.nodes → flags x ≡ leaves o m (role_in t) part (members (role_in t) (role_in t toward)) x) where
    abbrev among : ℕ → Bool
    among = members (role_in t) (role_in t toward)

    pub none_leaves : ((x : ℕ) → x < nodes_in t → flags x ≡ false) → Even o m (role_in t) (role_in t part) among
    none_leaves none = even_none o laws m (role_in t) part among (λ x l. sym (flagged x l) ∙ none x (omega (arith, fits)))

    -- part's head stays, and other heads are of other roles
    pub heads_stay : (r : ℕ) → r < count_in t → flags (head_in t r) ≡ false
    heads_stay r known =
        let h = head_in t r in
        elim (cases_Bool (flags h)) [
          | inl e ↦
              let node : h < m.nodes = omega (arith, fits, (t.recorded.described r known).node) in
              let out = leaver o laws m (role_in t) part among h (sym (flagged h node) ∙ e) in
              absurd (out.1 (ap (λ k. total o m k among) (sym (head_own t r known) ∙ head_same (role_in t) h part out.0 ∙ of_part.1)))
          | inr e ↦ e
        ]

    pub in_two :
        (fresh : ℕ)
        → fresh < nodes_in t
        → flags fresh ≡ true
        → ((x : ℕ) → x < fresh → flags x ≡ false)
        → (new : RoleTable)
        → ((x : ℕ) → x < nodes_in t → head_of (role_in new) x ≡ cond (flags x) fresh (head_of (role_in t) x))
        → new.colours ≡ t.colours
        → new.splits ≡ t.splits + 1
        → InTwo o (state_with m t) (state_with m new) part toward fresh
    in_two fresh node goes lowest new heads colours splits =
        record {
          network = refl;
          colours = ap (λ (cs : List ℕ). table_of cs) colours;
          split = record {
            part_node = of_part.0;
            part_head = of_part.1;
            toward_node = of_toward.0;
            toward_head = of_toward.1;
            fresh_node = omega (arith, fits, node);
            fresh_leaves = sym (flagged fresh (omega (arith, fits, node))) ∙ goes;
            fresh_lowest = λ x l. sym (flagged x (omega (arith, fits, node, l))) ∙ lowest x l;
            heads = λ x l. heads x (omega (arith, fits)) ∙ ap (λ b. cond b fresh (head_of (role_in t) x)) (flagged x l);
          };
          count = splits;
        }
