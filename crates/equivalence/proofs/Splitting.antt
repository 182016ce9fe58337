-- What a split makes of two tables.
use Rattle.std.proofs.Common.{◌≡◌, ℕ, ◌+◌, ◌<◌, Bool, true, false, cond, not, ◌&&◌, eqb, sym, refl, ap, ap₂, ◌∙◌, inl, inr, arith, subst}
use Rattle.std.specs.Prelude.{◌≢◌, ◌↔◌}
use Rattle.std.proofs.lemmas.Bool.{cases_Bool, and_parts, eq-eqb, eqb-true, both_ways}
use Rattle.std.proofs.lemmas.Bool.Decides.{nat_tests}
use Rattle.network.specs.Meaning.{Meaning}
use Rattle.network.proofs.Counting.{count_below_more, count_below_same}
use Rattle.measure.specs.Measures.{Operations, Laws}
use Rattle.equivalence.specs.Totals.{total}
use Rattle.equivalence.specs.Regular.{Table, Even, Regular, members}
use Rattle.equivalence.specs.Heads.{head_of, is_head, roles}
use Rattle.equivalence.specs.Coarsest.{Refines, Covers}
use Rattle.equivalence.specs.Splitting.{leaves, Split, Parted, SplitLaw}
use Rattle.equivalence.proofs.Heads.{head_same, same_head, head_again, head_decides}
use Rattle.equivalence.proofs.Unions.{balanced_union}

module _ {V : Type 0} (o : Operations V) (laws : Laws o) (m : Meaning) (role : Table) (part : ℕ) (among : ℕ → Bool) where
  abbrev value : ℕ → V
  value x = total o m x among

  abbrev parts : ℕ → Bool
  parts x = leaves o m role part among x

  -- a node leaves exactly when it is of part's role and has not its total
  pub leaver : (x : ℕ) → parts x ≡ true → (role x ≡ role part) × (value x ≢ value part)
  leaver x e =
      let both = and_parts (members role (role part) x) (not (o.same (value x) (value part))) e in
      (eqb-true (role x) (role part) both.0, λ same. grind (arith, both.1, (laws.sameness (value x) (value part)).1 same))

  pub stayer : (x : ℕ) → parts x ≡ false → role x ≡ role part → value x ≡ value part
  stayer x e mate =
      (laws.sameness (value x) (value part)).0
      (grind (arith, nat_tests, cases_Bool (o.same (value x) (value part)), eq-eqb (role x) (role part) mate, e))

  pub leaver_is : (x : ℕ) → role x ≡ role part → value x ≢ value part → parts x ≡ true
  leaver_is x mate apart =
      elim (cases_Bool (parts x)) [
        | inl e ↦ e
        | inr e ↦ absurd (apart (stayer x e mate))
      ]

  pub stayer_is : (x : ℕ) → value x ≡ value part → parts x ≡ false
  stayer_is x same =
      elim (cases_Bool (parts x)) [
        | inl e ↦ absurd ((leaver x e).1 same)
        | inr e ↦ e
      ]

  -- where none leaves, the totals of the role are equal
  pub even_none : ((x : ℕ) → x < m.nodes → parts x ≡ false) → Even o m role (role part) among
  even_none none x y hx hy ex ey = stayer x (none x hx) ex ∙ sym (stayer y (none y hy) ey)

module _ {V : Type 0} (o : Operations V) (laws : Laws o) (m : Meaning) (old new : Table) (part toward fresh : ℕ) (split : Split o m old new part toward fresh) where
  abbrev among : ℕ → Bool
  among = members old (old toward)

  abbrev goes : ℕ → Bool
  goes x = leaves o m old part among x

  part_stays : goes part ≡ false
  part_stays = stayer_is o laws m old part among part refl

  moved : (x : ℕ) → x < m.nodes → goes x ≡ true → head_of new x ≡ fresh
  moved x l e = split.heads x l ∙ ap (λ b. cond b fresh (head_of old x)) e

  kept : (x : ℕ) → x < m.nodes → goes x ≡ false → head_of new x ≡ head_of old x
  kept x l e = split.heads x l ∙ ap (λ b. cond b fresh (head_of old x)) e

  fresh_mate : old fresh ≡ old part
  fresh_mate = (leaver o laws m old part among fresh split.fresh_leaves).0

  -- fresh was the head of no role
  fresh_unused : (x : ℕ) → head_of old x ≢ fresh
  fresh_unused x e =
      let again : head_of old fresh ≡ fresh = subst (λ h. head_of old h ≡ h) e (head_again old x) in
      let same : fresh ≡ part = sym again ∙ head_same old fresh part fresh_mate ∙ split.part_head in
      both_ways (goes part) part_stays (subst (λ h. goes h ≡ true) same split.fresh_leaves)

  finer : Refines m.nodes new old
  finer x y hx hy e =
      let heads = head_same new x y e in
      elim (cases_Bool (goes x)) [
        | inl out ↦
            elim (cases_Bool (goes y)) [
              | inl too ↦ (leaver o laws m old part among x out).0 ∙ sym (leaver o laws m old part among y too).0
              | inr stays ↦ absurd (fresh_unused y (sym (kept y hy stays) ∙ sym heads ∙ moved x hx out))
            ]
        | inr stays ↦
            elim (cases_Bool (goes y)) [
              | inl out ↦ absurd (fresh_unused x (sym (kept x hx stays) ∙ heads ∙ moved y hy out))
              | inr too ↦ same_head old x y (sym (kept x hx stays) ∙ heads ∙ kept y hy too)
            ]
      ]

  together : (x y : ℕ) → x < m.nodes → y < m.nodes → goes x ≡ goes y → old x ≡ old y → new x ≡ new y
  together x y hx hy same e =
      same_head new x y
      (split.heads x hx ∙ ap (λ b. cond b fresh (head_of old x)) same ∙ ap (λ h. cond (goes y) fresh h) (head_same old x y e) ∙ sym (split.heads y hy))

  apart : (x y : ℕ) → x < m.nodes → y < m.nodes → goes x ≡ true → goes y ≡ false → new x ≢ new y
  apart x y hx hy out stays e = fresh_unused y (sym (kept y hy stays) ∙ sym (head_same new x y e) ∙ moved x hx out)

  stays_with : (x : ℕ) → x < m.nodes → (new x ≡ new part) ↔ ((old x ≡ old part) × (total o m x among ≡ total o m part among))
  stays_with x l = (
    λ e.
        let mate = finer x part l split.part_node e in
        elim (cases_Bool (goes x)) [
          | inl out ↦ absurd (apart x part l split.part_node out part_stays e)
          | inr stays ↦ (mate, stayer o laws m old part among x stays mate)
        ],
    λ both. together x part l split.part_node (stayer_is o laws m old part among x both.1 ∙ sym part_stays) both.0,
  )

  leaves_with : (x : ℕ) → x < m.nodes → (new x ≡ new fresh) ↔ ((old x ≡ old part) × (total o m x among ≢ total o m part among))
  leaves_with x l = (
    λ e.
        elim (cases_Bool (goes x)) [
          | inl out ↦ leaver o laws m old part among x out
          | inr stays ↦ absurd (apart fresh x split.fresh_node l split.fresh_leaves stays (sym e))
        ],
    λ both. together x fresh l split.fresh_node (leaver_is o laws m old part among x both.0 both.1 ∙ sym split.fresh_leaves) (both.0 ∙ sym fresh_mate),
  )

  stays_off : (x : ℕ) → old x ≢ old part → goes x ≡ false
  stays_off x other =
      elim (cases_Bool (goes x)) [
        | inl out ↦ absurd (other (leaver o laws m old part among x out).0)
        | inr stays ↦ stays
      ]

  off : (x y : ℕ) → x < m.nodes → y < m.nodes → old x ≢ old part → (new x ≡ new y) ↔ (old x ≡ old y)
  off x y hx hy other =
      (finer x y hx hy, λ e. together x y hx hy (stays_off x other ∙ sym (stays_off y (λ d. other (e ∙ d)))) e)

  heads_kept : (x : ℕ) → x < m.nodes → head_of old x ≡ x → head_of new x ≡ x
  heads_kept x l e =
      elim (cases_Bool (goes x)) [
        | inl out ↦
            let same : x ≡ part = sym e ∙ head_same old x part (leaver o laws m old part among x out).0 ∙ split.part_head in
            absurd (both_ways (goes part) part_stays (subst (λ h. goes h ≡ true) same out))
        | inr stays ↦ kept x l stays ∙ e
      ]

  fresh_heads : is_head new fresh ≡ true
  fresh_heads = (head_decides new fresh).1 (moved fresh split.fresh_node split.fresh_leaves)

  fresh_none : is_head old fresh ≡ false
  fresh_none =
      elim (cases_Bool (is_head old fresh)) [
        | inl e ↦ absurd (fresh_unused fresh ((head_decides old fresh).0 e))
        | inr e ↦ e
      ]

  -- every other node is a head of both tables or of none
  head_both : (x : ℕ) → x < m.nodes → x ≢ fresh → is_head old x ≡ is_head new x
  head_both x l ne =
      elim (cases_Bool (goes x)) [
        | inl out ↦ grind (arith, nat_tests, moved x l out, heads_kept x l)
        | inr stays ↦ rw (kept x l stays) refl
      ]

  one_more : roles new m.nodes ≡ roles old m.nodes + 1
  one_more =
      let rest : ℕ → Bool = λ k. is_head new k && not (eqb k fresh) in
      let same = count_below_same (is_head old) rest m.nodes (λ k l. grind (arith, nat_tests, fresh_none, head_both k l)) in
      omega (arith, same, count_below_more rest (is_head new) m.nodes fresh split.fresh_node (grind (arith, nat_tests)) fresh_heads (λ k ne. grind (arith, nat_tests)))

  pub split_parted : Parted o m old new part toward fresh
  split_parted =
      record {
        stay = stays_with;
        leave = leaves_with;
        two = λ e. apart fresh part split.fresh_node split.part_node split.fresh_leaves part_stays (sym e);
        others = off;
        finer = finer;
        more = one_more;
        heads = heads_kept;
      }

  pub split_irregular : Regular o m old → ⊥
  split_irregular regular =
      (leaver o laws m old part among fresh split.fresh_leaves).1 (regular toward split.toward_node fresh part split.fresh_node split.part_node fresh_mate)

  -- a finer regular table has the role as a union of its own, so it parts what the split parts
  pub covers_split : (classes : Table) → Covers o m classes old → Covers o m classes new
  covers_split classes covers =
      record {
        within = λ x y hx hy e. covers.within x y hx hy (finer x y hx hy e);
        inside = λ other regular within x y hx hy e.
            let inside = covers.inside other regular within in
            let same = balanced_union o laws m other regular among (λ a b la lb d. ap (λ r. eqb r (old toward)) (inside a b la lb d)) x y hx hy e in
            let mate = inside x y hx hy e in
            together x y hx hy (ap₂ (λ r v. eqb r (old part) && not (o.same v (total o m part among))) mate same) mate;
      }

pub split_law : {V : Type 0} (o : Operations V) (laws : Laws o) → SplitLaw o
split_law o laws = split_parted o laws
