-- What a question of who holds a test toward the nodes that do not hold another is true of, under each measure.
use Rattle.std.proofs.Common.{◌≡◌, ℕ, ◌-◌, ◌<◌, Bool, true, false, not, eqb, ltb, List, [], ◌∷◌, ◌++◌, length, map, Option, Some, None, Decides, refl, ap, ◌∙◌, inl, inr, arith}
use mathlib.Core.Path.{fun_ext}
use Rattle.std.specs.List.{fold}
use Rattle.std.proofs.lemmas.Bool.{cases_Bool, eqb-true, eq-eqb, lt-ltb, ltb-true}
use Rattle.std.proofs.lemmas.Bool.Decides.{nat_tests}
use Rattle.network.specs.Meaning.{Meaning}
use Rattle.measure.specs.Measures.{Operations}
use Rattle.measure.specs.Bits.{bit}
use Rattle.measure.specs.Kinds.{kinds}
use Rattle.measure.specs.Bundles.{bundles}
use Rattle.measure.specs.Tally.{tally}
use Rattle.equivalence.specs.Totals.{total}
use Rattle.equivalence.specs.Regular.{Table}
use Rattle.equivalence.specs.Equitable.{out_neighbours}
use Rattle.equivalence.proofs.SetTotals.{Member, node_from_total, total_from_node}
use Rattle.equivalence.proofs.RegularEquivalence.{out_member}
use Rattle.equivalence.proofs.MultiplexEquivalence.{bundle_member}
use Rattle.equivalence.proofs.EquitablePartition.{true_counts}
use Rattle.question.specs.Lines.{claim}
use Rattle.question.specs.Truth.{Columns, row, claimed, line_row, rows, answer, each_node}
use Rattle.question.specs.declared.line.Line.{Line}
use Rattle.question.specs.declared.line.Claim.{Claim}
use Rattle.manual.specs.Asking.{Means, toward_claims, TiedToAnEnd, TiedOneWay, TiedToTwoEnds, any}

module _ {V : Type 0} (o : Operations V) (m : Meaning) (colours : Table) (at : Columns) where
  abbrev claim_row : (ℕ → ℕ → Bool) → Option Claim → ℕ → Bool
  claim_row told says p = elim says [ Some c ↦ claimed o m colours at told c p | None ↦ false ]

  abbrev claim_more : List (ℕ → Bool) → Option Claim → List (ℕ → Bool)
  claim_more before says = before ++ claim_row (row before) says ∷ []

  fold_claims : (lines : List Line) (before : List (ℕ → Bool)) → fold (λ told line. told ++ line_row o m colours at (row told) line ∷ []) before lines ≡ fold claim_more before (map claim lines)
  fold_claims [] before = refl
  fold_claims (line ∷ lines) before = fold_claims lines _

  length_claims : (lines : List Line) → length lines ≡ length (map claim lines)
  length_claims [] = refl
  length_claims (line ∷ lines) = omega (arith, length_claims lines)

  -- an answer is that of the claims
  answer_by_claims : (lines : List Line) (claims : List (Option Claim)) → map claim lines ≡ claims → answer o m colours at lines ≡ row (fold claim_more [] claims) (length claims - 1)
  answer_by_claims lines claims is =
      ap (λ k. row (rows o m colours at lines) (k - 1)) (length_claims lines)
      ∙ ap (λ rs. row rs (length (map claim lines) - 1)) (fold_claims lines [])
      ∙ ap (λ cs. row (fold claim_more [] cs) (length cs - 1)) is

-- y does not hold test s toward anyone
abbrev lacks : {V : Type 0} → Operations V → Meaning → ℕ → ℕ → Bool
lacks o m s y = not (o.holds (total o m y any) s)

toward_holds :
    {V : Type 0} (o : Operations V) (m : Meaning) (colours : Table) (s t : ℕ) (lines : List Line)
    → map claim lines ≡ toward_claims s t
    → ((y : ℕ) → colours y ≡ 0)
    → (x : ℕ)
    → answer o m colours each_node lines x ≡ o.holds (total o m x (lacks o m s)) t
toward_holds o m colours s t lines is plain x =
    let every : ◌≡◌ {A = ℕ → Bool} (λ z. eqb (colours z) 0) any = fun_ext λ z. eq-eqb (colours z) 0 (plain z) in
    ap (λ r. r x) (answer_by_claims o m colours each_node lines (toward_claims s t) is)
    ∙ ap (λ among. o.holds (total o m x (λ y. not (o.holds (total o m y among) s))) t) every

-- of a measure of sets, where the tests ask for members
module _ {V : Type 0} (o : Operations V) (lack has : ℕ → ℕ → Bool) (s t : ℕ) (is_lack : Member o s lack) (is_has : Member o t has) (m : Meaning) where
  abbrev Toward : ℕ → Type 0
  Toward x = (y : ℕ) × (y < m.nodes) × (has (m.tie x y) (m.tie y x) ≡ true) × ((z : ℕ) → z < m.nodes → ¬ (lack (m.tie y z) (m.tie z y) ≡ true))

  lacks_decides : (y : ℕ) → Decides (lacks o m s y) ((z : ℕ) → z < m.nodes → ¬ (lack (m.tie y z) (m.tie z y) ≡ true))
  lacks_decides y =
      elim (cases_Bool (o.holds (total o m y any) s)) [
        | inl held ↦
            let (z, node, inner, brings) = node_from_total o s lack is_lack m y any held in
            (λ e. absurd (cc), λ none. absurd (none z node brings))
        | inr free ↦ (λ _ z l brings. let held = total_from_node o s lack is_lack m y any z l refl brings in absurd (cc), λ _. ap not free)
      ]

  toward_decides : (x : ℕ) → Decides (o.holds (total o m x (lacks o m s)) t) (Toward x)
  toward_decides x = (
    λ e. let (y, node, inner, brings) = node_from_total o t has is_has m x (lacks o m s) e in (y, node, brings, (lacks_decides y).0 inner),
    λ (y, node, brings, none). total_from_node o t has is_has m x (lacks o m s) y node ((lacks_decides y).1 none) brings,
  )

out_kind : Member kinds 0 (λ o i. bit o 0)
out_kind = out_member 0 (omega arith)

pub asks_kinds : (lines : List Line) → map claim lines ≡ toward_claims 0 0 → Means kinds TiedToAnEnd lines
asks_kinds lines is m colours few plain x node =
    rw (toward_holds kinds m colours 0 0 lines is plain x) (toward_decides kinds _ _ 0 0 out_kind out_kind m x)

pub asks_bundles : (lines : List Line) → map claim lines ≡ toward_claims 9 1 → Means bundles TiedOneWay lines
asks_bundles lines is m colours few plain x node =
    let both = toward_decides bundles _ _ 9 1 (bundle_member 9 (omega arith)) (bundle_member 1 (omega arith)) m x in
    rw (toward_holds bundles m colours 9 1 lines is plain x) (
      λ e. let (y, l, out, none) = both.0 e in (y, l, eqb-true _ 1 out, λ z h both_ways. none z h (eq-eqb _ 9 both_ways)),
      λ (y, l, out, none). both.1 (y, l, eq-eqb _ 1 out, λ z h both_ways. none z h (eqb-true _ 9 both_ways)),
    )

none_out : (n : ℕ) → not (ltb 0 n) ≡ eqb n 0
none_out n = grind (arith, nat_tests)

pub asks_tally : (lines : List Line) → map claim lines ≡ toward_claims 0 1 → Means tally TiedToTwoEnds lines
asks_tally lines is m colours few plain x node =
    let ends : ◌≡◌ {A = ℕ → Bool} (lacks tally m 0) (λ y. eqb (out_neighbours m y any) 0) =
    fun_ext λ y. ap (λ k. not (ltb 0 k)) (true_counts m y any few).outgoing ∙ none_out (out_neighbours m y any)
    in
    let count = ap (λ among. (total tally m x among).out) ends ∙ (true_counts m x (λ y. eqb (out_neighbours m y any) 0) few).outgoing in
    rw (toward_holds tally m colours 0 1 lines is plain x, count)
    (λ e. omega (arith, ltb-true 1 _ e), λ two. lt-ltb 1 _ (omega (arith, two)))
