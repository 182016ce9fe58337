-- What is true at the column of each node is true of the node.
--
--   Stands    the node that stands for x's column has x's colour, and x's total toward every set that has all or none of the nodes of each column
--   Agree     rows by column, and rows at nodes, that say the same of each node
use Rattle.std.proofs.Common.{◌≡◌, ℕ, ◌+◌, ◌<◌, Bool, false, not, ◌&&◌, eqb, List, [], ◌∷◌, ◌++◌, length, Option, Some, None, sym, refl, ap, ◌∙◌, ap₂, inl, inr, arith}
use Rattle.std.specs.List.{fold}
use Rattle.std.proofs.lemmas.Bool.{cases_order}
use Rattle.std.proofs.lemmas.Bool.Decides.{nat_tests}
use Rattle.std.proofs.lemmas.List.{get_or_append_left, get_or_push, get_or_past, length_push}
use Rattle.network.specs.Meaning.{Meaning}
use Rattle.measure.specs.Measures.{Operations, Laws}
use Rattle.equivalence.specs.Totals.{total}
use Rattle.equivalence.specs.Regular.{Table}
use Rattle.equivalence.specs.Coarsest.{Refines}
use Rattle.equivalence.specs.Starting.{starting_classes}
use Rattle.equivalence.proofs.Gathering.{total_same}
use Rattle.equivalence.proofs.Starting.{starting_tells}
use Rattle.equivalence.proofs.Unions.{balanced_union}
use Rattle.question.specs.Lines.{claim}
use Rattle.question.specs.Truth.{Columns, row, claimed, line_row, rows, each_node, each_role, RolesAnswer}
use Rattle.question.specs.declared.line.Line.{Line}
use Rattle.question.specs.declared.line.Claim.{Claim}
use Rattle.question.specs.declared.line.Claim.TheVariants.{Colour, Not, And, Tied}

pub record Stands {V : Type 0} (o : Operations V) (m : Meaning) (colours : Table) (at : Columns) (x : ℕ) : Type 0 where
  pub colour : colours (at.node (at.column x)) ≡ colours x
  pub totals : (among : ℕ → Bool) → ((a b : ℕ) → a < m.nodes → b < m.nodes → at.column a ≡ at.column b → among a ≡ among b) → total o m (at.node (at.column x)) among ≡ total o m x among

record Agree (n : ℕ) (at : Columns) (by_column by_node : List (ℕ → Bool)) : Type 0 where
  pub long : length by_column ≡ length by_node
  pub same : (k x : ℕ) → x < n → row by_column k (at.column x) ≡ row by_node k x

-- a row more
agree_push : (n : ℕ) (at : Columns) (by_column by_node : List (ℕ → Bool)) (r s : ℕ → Bool) → Agree n at by_column by_node → ((x : ℕ) → x < n → r (at.column x) ≡ s x) → Agree n at (by_column ++ r ∷ []) (by_node ++ s ∷ [])
agree_push n at by_column by_node r s agree more =
    record {
      long = length_push by_column r ∙ ap (λ k. k + 1) agree.long ∙ sym (length_push by_node s);
      same = λ k x l.
          elim (cases_order k (length by_node)) [
            | inl e ↦
                ap (λ f. f (at.column x)) (get_or_push by_column r _ k (agree.long ∙ sym e))
                ∙ more x l
                ∙ ap (λ f. f x) (sym (get_or_push by_node s _ k (sym e)))
            | inr (inl under) ↦
                ap (λ f. f (at.column x)) (get_or_append_left by_column (r ∷ []) _ k (omega (arith, agree.long)))
                ∙ agree.same k x l
                ∙ ap (λ f. f x) (sym (get_or_append_left by_node (s ∷ []) _ k under))
            | inr (inr over) ↦
                ap (λ f. f (at.column x)) (get_or_past (by_column ++ r ∷ []) k _ (omega (arith, agree.long, length_push by_column r)))
                ∙ ap (λ f. f x) (sym (get_or_past (by_node ++ s ∷ []) k _ (omega (arith, length_push by_node s))))
          ];
    }

module _ {V : Type 0} (o : Operations V) (m : Meaning) (colours : Table) (at : Columns) (stands : (x : ℕ) → x < m.nodes → Stands o m colours at x) where
  module _ (by_column by_node : List (ℕ → Bool)) (agree : Agree m.nodes at by_column by_node) (x : ℕ) (node : x < m.nodes) where
    claim_agrees : (c : Claim) → claimed o m colours at (row by_column) c (at.column x) ≡ claimed o m colours each_node (row by_node) c x
    claim_agrees (Colour c) = ap (λ v. eqb v c) (stands x node).colour
    claim_agrees (Not k) = ap not (agree.same k x node)
    claim_agrees (And k l) = ap₂ (λ a b. a && b) (agree.same k x node) (agree.same l x node)
    claim_agrees (Tied k t) =
        ap (λ v. o.holds v t)
        (total_same o m (at.node (at.column x)) (λ y. row by_column k (at.column y)) (row by_node k) (λ y l. agree.same k y l)
        ∙ (stands x node).totals (row by_node k) (λ a b la lb e. sym (agree.same k a la) ∙ ap (row by_column k) e ∙ agree.same k b lb))

    line_agrees : (says : Option Claim) → ◌≡◌ {A = Bool} (elim says [ Some c ↦ claimed o m colours at (row by_column) c (at.column x) | None ↦ false ]) (elim says [ Some c ↦ claimed o m colours each_node (row by_node) c x | None ↦ false ])
    line_agrees (Some c) = claim_agrees c
    line_agrees None = refl

  agree_fold : (lines : List Line) (by_column by_node : List (ℕ → Bool)) → Agree m.nodes at by_column by_node → Agree m.nodes at (fold (λ before line. before ++ line_row o m colours at (row before) line ∷ []) by_column lines) (fold (λ before line. before ++ line_row o m colours each_node (row before) line ∷ []) by_node lines)
  agree_fold [] by_column by_node agree = agree
  agree_fold (line ∷ lines) by_column by_node agree =
      agree_fold lines _ _ (agree_push m.nodes at by_column by_node _ _ agree (λ x l. line_agrees by_column by_node agree x l (claim line)))

  pub agree_rows : (lines : List Line) (k x : ℕ) → x < m.nodes → row (rows o m colours at lines) k (at.column x) ≡ row (rows o m colours each_node lines) k x
  agree_rows lines = (agree_fold lines [] [] (record { long = refl; same = λ k x l. refl })).same

-- nodes of a role have its head's colour, and toward every set of whole roles its total
pub roles_answer : {V : Type 0} (o : Operations V) → Laws o → RolesAnswer o
roles_answer o laws m colours role head quotient lines k x l =
    agree_rows o m colours (each_role role head)
    (λ y h. let (node, mate) = quotient.heads y h in record {
      colour = quotient.within (head (role y)) y node h mate;
      totals = λ among union. balanced_union o laws m role quotient.regular among union (head (role y)) y node h mate;
    })
    lines k x l

-- nodes that start together have one colour
pub within_colours : (n : ℕ) (m : Meaning) (colours role : Table) → Refines n role (starting_classes m colours) → Refines n role colours
within_colours n m colours role within x y lx ly mates = grind (arith, nat_tests, (starting_tells m colours x y).0 (within x y lx ly mates))
