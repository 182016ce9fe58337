-- A question that is added to.
use Rattle.std.proofs.Common.{◌≡◌, ℕ, suc, ◌+◌, List, [], ◌∷◌, ◌++◌, length, Result, Ok, Err, refl, sym, subst, rules, arith}
use Rattle.question.specs.Checks.{line_check, lines_check}
use Rattle.question.specs.declared.line.Line.{Line}
use Rattle.question.specs.declared.faults.Fault.{Fault}

abbrev Answer : Type 0
Answer = Result (Unit {0}) Fault

abbrev then : Answer → Answer → Answer
then first rest = elim first as (λ _. Answer) [ Ok _ ↦ rest | Err f ↦ Err f ]

both : (first rest : Answer) → first ≡ Ok tt → rest ≡ Ok tt → then first rest ≡ Ok tt
both first rest a b = subst (λ r. then r rest ≡ Ok tt) (sym a) b

parts : (first rest : Answer) → then first rest ≡ Ok tt → (first ≡ Ok tt) × (rest ≡ Ok tt)
parts (Ok tt) rest e = (refl, e)
parts (Err f) rest e = absurd (search rules)

-- a line that passes behind lines that do
pub passes_more : (at : ℕ) (lines : List Line) (line : Line) → lines_check at lines ≡ Ok tt → line_check (at + length lines) line ≡ Ok tt → lines_check at (lines ++ line ∷ []) ≡ Ok tt
passes_more at [] line before here =
    let place : at + 0 ≡ at = omega arith in
    both (line_check at line) (Ok tt) (rw place at here) refl
passes_more at (first ∷ lines) line before here =
    let place : at + suc (length lines) ≡ at + 1 + length lines = omega arith in
    let (head, rest) = parts (line_check at first) (lines_check (at + 1) lines) before in
    both (line_check at first) (lines_check (at + 1) (lines ++ line ∷ [])) head (passes_more (at + 1) lines line rest (rw place at here))
