-- What a check that passes says of each line.
use Rattle.std.proofs.Common.{◌≡◌, ℕ, zero, suc, ◌+◌, ◌-◌, ◌*◌, ◌<◌, ◌||◌, eqb, ltb, Bool, true, false, cond, List, [], ◌∷◌, length, get_or, Option, Some, None, Result, Ok, Err, refl, ap, ◌∙◌, sym, rules, arith}
use Rattle.question.specs.Lines.{claim, earlier, Passes}
use Rattle.std.proofs.lemmas.Bool.Decides.{nat_tests}
use Rattle.question.specs.Checks.{line_check, lines_check, answer_start, EachPasses}
use Rattle.question.specs.declared.line.Line.{Line}
use Rattle.question.specs.declared.line.Claim.{Claim}
use Rattle.question.specs.declared.faults.Fault.{Fault}

passes_earlier : (at : ℕ) (b : Bool) → ◌≡◌ {A = Result (Unit {0}) Fault} (cond b (Ok tt) (Err (Fault.Later at))) (Ok tt) → b ≡ true
passes_earlier at true e = refl
passes_earlier at false e = absurd (search rules)

passes_claim : (at : ℕ) (says : Option Claim) → ◌≡◌ {A = Result (Unit {0}) Fault} (elim says [ Some c ↦ cond (earlier at c) (Ok tt) (Err (Fault.Later at)) | None ↦ Err (Fault.Code at) ]) (Ok tt) → (c : Claim) × (says ≡ Some c) × (earlier at c ≡ true)
passes_claim at (Some c) e = (c, refl, passes_earlier at (earlier at c) e)
passes_claim at None e = absurd (search rules)

both_pass : (r s : Result (Unit {0}) Fault) → ◌≡◌ {A = Result (Unit {0}) Fault} (elim r [ Ok _ ↦ s | Err f ↦ Err f ]) (Ok tt) → (r ≡ Ok tt) × (s ≡ Ok tt)
both_pass (Ok tt) s e = (refl, e)
both_pass (Err f) s e = absurd (search rules)

line_passes : (at : ℕ) (lines : List Line) → lines_check at lines ≡ Ok tt → (k : ℕ) (d : Line) → k < length lines → Passes (at + k) (get_or lines k d)
line_passes at [] e k d l = absurd (omega arith)
line_passes at (line ∷ lines) e zero d l = let here : at + 0 ≡ at = omega arith in rw here (passes_claim at (claim line) (both_pass (line_check at line) (lines_check (at + 1) lines) e).0)
line_passes at (line ∷ lines) e (suc k) d l =
    let next : at + suc k ≡ at + 1 + k = omega arith in
    rw next (line_passes (at + 1) lines (both_pass (line_check at line) (lines_check (at + 1) lines) e).1 k d (omega arith))

-- a line that passes names only lines before it
pub names_earlier : (at : ℕ) (line : Line) → Passes at line → (c : Claim) → claim line ≡ Some c → earlier at c ≡ true
names_earlier at line (b, is, after) c says = let same : b ≡ c = ap {B = Claim} (λ o. elim o [ Some x ↦ x | None ↦ b ]) (sym is ∙ says) in rw same at after

-- so does each line of a question that passes
pub each_passes : (lines : List Line) → lines_check 0 lines ≡ Ok tt → EachPasses lines
each_passes lines passed k l = let here : 0 + k ≡ k = omega arith in rw here at (line_passes 0 lines passed k (record { code = 0; k = 0; l = 0; byte = 0 }) l)

accepted_by : (b c : Bool) (r : Result (Unit {0}) Fault) (at start : ℕ) → ◌≡◌ {A = Result ℕ Fault} (cond b (Err Fault.Lines) (elim r [ Ok _ ↦ cond c (Err Fault.Area) (Ok at) | Err f ↦ Err f ])) (Ok start) → (b ≡ false) × (at ≡ start)
accepted_by true c r at start e = absurd (search rules)
accepted_by false c (Err f) at start e = absurd (search rules)
accepted_by false true (Ok tt) at start e = absurd (search rules)
accepted_by false false (Ok tt) at start e = (refl, ap {B = ℕ} (λ r. elim r [ Ok k ↦ k | Err f ↦ 0 ]) e)

-- of an accepted question, there is a last line, and its row starts here
pub accepted : (lines : List Line) (width size start : ℕ) → answer_start lines width size ≡ Ok start → (0 < length lines) × (length lines * width - width ≡ start)
accepted lines width size start e =
    let (some, at) = accepted_by (eqb (length lines) 0 || ltb 32 (length lines)) (ltb size (length lines * width)) (lines_check 0 lines) (length lines * width - width) start e in
    (grind (arith, nat_tests), at)
