-- A check answers where a question is askable, and refuses as each refusal says.
use Rattle.std.proofs.Common.{◌≡◌, ℕ, zero, suc, ◌+◌, ◌-◌, ◌*◌, ◌<◌, ◌||◌, eqb, ltb, Bool, true, false, cond, List, [], ◌∷◌, length, Option, Some, None, Result, Ok, Err, MatchResult, refl, inl, inr, arith}
use Rattle.std.proofs.Math.Nat.{mul-le-mul_right}
use Rattle.std.proofs.lemmas.Bool.{cases_eq}
use Rattle.std.proofs.lemmas.Bool.Decides.{nat_tests}
use Rattle.question.specs.Lines.{claim, earlier, line_at, Passes}
use Rattle.question.specs.Checks.{line_check, lines_check, OneTo32, EachPasses, Askable, Refuses, ChecksLaw}
use Rattle.question.specs.declared.line.Line.{Line}
use Rattle.question.specs.declared.line.Claim.{Claim}
use Rattle.question.specs.declared.faults.Fault.{Fault}
use Rattle.question.specs.declared.faults.Fault.TheVariants.{Lines, Code, Later, Area}

-- what a refusal says of the line that it names
abbrev Bad : ℕ → Line → Fault → Type 0
Bad k line Lines = ⊥
Bad k line (Code j) = (j ≡ k) × (claim line ≡ None)
Bad k line (Later j) = (j ≡ k) × ((c : Claim) × (claim line ≡ Some c) × (earlier k c ≡ false))
Bad k line Area = ⊥

-- of lines that are numbered from `at` on
abbrev All : ℕ → List Line → Type 0
All at lines = (k : ℕ) → k < length lines → Passes (at + k) (line_at lines k)

abbrev First : ℕ → List Line → Fault → Type 0
First at lines f = (k : ℕ) × (k < length lines) × ((j : ℕ) → j < k → Passes (at + j) (line_at lines j)) × Bad (at + k) (line_at lines k) f

module _ (at : ℕ) (line : Line) where
  known_told : (c : Claim) → claim line ≡ Some c → (b : Bool) → earlier at c ≡ b → MatchResult {T = Unit {0}} {E = Fault} (cond b (Ok tt) (Err (Later at))) (λ _. Passes at line) (Bad at line)
  known_told c says true after = (c, says, after)
  known_told c says false after = (refl, (c, says, after))

  line_told : (told : Option Claim) → claim line ≡ told → MatchResult {T = Unit {0}} {E = Fault} (elim told [ Some c ↦ cond (earlier at c) (Ok tt) (Err (Later at)) | None ↦ Err (Code at) ]) (λ _. Passes at line) (Bad at line)
  line_told (Some c) says = known_told c says (earlier at c) refl
  line_told None says = (refl, says)

  module _ (lines : List Line) where
    later_below : (n : ℕ) → Passes at line → ((k : ℕ) → k < n → Passes (at + 1 + k) (line_at lines k)) → (k : ℕ) → k < suc n → Passes (at + k) (line_at (line ∷ lines) k)
    later_below n here rest zero l = let same : at + 0 ≡ at = omega arith in rw same here
    later_below n here rest (suc k) l = let same : at + suc k ≡ at + 1 + k = omega arith in rw same (rest k (omega arith))

    later_first : (f : Fault) → Passes at line → First (at + 1) lines f → First at (line ∷ lines) f
    later_first f here (k, l, before, bad) = let same : at + 1 + k ≡ at + suc k = omega arith in (suc k, omega (arith, l), later_below k here before, rw same at bad)

    both_told : (r s : Result (Unit {0}) Fault) → MatchResult r (λ _. Passes at line) (Bad at line) → MatchResult s (λ _. All (at + 1) lines) (First (at + 1) lines) → MatchResult {T = Unit {0}} {E = Fault} (elim r [ Ok _ ↦ s | Err f ↦ Err f ]) (λ _. All at (line ∷ lines)) (First at (line ∷ lines))
    both_told (Ok u) (Ok v) here rest = later_below (length lines) here rest
    both_told (Ok u) (Err f) here rest = later_first f here rest
    both_told (Err f) s bad rest = let same : at + 0 ≡ at = omega arith in (0, omega arith, λ j h. absurd (omega arith), rw same bad)

lines_told : (at : ℕ) (lines : List Line) → MatchResult (lines_check at lines) (λ _. All at lines) (First at lines)
lines_told at [] = λ k l. absurd (omega arith)
lines_told at (line ∷ lines) = both_told at line lines (line_check at line) (lines_check (at + 1) lines) (line_told at line (claim line) refl) (lines_told (at + 1) lines)

-- the test of the number of lines, what the lines are told, and the test of the area
module _ (lines : List Line) (width size : ℕ) where
  abbrev needed : ℕ
  needed = length lines * width

  every : All 0 lines → EachPasses lines
  every each k l = let same : 0 + k ≡ k = omega arith in rw same at (each k l)

  module _ (counted : OneTo32 lines) where
    refuses : (f : Fault) → First 0 lines f → Refuses lines width size f
    refuses Lines first = absurd first.3
    refuses (Code j) (k, l, before, (is, bad)) = let same : j ≡ k = omega (arith, is) in rw same (record { counted = counted; line = l; before = λ i h. let here : 0 + i ≡ i = omega arith in rw here at (before i h) }, bad)
    refuses (Later j) (k, l, before, (is, bad)) =
        let same : j ≡ k = omega (arith, is) in
        let here : 0 + k ≡ k = omega arith in
        rw same (record { counted = counted; line = l; before = λ i h. let there : 0 + i ≡ i = omega arith in rw there at (before i h) }, rw here at bad)
    refuses Area first = absurd first.3

  one_to_32 : (eqb (length lines) 0 || ltb 32 (length lines)) ≡ false → OneTo32 lines
  one_to_32 number = record { some = grind (arith, nat_tests); few = grind (arith, nat_tests) }

  law : (b c : Bool) → (eqb (length lines) 0 || ltb 32 (length lines)) ≡ b → ltb size needed ≡ c → (r : Result (Unit {0}) Fault) → MatchResult r (λ _. All 0 lines) (First 0 lines) → MatchResult {T = ℕ} {E = Fault} (cond b (Err Lines) (elim r [ Ok _ ↦ cond c (Err Area) (Ok (needed - width)) | Err f ↦ Err f ])) (λ start. Askable lines width size × (start + width ≡ needed)) (Refuses lines width size)
  law true c number area r told =
      elim (cases_eq (length lines) 0) [
        | inl none ↦ inl none
        | inr some ↦ inr (grind (arith, nat_tests))
      ]
  law false c number area (Err f) told = refuses (one_to_32 number) f told
  law false true number area (Ok u) told = (one_to_32 number, every told, grind (arith, nat_tests))
  law false false number area (Ok u) told =
      let counted = one_to_32 number in
      let row = mul-le-mul_right {m = 1} {n = length lines} width (omega (arith, counted.some)) in
      (record { counted = counted; each = every told; room = grind (arith, nat_tests) }, omega (arith, row))

pub checks_law : ChecksLaw
checks_law lines width size = law lines width size _ _ refl refl (lines_check 0 lines) (lines_told 0 lines)
