-- A put that is accepted, over any network.
use Rattle.std.proofs.Common.{◌≡◌, ℕ, ◌<◌, true, Ok, Err, Result, sym, refl, subst, arith}
use Rattle.std.proofs.lemmas.Bool.Decides.{nat_tests}
use Rattle.network.specs.Meaning.{Meaning}
use Rattle.network.specs.Put.{put_answer, put_after, with_tie, room}
use Rattle.network.specs.declared.faults.Fault.{Fault}

pub put_accepts : (m : Meaning) (i j b : ℕ) → i < m.nodes → j < m.nodes → m.allowed i j ≡ true → room m i j b ≡ true → put_answer m i j b ≡ Ok tt
put_accepts m i j b hi hj free wide = grind (arith, nat_tests)

-- what depends on the answer, at acceptance and at refusal
pub by_answer : {X : Type 0} (x y : X) (r : Result (Unit {0}) Fault) → r ≡ Ok tt → elim r as (λ _. X) [ Ok _ ↦ x | Err _ ↦ y ] ≡ x
by_answer {X} x y r e = subst (λ s. elim s as (λ _. X) [ Ok _ ↦ x | Err _ ↦ y ] ≡ x) (sym e) refl

pub put_accepted : (m : Meaning) (i j b : ℕ) → put_answer m i j b ≡ Ok tt → put_after m i j b ≡ with_tie m i j b
put_accepted m i j b e = by_answer (with_tie m i j b) m (put_answer m i j b) e

pub put_refused : (m : Meaning) (i j b : ℕ) (f : Fault) → put_answer m i j b ≡ Err f → put_after m i j b ≡ m
put_refused m i j b f e = subst (λ s. elim s as (λ _. Meaning) [ Ok _ ↦ with_tie m i j b | Err _ ↦ m ] ≡ m) (sym e) refl
