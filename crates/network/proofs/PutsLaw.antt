-- What each answer of a put says.
use Rattle.std.proofs.Common.{◌≡◌, ℕ, ◌<◌, ◌≤◌, ◌⊎◌, Bool, true, false, cond, MatchResult, Ok, Err, Result, inl, inr, refl, arith}
use Rattle.std.proofs.lemmas.Bool.{cases_eq, cases_lt}
use Rattle.std.proofs.lemmas.Bool.Decides.{nat_tests}
use Rattle.network.specs.Meaning.{Meaning, inside, tied_pairs}
use Rattle.network.specs.Put.{room}
use Rattle.network.specs.PutsLaw.{Accepts, Nodes, PutsLaw, Refuses}
use Rattle.network.specs.declared.faults.Fault.{Fault}

abbrev answer : Bool → Bool → Bool → Result (Unit {0}) Fault
answer nodes pair fits = cond nodes (cond pair (cond fits (Ok tt) (Err Fault.Full)) (Err Fault.Pair)) (Err Fault.Node)

module _ (m : Meaning) (i j b : ℕ) where
  both : inside m.nodes i j ≡ true → Nodes m i j
  both is = (grind (arith, nat_tests), grind (arith, nat_tests))

  not_both : inside m.nodes i j ≡ false → (m.nodes ≤ i) ⊎ (m.nodes ≤ j)
  not_both out =
      elim (cases_lt i m.nodes) [
        | inl l ↦ inr (grind (arith, nat_tests))
        | inr past ↦ inl past
      ]

  roomy : room m i j b ≡ true → (b ≡ 0) ⊎ ((0 < m.tie i j) ⊎ (tied_pairs m < m.capacity))
  roomy is =
      elim (cases_eq b 0) [
        | inl none ↦ inl none
        | inr some ↦
            elim (cases_lt 0 (m.tie i j)) [
              | inl l ↦ inr (inl l)
              | inr untied ↦ inr (inr (grind (arith, nat_tests)))
            ]
      ]

  full : room m i j b ≡ false → (0 < b) × (m.tie i j ≡ 0) × (m.capacity ≤ tied_pairs m)
  full out = (grind (arith, nat_tests), grind (arith, nat_tests), grind (arith, nat_tests))

  answered : (nodes pair fits : Bool) → inside m.nodes i j ≡ nodes → m.allowed i j ≡ pair → room m i j b ≡ fits → MatchResult (answer nodes pair fits) (λ _. Accepts m i j b) (Refuses m i j b)
  answered true true true n p f = record { nodes = both n; allowed = p; room = roomy f }
  answered true true false n p f = let (some, untied, most) = full f in (both n, p, some, untied, most)
  answered true false fits n p f = (both n, p)
  answered false pair fits n p f = not_both n

pub puts_law : PutsLaw
puts_law m i j b = answered m i j b _ _ _ refl refl refl
