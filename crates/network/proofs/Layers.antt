-- Puts through a layer.
use Rattle.std.proofs.Common.{◌≡◌, ℕ, cond, eqb, ltb, Ok, Err, Result, refl, ap, ◌∙◌}
use mathlib.Core.Path.{fun_ext}
use mathlib.Core.Bool.{and_comm}
use Rattle.network.specs.Meaning.{Meaning, tied, tied_pairs, inside}
use Rattle.network.specs.Put.{put_answer, put_after, with_tie}
use Rattle.network.specs.Layers.{transposed}
use Rattle.network.specs.declared.faults.Fault.{Fault}
use Rattle.network.proofs.Counting.{sum_below_swap}

pub inside_swap : (n i j : ℕ) → inside n i j ≡ inside n j i
inside_swap n i j = and_comm (ltb i n) (ltb j n)

tied_pairs-transposed : (m : Meaning) → tied_pairs (transposed m) ≡ tied_pairs m
tied_pairs-transposed m = sum_below_swap (λ i j. cond (tied m j i) 1 0) m.nodes m.nodes

pub put_answer-transposed : (m : Meaning) (i j b : ℕ) → put_answer (transposed m) i j b ≡ put_answer m j i b
put_answer-transposed m i j b = rw (inside_swap m.nodes i j, tied_pairs-transposed m)

with_tie-transposed : (m : Meaning) (i j b : ℕ) → with_tie (transposed m) i j b ≡ transposed (with_tie m j i b)
with_tie-transposed m i j b =
    ap (λ tie. record (transposed m) { tie = tie })
    (fun_ext λ x. fun_ext λ y. ap (λ here. cond here b (m.tie y x)) (and_comm (eqb x i) (eqb y j)))

module _ (m : Meaning) (i j b : ℕ) where
  abbrev transposed_after : Result (Unit {0}) Fault → Meaning
  transposed_after r = elim r [ Ok _ ↦ with_tie (transposed m) i j b | Err _ ↦ transposed m ]

  transposed_by_answer : (r : Result (Unit {0}) Fault) → transposed_after r ≡ transposed (elim r as (λ _. Meaning) [ Ok _ ↦ with_tie m j i b | Err _ ↦ m ])
  transposed_by_answer (Ok _) = with_tie-transposed m i j b
  transposed_by_answer (Err _) = refl

  pub put_after-transposed : put_after (transposed m) i j b ≡ transposed (put_after m j i b)
  put_after-transposed = ap transposed_after (put_answer-transposed m i j b) ∙ transposed_by_answer (put_answer m j i b)
