-- A network of two sides, with ties from side A to side B only.
--
--   across             the first node is on side A, and the second on side B
--   two_mode_layout    the pairs across sides of a and b nodes
--   two_mode_check     whether two sides fit into so many bytes
--   untied_sides       two sides without a tie
--   two_mode_made      what a making gives: the network without nodes where the check refuses
--   two_mode_memory    the memory after a making, as it was where the check refuses
--   TwoModeCheckLaw    what each answer of the check says
use Rattle.std.specs.Prelude.{ℕ, ◌+◌, ◌-◌, ◌*◌, ◌<◌, ◌≤◌, Bool, ◌&&◌, List, length, Result, nat_le, nat_lt}
use Rattle.network.specs.Meaning.{Meaning, most_nodes}
use Rattle.network.specs.Layouts.{Layout, cleared, with_ties}
use Rattle.network.specs.Makings.{CheckAnswers, made, making_check}
use Rattle.network.specs.declared.faults.Fault.{Fault}

-- side A has the numbers below a, side B those from a to a + b - 1
abbrev pub across : ℕ → ℕ → ℕ → ℕ → Bool
across a b i j = nat_lt i a && (nat_le a j && nat_lt j (a + b))

-- the byte from i to j stands at i * b + (j - a)
abbrev pub two_mode_layout : ℕ → ℕ → Layout
two_mode_layout a b =
    record { nodes = a + b; allowed = across a b; pairs = a * b; has = across a b; place = λ i j. i * b + (j - a) }

-- a node on each side and at most 128 in all (1), memory of a * b bytes (2)
abbrev pub two_mode_check : ℕ → ℕ → ℕ → Result (Unit {0}) Fault
two_mode_check a b bytes = making_check (nat_lt 0 a && (nat_lt 0 b && nat_le (a + b) most_nodes)) (nat_le (a * b) bytes)

abbrev pub untied_sides : ℕ → ℕ → Meaning
untied_sides a b = with_ties (two_mode_layout a b) (λ _ _. 0)

abbrev pub two_mode_made : ℕ → ℕ → ℕ → Meaning
two_mode_made a b bytes = made (two_mode_check a b bytes) (untied_sides a b) (untied_sides 0 0)

abbrev pub two_mode_memory : ℕ → ℕ → List ℕ → List ℕ
two_mode_memory a b memory = made (two_mode_check a b (length memory)) (cleared (a * b) memory) memory

abbrev pub TwoModeCheckLaw : Type 0
TwoModeCheckLaw = (a b bytes : ℕ) → CheckAnswers ((0 < a) × (0 < b) × (a + b ≤ most_nodes)) (a * b ≤ bytes) (two_mode_check a b bytes)
