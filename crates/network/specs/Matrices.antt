-- A network kept as n rows of n bytes.
--
--   matrix_layout     every pair of n nodes
--   matrix_check      whether n nodes fit into so many bytes
--   untied            n nodes without a tie
--   matrix_made       what a making gives: the network without nodes where the check refuses
--   matrix_memory     the memory after a making, as it was where the check refuses
--   MatrixCheckLaw    what each answer of the check says
use Rattle.std.specs.Prelude.{ℕ, ◌+◌, ◌*◌, ◌<◌, ◌≤◌, true, ◌&&◌, List, length, Result, nat_le, nat_lt}
use Rattle.network.specs.Meaning.{Meaning, inside, most_nodes}
use Rattle.network.specs.Layouts.{Layout, cleared, with_ties}
use Rattle.network.specs.Makings.{CheckAnswers, made, making_check}
use Rattle.network.specs.declared.faults.Fault.{Fault}

-- the byte from i to j stands at i * n + j
abbrev pub matrix_layout : ℕ → Layout
matrix_layout n =
    record { nodes = n; allowed = λ _ _. true; pairs = n * n; has = inside n; place = λ i j. i * n + j }

-- 1 to 128 nodes (1), memory of n * n bytes (2)
abbrev pub matrix_check : ℕ → ℕ → Result (Unit {0}) Fault
matrix_check n bytes = making_check (nat_lt 0 n && nat_le n most_nodes) (nat_le (n * n) bytes)

abbrev pub untied : ℕ → Meaning
untied n = with_ties (matrix_layout n) (λ _ _. 0)

abbrev pub matrix_made : ℕ → ℕ → Meaning
matrix_made n bytes = made (matrix_check n bytes) (untied n) (untied 0)

abbrev pub matrix_memory : ℕ → List ℕ → List ℕ
matrix_memory n memory = made (matrix_check n (length memory)) (cleared (n * n) memory) memory

abbrev pub MatrixCheckLaw : Type 0
MatrixCheckLaw = (n bytes : ℕ) → CheckAnswers ((0 < n) × (n ≤ most_nodes)) (n * n ≤ bytes) (matrix_check n bytes)
