-- What a handed area holds after a question.
--
--   row_bytes      a row of this width: 1 where it is true, 0 where it is not
--   area_after     the rows one after another, and then what the area held; all that it held, where the question is refused
--   row_at         the row of this width that starts here, none where the area does not reach so far
--   looked         the area after look: a row has a column for each node
--   asked          the area after ask: a row has a column for each role of a table, and its head stands for it
--   NodesAnswered  row by row, an area has at the column of each node what the network answers for the node
use Rattle.std.specs.Prelude.{◌≡◌, ℕ, ◌+◌, ◌*◌, ◌<◌, Bool, cond, nat_le, List, [], ◌++◌, length, map, take, drop, flat_map, slice_index, Result, Ok, Err}
use Rattle.std.specs.List.{range_with_len}
use Rattle.network.specs.Meaning.{Meaning}
use Rattle.measure.specs.Measures.{Operations}
use Rattle.equivalence.specs.Regular.{Table}
use Rattle.equivalence.specs.Heads.{roles}
use Rattle.question.specs.Checks.{answer_start}
use Rattle.question.specs.Truth.{row, rows, answer, each_node, each_role}
use Rattle.question.specs.declared.line.Line.{Line}
use Rattle.question.specs.declared.faults.Fault.{Fault}

abbrev pub row_bytes : ℕ → (ℕ → Bool) → List ℕ
row_bytes width row = map (λ p. cond (row p) 1 0) (range_with_len 0 width)

abbrev pub area_after : Result ℕ Fault → ℕ → List (ℕ → Bool) → List ℕ → List ℕ
area_after start width rows area = elim start [ Ok _ ↦ flat_map (row_bytes width) rows ++ drop (length rows * width) area | Err _ ↦ area ]

abbrev pub row_at : List ℕ → ℕ → ℕ → List ℕ
row_at area start width = cond (nat_le (start + width) (length area)) (take width (drop start area)) []

module _ {V : Type 0} (o : Operations V) (m : Meaning) (colours : Table) where
  abbrev pub looked : List Line → List ℕ → List ℕ
  looked lines area = area_after (answer_start lines m.nodes (length area)) m.nodes (rows o m colours each_node lines) area

  abbrev pub asked : Table → (ℕ → ℕ) → List Line → List ℕ → List ℕ
  asked role head lines area =
      let width = roles role m.nodes in
      area_after (answer_start lines width (length area)) width (rows o m colours (each_role role head) lines) area

  -- in rows of this width, of which the last one starts here
  pub record NodesAnswered (lines : List Line) (column : ℕ → ℕ) (width start : ℕ) (area : List ℕ) : Type 0 where
    pub each : (k x : ℕ) → k < length lines → x < m.nodes → slice_index area (k * width + column x) ≡ cond (row (rows o m colours each_node lines) k x) 1 0
    pub last : (x : ℕ) → x < m.nodes → slice_index area (start + column x) ≡ cond (answer o m colours each_node lines x) 1 0
