-- Where the record that is refused stands.
--
--   record_at    the record of this number, from 1
--   Placed       the refusal names the number of a record and the place in the script where that record begins
--   PlacesLaw    so does each refusal of a script that is not too long
use Rattle.std.specs.Prelude.{◌≡◌, ◌≤◌, ◌⊎◌, ℕ, ◌+◌, ◌-◌, List, [], length, take, drop, slice_index, slice_index_or}
use Rattle.std.specs.List.{All, before_first}
use Rattle.script.specs.Transcripts.{limit, newline, records, refusals}
use Rattle.script.specs.declared.faults.Fault.{Fault}

abbrev pub record_at : List ℕ → ℕ → List ℕ
record_at script number = slice_index_or (records script) (number - 1) []

pub record Placed (script : List ℕ) (f : Fault) : Type 0 where
  pub from_one : 1 ≤ f.«record»
  pub to_last : f.«record» ≤ length (records script)
  -- a record begins there: at the start, or behind a line feed
  pub begins : (f.offset ≡ 0) ⊎ (slice_index script (f.offset - 1) ≡ 10)
  -- it is the record of that number, by how many stand before it and by its bytes
  pub behind : length (records (take f.offset script)) + 1 ≡ f.«record»
  pub stands : before_first newline (drop f.offset script) ≡ record_at script f.«record»

pub record PlacesLaw : Type 0 where
  pub each : (script : List ℕ) → length script ≤ limit → All (Placed script) (refusals script)
