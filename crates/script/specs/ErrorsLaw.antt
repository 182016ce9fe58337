-- Which lines of a transcript are refusals.
--
--   is_error      a line begins with ER
--   error_text    the line of a refusal, without its line feed
--   ErrorsLaw     the lines ER that a script prints are those of its refusals, each once and in their order
use Rattle.std.specs.Prelude.{◌≡◌, ℕ, Bool, List, ◌++◌, codes, decimal, map}
use Rattle.std.specs.List.{filter}
use Rattle.script.specs.Faults.{number}
use Rattle.script.specs.Records.{is_mark}
use Rattle.script.specs.Transcripts.{records, refusals, transcript}
use Rattle.script.specs.declared.faults.Fault.{Fault}

abbrev pub is_error : List ℕ → Bool
is_error text = is_mark (codes "ER") text

abbrev pub error_text : Fault → List ℕ
error_text f = codes "ER " ++ (decimal f.record ++ (codes " " ++ decimal (number f.reason)))

pub record ErrorsLaw : Type 0 where
  pub each : (script : List ℕ) → filter is_error (records (transcript script)) ≡ map error_text (refusals script)
