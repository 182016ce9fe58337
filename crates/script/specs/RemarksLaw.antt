-- Which lines of a transcript are remarks.
--
--   is_remark     a line begins with RM
--   RemarksLaw    the lines RM that a script prints are its own, each whole, once and in their order
use Rattle.std.specs.Prelude.{◌≡◌, ◌≤◌, ℕ, Bool, List, length, codes}
use Rattle.std.specs.List.{filter}
use Rattle.script.specs.Records.{is_mark}
use Rattle.script.specs.Transcripts.{limit, records, transcript}

abbrev pub is_remark : List ℕ → Bool
is_remark text = is_mark (codes "RM") text

pub record RemarksLaw : Type 0 where
  pub each : (script : List ℕ) → length script ≤ limit → filter is_remark (records (transcript script)) ≡ filter is_remark (records script)
