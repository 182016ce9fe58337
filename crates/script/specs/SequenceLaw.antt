-- A script that is cut between two records.
--
--   afresh         what is played so far, as if it had printed and refused nothing
--   Sequel         a and its line feed, and then b, are two scripts in sequence: the numbers and the offsets go on
--   SequenceLaw    so is each script wherever it is cut behind a line feed
use Rattle.std.specs.Prelude.{◌≡◌, ◌≤◌, ℕ, ◌+◌, List, [], ◌∷◌, ◌++◌, length, fold}
use Rattle.script.specs.Transcripts.{Played, limit, play, played, records, refusals, transcript}

abbrev pub afresh : Played → Played
afresh p = record { phase = p.phase; count = p.count; offset = p.offset; printed = []; faults = [] }

pub record Sequel (a b : List ℕ) : Type 0 where
  pub parts : records (a ++ 10 ∷ b) ≡ records (a ++ 10 ∷ []) ++ records b
  pub printed : length (a ++ 10 ∷ b) ≤ limit → transcript (a ++ 10 ∷ b) ≡ transcript (a ++ 10 ∷ []) ++ (fold play (afresh (played (a ++ 10 ∷ []))) (records b)).printed
  pub refused : length (a ++ 10 ∷ b) ≤ limit → refusals (a ++ 10 ∷ b) ≡ refusals (a ++ 10 ∷ []) ++ (fold play (afresh (played (a ++ 10 ∷ []))) (records b)).faults
  pub count : (played (a ++ 10 ∷ [])).count ≡ length (records (a ++ 10 ∷ []))
  -- the place of b in the whole
  pub offset : (played (a ++ 10 ∷ [])).offset ≡ length a + 1

pub record SequenceLaw : Type 0 where
  pub each : (a b : List ℕ) → Sequel a b
