-- A sample script, and what it prints.
--
--   sample            three nodes in a row, a tie that is refused, and a question
--   sample_printed    its lines
--   SamplePrints      the sample prints them
use Rattle.std.specs.Prelude.{◌≡◌, ℕ, List, codes}
use Rattle.script.specs.Transcripts.{transcript}

abbrev pub sample : List ℕ
sample = codes "RM three in a row\nNM 3\nMK\nPU 0 1 1\nPU 1 3 1\nPU 1 2 1\nQC 0\nQT 0 8\nGO\n"

abbrev pub sample_printed : List ℕ
sample_printed = codes "RM three in a row\nER 5 3\nGO 3 2\nNO 0 0\nNO 1 1\nNO 2 2\nQU 1\nQU 2\n"

abbrev pub SamplePrints : Type 0
SamplePrints = transcript sample ≡ sample_printed
