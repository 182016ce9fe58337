-- A script that is cut between two records.
use Rattle.std.proofs.Common.{◌≡◌, ℕ, ◌+◌, ◌≤◌, true, leb, List, [], ◌∷◌, ◌++◌, length, ap, ◌∙◌, arith}
use Rattle.std.specs.List.{fold, sum_by}
use Rattle.std.proofs.lemmas.Bool.Decides.{nat_tests}
use Rattle.std.proofs.lemmas.List.{length-append}
use Rattle.std.proofs.lemmas.List.Sums.{fold-append}
use Rattle.script.specs.SequenceLaw.{afresh, Sequel, SequenceLaw}
use Rattle.script.specs.Transcripts.{Played, blank, limit, play, played, records, refusals, transcript}
use Rattle.script.proofs.Sequences.{records_cut, records_ended, printed_on, faults_on, count_of, offset_of, width, width-split}

pub transcript_within : (script : List ℕ) → length script ≤ limit → transcript script ≡ (played script).printed
transcript_within script within = let fits : leb (length script) limit ≡ true = grind (arith, nat_tests) in rw fits

pub refusals_within : (script : List ℕ) → length script ≤ limit → refusals script ≡ (played script).faults
refusals_within script within = let fits : leb (length script) limit ≡ true = grind (arith, nat_tests) in rw fits

module _ (a b : List ℕ) where
  abbrev first : Played
  first = played (a ++ 10 ∷ [])

  played_cut : played (a ++ 10 ∷ b) ≡ fold play first (records b)
  played_cut = ap (fold play blank) (records_cut a b) ∙ fold-append play blank (records (a ++ 10 ∷ [])) (records b)

  first_within : length (a ++ 10 ∷ b) ≤ limit → length (a ++ 10 ∷ []) ≤ limit
  first_within within = omega (arith, length-append a (10 ∷ b), length-append a (10 ∷ []))

  printed_cut : length (a ++ 10 ∷ b) ≤ limit → transcript (a ++ 10 ∷ b) ≡ transcript (a ++ 10 ∷ []) ++ (fold play (afresh first) (records b)).printed
  printed_cut within =
      rw (transcript_within (a ++ 10 ∷ b) within, transcript_within (a ++ 10 ∷ []) (first_within within))
      (ap (λ (p : Played). p.printed) played_cut ∙ printed_on first (records b))

  refused_cut : length (a ++ 10 ∷ b) ≤ limit → refusals (a ++ 10 ∷ b) ≡ refusals (a ++ 10 ∷ []) ++ (fold play (afresh first) (records b)).faults
  refused_cut within =
      rw (refusals_within (a ++ 10 ∷ b) within, refusals_within (a ++ 10 ∷ []) (first_within within))
      (ap (λ (p : Played). p.faults) played_cut ∙ faults_on first (records b))

  first_count : first.count ≡ length (records (a ++ 10 ∷ []))
  first_count = omega (arith, count_of blank (records (a ++ 10 ∷ [])))

  first_width : sum_by width (records (a ++ 10 ∷ [])) ≡ length a + 1
  first_width = ap (sum_by width) (records_ended a) ∙ width-split a

  first_offset : first.offset ≡ length a + 1
  first_offset = omega (arith, offset_of blank (records (a ++ 10 ∷ [])), first_width)

  sequel : Sequel a b
  sequel =
      record {
        parts = records_cut a b;
        printed = printed_cut;
        refused = refused_cut;
        count = first_count;
        offset = first_offset;
      }

pub sequence_law : SequenceLaw
sequence_law = record { each = sequel }
