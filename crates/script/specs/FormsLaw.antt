-- The forms of the lines that a script prints.
--
--   Printed     what a line tells: a refusal, how many roles and splits, a node and the head of its role, a node that the question is true of, or a remark
--   shown       the line that tells it
--   IsLine      there is one line feed, at the end
--   InForms     lines of these forms, one after another, and nothing else
--   FormsLaw    that is what a script prints
use Rattle.std.specs.Prelude.{◌≡◌, ◌≢◌, ℕ, List, ◌++◌, All, flat_map, codes}
use Rattle.script.specs.Transcripts.{transcript}
use Rattle.script.specs.Words.{refusal_line, settled_line, node_line, true_line, remark_line}

pub data Printed : Type 0 where
  Refused : ℕ → ℕ → Printed
  Settled : ℕ → ℕ → Printed
  Node : ℕ → ℕ → Printed
  TrueOf : ℕ → Printed
  Remark : List ℕ → Printed

abbrev pub shown : Printed → List ℕ
shown (Printed.Refused number refusal) = refusal_line number refusal
shown (Printed.Settled roles splits) = settled_line roles splits
shown (Printed.Node x head) = node_line x head
shown (Printed.TrueOf x) = true_line x
shown (Printed.Remark text) = remark_line text

pub record IsLine (bytes : List ℕ) : Type 0 where
  pub text : List ℕ
  pub ended : bytes ≡ text ++ codes "\n"
  pub one : All (λ b. b ≢ 10) text

pub record InForms (bytes : List ℕ) : Type 0 where
  pub prints : List Printed
  pub shows : bytes ≡ flat_map shown prints
  pub lines : All (λ printed. IsLine (shown printed)) prints

pub record FormsLaw : Type 0 where
  pub in_forms : (script : List ℕ) → InForms (transcript script)
