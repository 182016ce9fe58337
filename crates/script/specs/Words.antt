-- The lines that are printed.
--
--   refusal_line    ER: the number of the record, and of the refusal
--   settled_line    GO: how many roles there are, and how many splits
--   node_line       NO: a node, and the head of its role
--   true_line       QU: a node that the question is true of
--   remark_line     RM: a remark as it stands
use Rattle.std.specs.Prelude.{ℕ, List, ◌++◌, codes, decimal}

abbrev pub refusal_line : ℕ → ℕ → List ℕ
refusal_line number refusal = codes "ER " ++ (decimal number ++ (codes " " ++ (decimal refusal ++ codes "\n")))

abbrev pub settled_line : ℕ → ℕ → List ℕ
settled_line roles splits = codes "GO " ++ (decimal roles ++ (codes " " ++ (decimal splits ++ codes "\n")))

abbrev pub node_line : ℕ → ℕ → List ℕ
node_line x head = codes "NO " ++ (decimal x ++ (codes " " ++ (decimal head ++ codes "\n")))

abbrev pub true_line : ℕ → List ℕ
true_line x = codes "QU " ++ (decimal x ++ codes "\n")

abbrev pub remark_line : List ℕ → List ℕ
remark_line text = codes "RM" ++ (text ++ codes "\n")
