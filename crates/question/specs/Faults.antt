-- The number, the origin, the line and the words of each refusal of a question.
use Rattle.std.specs.Prelude.{ℕ, List, ◌++◌, codes, decimal, Option, Some, None}
use Rattle.question.specs.declared.faults.Fault.{Fault}
use Rattle.question.specs.declared.faults.Fault.TheVariants.{Lines, Code, Later, Area}

abbrev pub number : Fault → ℕ
number Lines = 6
number (Code line) = 7
number (Later line) = 8
number Area = 9

abbrev pub origin : Fault → List ℕ
origin f = codes "question"

abbrev pub line_of : Fault → Option ℕ
line_of Lines = None
line_of (Code line) = Some line
line_of (Later line) = Some line
line_of Area = None

abbrev pub said : Fault → List ℕ
said Lines = codes "not 1 to 32 lines"
said (Code line) = codes "an unknown code at line " ++ decimal line
said (Later line) = codes "a line that is not earlier, at line " ++ decimal line
said Area = codes "too small an area"
