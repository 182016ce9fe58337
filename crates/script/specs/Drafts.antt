-- A question that is added to, line by line.
--
--   add_answer     accepted, or the first no of: fewer than 32 lines before it (6), a known code (7), only earlier lines (8)
--   lines_after    the lines after one was added, refused or not
--   lines_of       the lines of a question of the program
use Rattle.std.specs.Prelude.{cond, nat_lt, List, [], ◌∷◌, ◌++◌, length, Result, Ok, Err}
use Rattle.question.specs.Checks.{line_check}
use Rattle.question.specs.declared.line.Line.{Line}
use Rattle.question.specs.declared.faults.Fault.{Fault}
use Rattle.script.specs.declared.draft.Draft.{Draft}

abbrev pub add_answer : List Line → Line → Result (Unit {0}) Fault
add_answer lines line = cond (nat_lt (length lines) 32) (line_check (length lines) line) (Err Fault.Lines)

abbrev pub lines_after : List Line → Line → List Line
lines_after lines line = elim (add_answer lines line) [ Ok _ ↦ lines ++ line ∷ [] | Err _ ↦ lines ]

abbrev pub lines_of : Draft → List Line
lines_of draft = draft.lines.items
