-- What GO prints of a book.
--
--   classes         the starting classes of the book
--   heads           the head of each node's role, in the coarsest table of the book
--   role_total      how many roles that table has
--   split_total     roles minus starting classes
--   each_below      what is printed for each number below n, one after another
--   settled_lines   how many roles and splits, and each node with the head of its role
--   is_true         the question is true of a node
--   true_lines      the nodes that the question is true of; none where it has no lines
--   go_lines        both
use Rattle.std.specs.Prelude.{ℕ, zero, suc, ◌-◌, Bool, cond, List, [], ◌++◌}
use Rattle.measure.specs.Measures.{Operations}
use Rattle.equivalence.specs.Heads.{roles}
use Rattle.equivalence.specs.Levels.{coarsest_table}
use Rattle.equivalence.specs.Regular.{Table}
use Rattle.equivalence.specs.Starting.{starting_classes}
use Rattle.equivalence.specs.Vetted.{table_of}
use Rattle.question.specs.Truth.{answer, each_node}
use Rattle.question.specs.declared.line.Line.{Line}
use Rattle.driving.specs.Book.{Book}
use Rattle.script.specs.Words.{settled_line, node_line, true_line}

abbrev pub each_below : (ℕ → List ℕ) → ℕ → List ℕ
each_below line zero = []
each_below line (suc n) = each_below line n ++ line n

abbrev pub classes : Book → Table
classes book = starting_classes book.network book.colours

module _ {V : Type 0} (o : Operations V) (book : Book) where
  abbrev pub heads : Table
  heads = table_of (coarsest_table o book.network (classes book))

  abbrev pub role_total : ℕ
  role_total = roles heads book.network.nodes

  abbrev pub split_total : ℕ
  split_total = role_total - roles (classes book) book.network.nodes

  unfoldable pub settled_lines : List ℕ
  settled_lines = settled_line role_total split_total ++ each_below (λ x. node_line x (heads x)) book.network.nodes

  abbrev pub is_true : List Line → ℕ → Bool
  is_true lines x = answer o book.network book.colours each_node lines x

  unfoldable pub true_lines : List Line → List ℕ
  true_lines lines = each_below (λ x. cond (is_true lines x) (true_line x) []) book.network.nodes

  unfoldable pub go_lines : List Line → List ℕ
  go_lines lines = settled_lines ++ true_lines lines
