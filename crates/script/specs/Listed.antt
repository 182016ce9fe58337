-- What GO prints is the coarsest table of the book.
--
--   Listed       this is printed of a table, and the table is the coarsest within the starting classes of the book
--   ListedBy     the same under the measure that is chosen
use Rattle.std.specs.Prelude.{◌≡◌, ◌<◌, ◌≤◌, ℕ, ◌+◌, cond, List, [], ◌++◌}
use Rattle.measure.specs.Measures.{Operations}
use Rattle.measure.specs.Bundles.{bundles}
use Rattle.measure.specs.Kinds.{kinds}
use Rattle.measure.specs.Tally.{tally}
use Rattle.equivalence.specs.Coarsest.{Coarsest, Refines}
use Rattle.equivalence.specs.Heads.{head_of, roles}
use Rattle.equivalence.specs.Regular.{Regular, Table}
use Rattle.question.specs.Truth.{answer, each_node}
use Rattle.question.specs.declared.line.Line.{Line}
use Rattle.driving.specs.Book.{Book}
use Rattle.script.specs.Listings.{classes, each_below}
use Rattle.script.specs.Words.{settled_line, node_line, true_line}
use Rattle.script.specs.Works.{Chosen}

pub record Listed {V : Type 0} (o : Operations V) (book : Book) (lines : List Line) (printed : List ℕ) : Type 0 where
  -- what is printed behind a node is its role
  pub role : Table
  pub splits : ℕ
  pub of_nodes : List ℕ
  pub of_question : List ℕ
  pub parts : printed ≡ (settled_line (roles role book.network.nodes) splits ++ of_nodes) ++ of_question
  pub nodes : of_nodes ≡ each_below (λ x. node_line x (role x)) book.network.nodes
  pub coarsest : Coarsest o book.network (classes book) role
  pub fewest : (other : Table) → Regular o book.network other → Refines book.network.nodes other (classes book) → roles role book.network.nodes ≤ roles other book.network.nodes
  -- a role is named by its lowest node
  pub heads : (x : ℕ) → x < book.network.nodes → head_of role x ≡ role x
  pub counted : splits + roles (classes book) book.network.nodes ≡ roles role book.network.nodes
  -- the nodes that the last line of the question is true of
  pub asked : of_question ≡ each_below (λ x. cond (answer o book.network book.colours each_node lines x) (true_line x) []) book.network.nodes
  pub unasked : lines ≡ [] → of_question ≡ []

abbrev pub ListedBy : Chosen → Book → List Line → List ℕ → Type 0
ListedBy Chosen.Kinds book lines printed = Listed kinds book lines printed
ListedBy Chosen.Bundles book lines printed = Listed bundles book lines printed
ListedBy Chosen.Tally book lines printed = Listed tally book lines printed
