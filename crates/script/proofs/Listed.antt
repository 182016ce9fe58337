-- What GO prints is the coarsest table of the book.
use Rattle.std.proofs.Common.{◌≡◌, ◌+◌, List, length, refl, ap, arith}
use Rattle.measure.specs.Measures.{Laws, Operations}
use Rattle.measure.specs.BundleLaws.{bundles_laws}
use Rattle.measure.specs.KindLaws.{kinds_laws}
use Rattle.measure.specs.TallyLaws.{tally_laws}
use Rattle.equivalence.specs.Heads.{roles}
use Rattle.equivalence.proofs.Levels.{coarsest_level, named_head}
use Rattle.equivalence.proofs.Refinement.{fewest, roles_le}
use Rattle.question.specs.declared.line.Line.{Line}
use Rattle.driving.specs.Book.{Book}
use Rattle.script.specs.Listings.{classes, heads, role_total, split_total, settled_lines, true_lines, go_lines, each_below}
use Rattle.script.specs.Listed.{Listed, ListedBy}
use Rattle.script.specs.Words.{node_line}
use Rattle.script.specs.Works.{Chosen, go_by}
use Rattle.script.proofs.Printing.{true_lines_none}

module _ {V : Type 0} (o : Operations V) (laws : Laws o) (book : Book) where
  split_counted : split_total o book + roles (classes book) book.network.nodes ≡ role_total o book
  split_counted =
      let fewer = roles_le book.network.nodes (heads o book) (classes book) (coarsest_level o laws book.network (classes book)).covers.within in
      omega (arith, fewer)

  go_listed : (lines : List Line) → Listed o book lines (go_lines o book lines)
  unfolding go_lines settled_lines true_lines
  go_listed lines =
      record {
        role = heads o book;
        splits = split_total o book;
        of_nodes = each_below (λ x. node_line x (heads o book x)) book.network.nodes;
        of_question = true_lines o book lines;
        parts = refl;
        nodes = refl;
        coarsest = coarsest_level o laws book.network (classes book);
        fewest = λ other regular within. fewest o book.network (classes book) (heads o book) other (coarsest_level o laws book.network (classes book)) regular within;
        heads = named_head o laws book.network (classes book);
        counted = split_counted;
        asked = refl;
        unasked = λ none. true_lines_none o book lines (ap (λ (ls : List Line). length ls) none);
      }

pub go_listed_by : (by : Chosen) (book : Book) (lines : List Line) → ListedBy by book lines (go_by by book lines)
go_listed_by Chosen.Kinds = go_listed _ kinds_laws
go_listed_by Chosen.Bundles = go_listed _ bundles_laws
go_listed_by Chosen.Tally = go_listed _ tally_laws
