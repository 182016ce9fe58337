-- What a grid keeps.
--
--   layout_of    where its bytes stand
--   bytes_of     the memory that it holds
--   ties_of      what it means
use Rattle.std.specs.Prelude.{ℕ, List}
use Rattle.network.specs.Meaning.{Meaning}
use Rattle.network.specs.Layouts.{Layout, grid_of}
use Rattle.network.specs.declared.grid.Shape as shape
use Rattle.network.specs.declared.grid.Grid.{Grid}

module _ {S : Type 0} {s : shape.Ghosts S} where
  abbrev pub layout_of : Grid S s → Layout
  layout_of g = s.layout g.shape

  abbrev pub bytes_of : Grid S s → List ℕ
  bytes_of g = g.bytes.items

  abbrev pub ties_of : Grid S s → Meaning
  ties_of g = grid_of (layout_of g) (bytes_of g)
