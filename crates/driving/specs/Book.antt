-- The book of a session: what its calls make of ties and colours.
--
--   Book           a network, and the colour of each node
--   opened         the book at the making: what the network means, and every colour 0
--   after_put      the book after a put: as the network's put, refused or not
--   after_colour   the book after a colour: node i has colour c; as before, where it is none
--   book_after     the book after an edit
--   book_in        the ties and colours of a session's state
use Rattle.std.specs.Prelude.{ℕ}
use Rattle.network.specs.Meaning.{Meaning}
use Rattle.network.specs.Put.{put_after}
use Rattle.equivalence.specs.Regular.{Table}
use Rattle.session.specs.Sessions.{colours_after}
use Rattle.session.specs.States.{State}
use Rattle.driving.specs.declared.call.Edit.{Edit}
use Rattle.driving.specs.declared.call.Edit.TheVariants.{Put, Colour}

pub record Book : Type 0 where
  pub network : Meaning
  pub colours : Table

abbrev pub opened : Meaning → Book
opened m = record { network = m; colours = λ _. 0 }

abbrev pub after_put : Book → ℕ → ℕ → ℕ → Book
after_put book i j b = record book { network = put_after book.network i j b }

abbrev pub after_colour : Book → ℕ → ℕ → Book
after_colour book i c = record book { colours = colours_after book.network.nodes book.colours i c }

abbrev pub book_after : Book → Edit → Book
book_after book (Put i j b) = after_put book i j b
book_after book (Colour i c) = after_colour book i c

abbrev pub book_in : State → Book
book_in s = record { network = s.network; colours = s.colours }
