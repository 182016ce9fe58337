-- The work on a network, under the measure that the script chose.
--
--   Chosen        the measure that is chosen
--   measure_of    the measure of the work
--   book_of       the ties and colours of the work
--   go_by         what GO prints under a measure
use Rattle.std.specs.Prelude.{ℕ, List}
use Rattle.measure.specs.Bundles.{bundles}
use Rattle.measure.specs.Kinds.{kinds}
use Rattle.measure.specs.Tally.{tally}
use Rattle.question.specs.declared.line.Line.{Line}
use Rattle.session.specs.OpenSessions.{state_of}
use Rattle.driving.specs.Book.{Book, book_in}
use Rattle.script.specs.Listings.{go_lines}
use Rattle.script.specs.declared.work.AnySession.{AnySession}
use Rattle.script.specs.declared.work.AnySession.TheVariants as session

pub data Chosen : Type 0 where
  Kinds : Chosen
  Bundles : Chosen
  Tally : Chosen

abbrev pub measure_of : AnySession → Chosen
measure_of (session.ByKinds s) = Chosen.Kinds
measure_of (session.ByBundles s) = Chosen.Bundles
measure_of (session.ByTally s) = Chosen.Tally

abbrev pub book_of : AnySession → Book
book_of (session.ByKinds s) = book_in (state_of s.value)
book_of (session.ByBundles s) = book_in (state_of s.value)
book_of (session.ByTally s) = book_in (state_of s.value)

abbrev pub go_by : Chosen → Book → List Line → List ℕ
go_by Chosen.Kinds book lines = go_lines kinds book lines
go_by Chosen.Bundles book lines = go_lines bundles book lines
go_by Chosen.Tally book lines = go_lines tally book lines
