-- What calls, and the network at the making, tell of a session: whether it is settled, and its book.
--
--   takes            a session that is settled, or is not, takes the call
--   Course           whether the session is settled, and its book
--   course_after     the same after a call: an edit that is taken is fed to the book
--   course_of        the same after a list of calls, from the making on
--   calls_of         the calls of a list of exchanges
--   course_before    the course before call k of the list
--   last_book        the book after a list of exchanges
use Rattle.std.specs.Prelude.{ℕ, Bool, true, false, cond, not, List, fold, map, take}
use Rattle.network.specs.Meaning.{Meaning}
use Rattle.driving.specs.Book.{Book, book_after, opened}
use Rattle.driving.specs.declared.call.Call.{Call}
use Rattle.driving.specs.declared.call.Call.TheVariants as calls
use Rattle.driving.specs.declared.call.Exchange.{Exchange}
use Rattle.driving.specs.declared.call.Move.TheVariants.{Settle, Reopen}
use Rattle.driving.specs.declared.call.Write.TheVariants.{Ask}

abbrev pub takes : Bool → Call → Bool
takes settled (calls.Edit e) = not settled
takes settled (calls.Move Reopen) = settled
takes settled (calls.Move other) = not settled
takes settled (calls.Write (Ask q)) = settled
takes settled other = true

pub record Course : Type 0 where
  pub settled : Bool
  pub book : Book

abbrev pub course_after : Course → Call → Course
course_after c (calls.Edit e) = cond c.settled c (record c { book = book_after c.book e })
course_after c (calls.Move Settle) = record c { settled = true }
course_after c (calls.Move Reopen) = record c { settled = false }
course_after c other = c

abbrev pub course_of : Meaning → List Call → Course
course_of m calls = fold course_after (record { settled = false; book = opened m }) calls

abbrev pub calls_of : List Exchange → List Call
calls_of exchanges = map (λ e. e.call) exchanges

abbrev pub course_before : Meaning → List Exchange → ℕ → Course
course_before m given k = course_of m (take k (calls_of given))

abbrev pub last_book : Meaning → List Exchange → Book
last_book m given = (course_of m (calls_of given)).book
