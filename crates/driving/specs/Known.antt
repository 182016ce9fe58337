-- What is known of a small network.
--
--   started      a network without ties
--   replies      what each edit replies, in the book that those before it leave
--   edited       the book that the edits leave
--   Entry        a network, the edits that draw it with their replies, a measure, and what is known
--   drawn        the book of the network
--   classes      its starting classes
--   Shows        three nodes show that a table is not regular, and no other three do, so they are the vet's answer
--   KnownUnder   each edit replies so, and then the table is the coarsest, with so many roles after so many splits
--   KnownBy      the same, by the name of the measure
--   Known        the same, by the measure of the entry
--   entry_of     an entry of the code, without its loans
use Rattle.std.specs.Prelude.{◌≡◌, ℕ, ◌+◌, ◌<◌, List, [], ◌∷◌, length, map, Option, Some, Result, Ok, All}
use Rattle.network.specs.Listed.{untied_slots}
use Rattle.network.specs.Meaning.{Meaning}
use Rattle.network.specs.Matrices.{untied}
use Rattle.network.specs.TwoModes.{untied_sides}
use Rattle.measure.specs.Measures.{Operations}
use Rattle.measure.specs.Kinds.{kinds}
use Rattle.measure.specs.Bundles.{bundles}
use Rattle.measure.specs.Tally.{tally}
use Rattle.equivalence.specs.Regular.{Table, Unequal}
use Rattle.equivalence.specs.Vetted.{table_of, Vetted}
use Rattle.equivalence.specs.Coarsest.{Coarsest}
use Rattle.equivalence.specs.Heads.{head_of, roles as role_count}
use Rattle.equivalence.specs.Starting.{starting_classes}
use Rattle.equivalence.specs.declared.faults.Fault.{Fault}
use Rattle.driving.specs.Book.{Book, book_after, opened}
use Rattle.driving.specs.Turns.{edit_reply}
use Rattle.driving.specs.declared.call.Edit.{Edit}
use Rattle.driving.specs.declared.call.Reply.{Reply}
use Rattle.driving.specs.declared.known.KnownNetwork.{KnownNetwork}
use Rattle.driving.specs.declared.known.Start.{Start}
use Rattle.driving.specs.declared.known.Start.TheVariants.{Matrix, TwoMode, List as Slots}
use Rattle.driving.specs.declared.known.Weighing.{Weighing}
use Rattle.driving.specs.declared.known.Weighing.TheVariants.{Kinds, Bundles, Tally}

abbrev pub started : Start → Meaning
started (Matrix n) = untied n
started (TwoMode a b) = untied_sides a b
started (Slots n s) = untied_slots n s

abbrev pub replies : Book → List (Edit × Reply) → List Reply
replies book [] = []
replies book (edit ∷ edits) = edit_reply book edit.0 ∷ replies (book_after book edit.0) edits

abbrev pub edited : Book → List (Edit × Reply) → Book
edited book [] = book
edited book (edit ∷ edits) = edited (book_after book edit.0) edits

pub record Entry : Type 0 where
  pub start : Start
  pub edits : List (Edit × Reply)
  pub weighing : Weighing
  pub table : List ℕ
  pub roles : ℕ
  pub splits : ℕ
  -- tables that are not regular, each with its witness
  pub irregular : List (List ℕ × (ℕ × ℕ × ℕ))

abbrev pub drawn : Entry → Book
drawn known = edited (opened (started known.start)) known.edits

abbrev pub classes : Entry → Table
classes known = starting_classes (drawn known).network (drawn known).colours

pub record Shows {V : Type 0} (o : Operations V) (m : Meaning) (irregular : List ℕ × (ℕ × ℕ × ℕ)) : Type 0 where
  pub one_each : length irregular.0 ≡ m.nodes
  pub shown : Unequal o m (table_of irregular.0) irregular.1.0 irregular.1.1 irregular.1.2
  pub only : (x y z : ℕ) → Unequal o m (table_of irregular.0) x y z → (x, y, z) ≡ irregular.1
  -- so the vet answers with these three
  pub answer : (r : Result (Option (ℕ × ℕ × ℕ)) Fault) → Vetted o m irregular.0 r → r ≡ Ok (Some irregular.1)

pub record KnownUnder {V : Type 0} (o : Operations V) (known : Entry) : Type 0 where
  pub answered : replies (opened (started known.start)) known.edits ≡ map (λ edit. edit.1) known.edits
  pub one_each : length known.table ≡ (drawn known).network.nodes
  pub coarsest : Coarsest o (drawn known).network (classes known) (table_of known.table)
  -- each role is called by its head
  pub heads : (x : ℕ) → x < (drawn known).network.nodes → head_of (table_of known.table) x ≡ table_of known.table x
  pub count : role_count (table_of known.table) (drawn known).network.nodes ≡ known.roles
  -- a split makes one role more, from the starting classes on
  pub splits : known.splits + role_count (classes known) (drawn known).network.nodes ≡ known.roles
  pub irregular : All (Shows o (drawn known).network) known.irregular

abbrev pub KnownBy : Weighing → Entry → Type 0
KnownBy Kinds = KnownUnder kinds
KnownBy Bundles = KnownUnder bundles
KnownBy Tally = KnownUnder tally

abbrev pub Known : Entry → Type 0
Known known = KnownBy known.weighing known

abbrev pub entry_of : KnownNetwork → Entry
entry_of known =
    record {
      start = known.start;
      edits = known.edits.now;
      weighing = known.weighing;
      table = known.table.now;
      roles = known.roles;
      splits = known.splits;
      irregular = map (λ irregular. (irregular.table.now, irregular.witness)) known.irregular.now;
    }
