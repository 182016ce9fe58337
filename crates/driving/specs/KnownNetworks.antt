-- The small networks whose tables are known, as data. Ties have byte 1.
--
--   taken, coloured    what an accepted put and an accepted colour reply
--   known_networks     the networks, once for each measure under which the table is known
use Rattle.std.specs.Prelude.{List, [], ◌∷◌, Ok, Err}
use Rattle.network.specs.declared.faults.Fault.{Fault}
use Rattle.driving.specs.Known.{Entry}
use Rattle.driving.specs.declared.call.Edit.TheVariants.{Put, Colour}
use Rattle.driving.specs.declared.call.Reply.{Reply}
use Rattle.driving.specs.declared.known.Start.TheVariants as start_of
use Rattle.driving.specs.declared.known.Weighing.TheVariants.{Kinds, Bundles, Tally}

abbrev pub taken : Reply
taken = Reply.Put (Ok tt)

abbrev pub coloured : Reply
coloured = Reply.Colour (Ok tt)

-- no ties, and two colours
abbrev pub two_colours : Entry
two_colours =
    record {
      start = start_of.Matrix 4;
      edits = (Colour 0 0, coloured) ∷ (Colour 1 1, coloured) ∷ (Colour 2 0, coloured) ∷ (Colour 3 1, coloured) ∷ [];
      weighing = Kinds;
      table = 0 ∷ 1 ∷ 0 ∷ 1 ∷ [];
      roles = 2;
      splits = 0;
      irregular = [];
    }

-- a node that is tied to itself
abbrev pub own_tie : Entry
own_tie =
    record {
      start = start_of.Matrix 1;
      edits = (Put 0 0 1, taken) ∷ [];
      weighing = Kinds;
      table = 0 ∷ [];
      roles = 1;
      splits = 0;
      irregular = [];
    }

-- a chain of three
abbrev pub short_chain : Entry
short_chain =
    record {
      start = start_of.Matrix 3;
      edits = (Put 0 1 1, taken) ∷ (Put 1 2 1, taken) ∷ [];
      weighing = Kinds;
      table = 0 ∷ 1 ∷ 2 ∷ [];
      roles = 3;
      splits = 2;
      irregular = [];
    }

-- a chain of nine
abbrev pub long_chain : Entry
long_chain =
    record {
      start = start_of.Matrix 9;
      edits = (Put 0 1 1, taken) ∷ (Put 1 2 1, taken) ∷ (Put 2 3 1, taken) ∷ (Put 3 4 1, taken) ∷ (Put 4 5 1, taken) ∷ (Put 5 6 1, taken) ∷ (Put 6 7 1, taken) ∷ (Put 7 8 1, taken) ∷ [];
      weighing = Kinds;
      table = 0 ∷ 1 ∷ 2 ∷ 3 ∷ 4 ∷ 5 ∷ 6 ∷ 7 ∷ 8 ∷ [];
      roles = 9;
      splits = 8;
      irregular = [];
    }

-- one tie; node 2, without ties, differs from node 1 toward node 0
abbrev pub one_tie : Entry
one_tie =
    record {
      start = start_of.Matrix 3;
      edits = (Put 0 1 1, taken) ∷ [];
      weighing = Kinds;
      table = 0 ∷ 1 ∷ 2 ∷ [];
      roles = 3;
      splits = 2;
      irregular = (0 ∷ 1 ∷ 1 ∷ [], (1, 2, 0)) ∷ [];
    }

-- a team of three, and one of two
abbrev pub teams : Entry
teams =
    record {
      start = start_of.Matrix 5;
      edits = (Put 0 1 1, taken) ∷ (Put 0 2 1, taken) ∷ (Put 3 4 1, taken) ∷ [];
      weighing = Kinds;
      table = 0 ∷ 1 ∷ 1 ∷ 0 ∷ 1 ∷ [];
      roles = 2;
      splits = 1;
      irregular = [];
    }

abbrev pub teams_by_tally : Entry
teams_by_tally = record teams { weighing = Tally; table = 0 ∷ 1 ∷ 1 ∷ 3 ∷ 4 ∷ []; roles = 4; splits = 3 }

-- a cycle of three, and a mutual tie
abbrev pub cycles : Entry
cycles =
    record {
      start = start_of.Matrix 5;
      edits = (Put 0 1 1, taken) ∷ (Put 1 2 1, taken) ∷ (Put 2 0 1, taken) ∷ (Put 3 4 1, taken) ∷ (Put 4 3 1, taken) ∷ [];
      weighing = Kinds;
      table = 0 ∷ 0 ∷ 0 ∷ 0 ∷ 0 ∷ [];
      roles = 1;
      splits = 0;
      irregular = [];
    }

abbrev pub cycles_by_bundles : Entry
cycles_by_bundles = record cycles { weighing = Bundles; table = 0 ∷ 0 ∷ 0 ∷ 3 ∷ 3 ∷ []; roles = 2; splits = 1 }

abbrev pub cycles_by_tally : Entry
cycles_by_tally = record cycles { weighing = Tally }

-- nodes 0 to 2 on side A, nodes 3 and 4 on side B
abbrev pub two_sides : Entry
two_sides =
    record {
      start = start_of.TwoMode 3 2;
      edits = (Put 0 3 1, taken) ∷ (Put 1 3 1, taken) ∷ [];
      weighing = Kinds;
      table = 0 ∷ 0 ∷ 2 ∷ 3 ∷ 2 ∷ [];
      roles = 3;
      splits = 2;
      irregular = [];
    }

-- the second tie waits until the first leaves the only slot
abbrev pub one_slot : Entry
one_slot =
    record {
      start = start_of.List 3 1;
      edits = (Put 0 1 1, taken) ∷ (Put 0 2 1, Reply.Put (Err Fault.Full)) ∷ (Put 0 1 0, taken) ∷ (Put 0 2 1, taken) ∷ [];
      weighing = Kinds;
      table = 0 ∷ 1 ∷ 2 ∷ [];
      roles = 3;
      splits = 2;
      irregular = [];
    }

abbrev pub known_networks : List Entry
known_networks =
    two_colours ∷ own_tie ∷ short_chain ∷ long_chain ∷ one_tie ∷ teams
    ∷ teams_by_tally ∷ cycles ∷ cycles_by_bundles ∷ cycles_by_tally ∷ two_sides ∷ one_slot ∷ []
