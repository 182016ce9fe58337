-- What the list network keeps.
--
--   memory_of    the memory that it holds: its slots, or, where it has no nodes, what was handed to its making
--   slots_of     its slots
--   ties_of      what it means
use Rattle.std.specs.Prelude.{List}
use Rattle.network.specs.Meaning.{Meaning}
use Rattle.network.specs.Listed.{in_use, list_of}
use Rattle.network.specs.declared.slot.Slot.{Slot}
use Rattle.network.specs.declared.slot_list.SlotList.{SlotList}

abbrev pub memory_of : SlotList → List Slot
memory_of l = l.memory.items

abbrev pub slots_of : SlotList → List Slot
slots_of l = in_use l.n (memory_of l)

abbrev pub ties_of : SlotList → Meaning
ties_of l = list_of l.n (slots_of l)
