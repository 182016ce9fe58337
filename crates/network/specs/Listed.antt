-- A network whose tied pairs stand in slots.
--
--   in_use           the slots of a network of n nodes, none where it has no nodes
--   with_slots       the network of n nodes with these ties: every pair may be tied, as many at a time as there are slots
--   list_of          the network of n nodes over these slots
--   list_check       whether n nodes fit over so many slots
--   untied_slots     n nodes and so many slots, and no tie
--   list_made        what a making gives: the network without nodes where the check refuses
--   list_memory      the memory after a making: free slots, or as it was where the check refuses
--   slots_answer     what a put answers, by the slots: accepted, or the first no of nodes (3), a slot for the pair (5)
--   put_in           the memory after a put
--   OthersStayLaw    a put leaves every slot as it was but the place of its pair
--   HeldOnce         no two slots hold one pair
--   OneEach          so it is, and as many slots are taken as pairs are tied
--   ListCheckLaw     what each answer of the check says
use Rattle.std.specs.Prelude.{◌≡◌, ℕ, ◌<◌, ◌≤◌, true, false, cond, ◌&&◌, ◌||◌, ◌==◌, nat_lt, nat_le, List, [], length, replicate, Ok, Err, Result, Some, slice_index_or, AllPairs}
use Rattle.std.specs.List.{list_any}
use Rattle.network.specs.Meaning.{Meaning, inside, most_nodes, tied_pairs}
use Rattle.network.specs.Makings.{CheckAnswers, made, making_check}
use Rattle.network.specs.Slots.{byte_in, holds, is_free, place_for, stored, taken}
use Rattle.network.specs.declared.faults.Fault.{Fault}
use Rattle.network.specs.declared.slot.Slot.{Slot}
use Rattle.network.specs.declared.slot.Slot.TheVariants.{Free}

abbrev pub in_use : ℕ → List Slot → List Slot
in_use n memory = cond (n == 0) [] memory

abbrev pub with_slots : ℕ → ℕ → (ℕ → ℕ → ℕ) → Meaning
with_slots n s tie = record { nodes = n; tie = tie; allowed = λ _ _. true; capacity = s }

abbrev pub list_of : ℕ → List Slot → Meaning
list_of n slots = with_slots n (length slots) (byte_in slots)

-- 1 to 128 nodes (1), 1 to 1024 slots (2)
abbrev pub list_check : ℕ → ℕ → Result (Unit {0}) Fault
list_check n slots = making_check (nat_lt 0 n && nat_le n most_nodes) (nat_lt 0 slots && nat_le slots 1024)

abbrev pub untied_slots : ℕ → ℕ → Meaning
untied_slots n slots = with_slots n slots (λ _ _. 0)

abbrev pub list_made : ℕ → ℕ → Meaning
list_made n slots = made (list_check n slots) (untied_slots n slots) (untied_slots 0 0)

abbrev pub list_memory : ℕ → List Slot → List Slot
list_memory n memory = made (list_check n (length memory)) (replicate (length memory) Free) memory

abbrev pub slots_answer : ℕ → List Slot → ℕ → ℕ → ℕ → Result (Unit {0}) Fault
slots_answer n slots i j b =
    cond (inside n i j) (cond (b == 0 || (list_any (holds i j) slots || list_any is_free slots)) (Ok tt) (Err Fault.Full)) (Err Fault.Node)

abbrev pub put_in : ℕ → List Slot → ℕ → ℕ → ℕ → List Slot
put_in n memory i j b = cond (inside n i j) (stored memory i j b) memory

abbrev pub OthersStayLaw : Type 0
OthersStayLaw = (n i j b k : ℕ) (memory : List Slot) → (place_for memory i j ≡ Some k → ⊥) → slice_index_or (put_in n memory i j b) k Free ≡ slice_index_or memory k Free

abbrev pub HeldOnce : List Slot → Type 0
HeldOnce slots = AllPairs (λ s t. (i j : ℕ) → holds i j s ≡ true → holds i j t ≡ false) slots

pub record OneEach (n : ℕ) (slots : List Slot) : Type 0 where
  pub once : HeldOnce slots
  pub counted : taken slots ≡ tied_pairs (list_of n slots)

abbrev pub ListCheckLaw : Type 0
ListCheckLaw = (n slots : ℕ) → CheckAnswers ((0 < n) × (n ≤ most_nodes)) ((0 < slots) × (slots ≤ 1024)) (list_check n slots)
