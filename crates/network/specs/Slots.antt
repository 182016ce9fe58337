-- Slots, and the tie bytes that they hold.
--
--   is_free      a slot holds no pair
--   holds        it holds this pair
--   byte_of      the byte that it holds, 0 where it is free
--   keeping      the slot of a pair with this byte, free where the byte is 0
--   byte_in      the byte in the first slot that holds the pair, 0 where none does
--   tidy         each taken slot holds a pair of nodes that no later slot holds, and a byte above 0
--   taken        how many slots are taken
--   place_for    where a pair is kept: in the slot that holds it, or else in the first that is free
--   stored       the slots with this byte for the pair, as they were where there is no place for it
use Rattle.std.specs.Prelude.{ℕ, Bool, true, false, cond, not, ◌&&◌, ◌==◌, nat_lt, List, [], ◌∷◌, Option, Some, None, count_by, position, slice_set}
use Rattle.network.specs.Meaning.{inside}
use Rattle.network.specs.declared.slot.Slot.{Slot}
use Rattle.network.specs.declared.slot.Slot.TheVariants.{Free, Taken}

abbrev pub is_free : Slot → Bool
is_free Free = true
is_free (Taken i j b) = false

abbrev pub holds : ℕ → ℕ → Slot → Bool
holds x y Free = false
holds x y (Taken i j b) = i == x && j == y

abbrev pub byte_of : Slot → ℕ
byte_of Free = 0
byte_of (Taken i j b) = b

abbrev pub keeping : ℕ → ℕ → ℕ → Slot
keeping i j b = cond (b == 0) Free (Taken i j b)

abbrev pub byte_in : List Slot → ℕ → ℕ → ℕ
byte_in [] x y = 0
byte_in (s ∷ slots) x y = cond (holds x y s) (byte_of s) (byte_in slots x y)

abbrev pub tidy : ℕ → List Slot → Bool
tidy n [] = true
tidy n (Free ∷ slots) = tidy n slots
tidy n (Taken i j b ∷ slots) = (inside n i j && nat_lt 0 b) && (byte_in slots i j == 0 && tidy n slots)

abbrev pub taken : List Slot → ℕ
taken slots = count_by (λ s. not (is_free s)) slots

abbrev pub place_for : List Slot → ℕ → ℕ → Option ℕ
place_for slots i j = elim (position (holds i j) slots) [ Some k ↦ Some k | None ↦ position is_free slots ]

abbrev pub stored : List Slot → ℕ → ℕ → ℕ → List Slot
stored slots i j b = elim (place_for slots i j) [ Some k ↦ slice_set slots k (keeping i j b) | None ↦ slots ]
