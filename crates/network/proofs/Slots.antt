-- What slots hold, before and after one is written.
use Rattle.std.proofs.Common.{◌≡◌, ℕ, zero, suc, ◌+◌, ◌<◌, ◌≤◌, true, false, cond, not, ◌&&◌, eqb, List, [], ◌∷◌, length, get_or, set, Some, None, refl, subst, inl, inr, arith, rules}
use Rattle.std.specs.Prelude.{position}
use Rattle.std.specs.List.{position_or_len}
use Rattle.std.proofs.lemmas.Bool.{cases_Bool}
use Rattle.std.proofs.lemmas.Bool.Decides.{nat_tests}
use Rattle.std.proofs.lemmas.List.{get_or_default, get_or_past}
use Rattle.network.specs.Meaning.{inside}
use Rattle.network.specs.Listed.{HeldOnce}
use Rattle.network.specs.Slots.{is_free, holds, byte_of, keeping, byte_in, tidy}
use Rattle.network.specs.declared.slot.Slot.{Slot}
use Rattle.network.specs.declared.slot.Slot.TheVariants.{Free, Taken}

-- the byte of a pair stands in the first slot that holds it, if there is one
pub byte_in_at : (slots : List Slot) (x y : ℕ) → byte_in slots x y ≡ byte_of (get_or slots (position_or_len (holds x y) slots) Free)
byte_in_at [] x y = refl
byte_in_at (s ∷ slots) x y = grind (arith, byte_in_at slots x y)

byte_in_keeping : (i j b : ℕ) (slots : List Slot) (x y : ℕ) → byte_in (keeping i j b ∷ slots) x y ≡ cond (eqb i x && eqb j y && not (eqb b 0)) b (byte_in slots x y)
byte_in_keeping i j b slots x y =
    elim (cases_Bool (eqb b 0)) [
      | inl none ↦ rw none (grind (arith, nat_tests))
      | inr some ↦ rw some (grind (arith, nat_tests))
    ]

-- a pair may be kept in slot k: no other pair stands there, and this one nowhere else
pub record Kept (slots : List Slot) (i j k : ℕ) : Type 0 where
  pub below : k < length slots
  pub own : (x y : ℕ) → holds x y (get_or slots k Free) ≡ true → (x ≡ i) × (y ≡ j)
  pub clear : byte_in (set slots k Free) i j ≡ 0

-- the first slot is another one
kept_behind : (n i j k : ℕ) (s : Slot) (slots : List Slot) → tidy n (s ∷ slots) ≡ true → Kept (s ∷ slots) i j (suc k) → (holds i j s ≡ false) × (tidy n slots ≡ true) × Kept slots i j k
kept_behind n i j k Free slots t p = (refl, t, record { below = omega (arith, p.below); own = p.own; clear = p.clear })
kept_behind n i j k (Taken f g c) slots t p =
    let c' = p.clear in
    let off : (eqb f i && eqb g j) ≡ false = grind (arith, nat_tests) in
    (off, grind (arith, nat_tests), record { below = omega (arith, p.below); own = p.own; clear = grind (arith, nat_tests) })

byte_in_first : (n i j b : ℕ) (s : Slot) (slots : List Slot) → tidy n (s ∷ slots) ≡ true → Kept (s ∷ slots) i j 0 → (x y : ℕ) → byte_in (keeping i j b ∷ slots) x y ≡ cond (eqb x i && eqb y j) b (byte_in (s ∷ slots) x y)
byte_in_first n i j b Free slots t p x y = grind (arith, nat_tests, byte_in_keeping i j b slots x y, p.clear)
byte_in_first n i j b (Taken f g c) slots t p x y = grind (arith, nat_tests, byte_in_keeping i j b slots x y, p.clear, p.own x y)

pub byte_in-set : (n i j b : ℕ) (slots : List Slot) (k : ℕ) → tidy n slots ≡ true → Kept slots i j k → (x y : ℕ) → byte_in (set slots k (keeping i j b)) x y ≡ cond (eqb x i && eqb y j) b (byte_in slots x y)
byte_in-set n i j b [] k t p x y = absurd (omega (arith, p.below))
byte_in-set n i j b (s ∷ slots) zero t p x y = byte_in_first n i j b s slots t p x y
byte_in-set n i j b (s ∷ slots) (suc k) t p x y =
    let behind = kept_behind n i j k s slots t p in
    let off = behind.0 in
    grind (arith, nat_tests, byte_in-set n i j b slots k behind.1 behind.2 x y)

tidy_keeping : (n i j b : ℕ) (slots : List Slot) → inside n i j ≡ true → tidy n slots ≡ true → byte_in slots i j ≡ 0 → tidy n (keeping i j b ∷ slots) ≡ true
tidy_keeping n i j b slots l t none =
    elim (cases_Bool (eqb b 0)) [
      | inl e ↦ rw e t
      | inr e ↦ rw e (grind (arith, nat_tests))
    ]

pub tidy-set : (n i j b : ℕ) (slots : List Slot) (k : ℕ) → inside n i j ≡ true → tidy n slots ≡ true → Kept slots i j k → tidy n (set slots k (keeping i j b)) ≡ true
tidy-set n i j b [] k l t p = refl
tidy-set n i j b (Free ∷ slots) zero l t p = tidy_keeping n i j b slots l t p.clear
tidy-set n i j b (Taken f g c ∷ slots) zero l t p = tidy_keeping n i j b slots l (grind (arith, nat_tests)) p.clear
tidy-set n i j b (Free ∷ slots) (suc k) l t p =
    let behind = kept_behind n i j k Free slots t p in
    tidy-set n i j b slots k l behind.1 behind.2
tidy-set n i j b (Taken f g c ∷ slots) (suc k) l t p =
    let behind = kept_behind n i j k (Taken f g c) slots t p in
    let off = behind.0 in
    let same = byte_in-set n i j b slots k behind.1 behind.2 f g in
    let rest = tidy-set n i j b slots k l behind.1 behind.2 in
    grind (arith, nat_tests)

kept_before : (i j k : ℕ) (s : Slot) (slots : List Slot) → holds i j s ≡ false → Kept slots i j k → Kept (s ∷ slots) i j (1 + k)
kept_before i j k s slots off p =
    let next : Kept (s ∷ slots) i j (suc k) = record { below = omega (arith, p.below); own = p.own; clear = rw off p.clear } in
    let one : suc k ≡ 1 + k = omega arith in
    subst (Kept (s ∷ slots) i j) one next

kept_at : (n i j f g c : ℕ) (slots : List Slot) → tidy n (Taken f g c ∷ slots) ≡ true → holds i j (Taken f g c) ≡ true → Kept (Taken f g c ∷ slots) i j 0
kept_at n i j f g c slots t on =
    record { below = omega arith; own = λ x y h. grind (arith, nat_tests); clear = grind (arith, nat_tests) }

-- the slot that holds the pair
pub kept_found : (n i j : ℕ) (slots : List Slot) → tidy n slots ≡ true → position_or_len (holds i j) slots < length slots → Kept slots i j (position_or_len (holds i j) slots)
kept_found n i j [] t l = absurd (omega arith)
kept_found n i j (Free ∷ slots) t l = kept_before i j _ Free slots refl (kept_found n i j slots t (omega (arith, l)))
kept_found n i j (Taken f g c ∷ slots) t l =
    elim (cases_Bool (eqb f i && eqb g j)) [
      | inl on ↦ rw on (kept_at n i j f g c slots t on)
      | inr off ↦
          let later : position_or_len (holds i j) slots < length slots = grind (arith, l, off) in
          rw off (kept_before i j (position_or_len (holds i j) slots) (Taken f g c) slots off (kept_found n i j slots (grind (arith, nat_tests)) later))
    ]

pub unheld : (i j : ℕ) (slots : List Slot) → length slots ≤ position_or_len (holds i j) slots → byte_in slots i j ≡ 0
unheld i j slots none = rw (byte_in_at slots i j, get_or_past slots _ Free none) refl

-- the first free slot, where none holds the pair
pub kept_free : (i j : ℕ) (slots : List Slot) → length slots ≤ position_or_len (holds i j) slots → position_or_len is_free slots < length slots → Kept slots i j (position_or_len is_free slots)
kept_free i j [] none l = absurd (omega arith)
kept_free i j (Free ∷ slots) none l = record { below = omega arith; own = λ x y h. absurd (search rules); clear = unheld i j slots (omega (arith, none)) }
kept_free i j (Taken f g c ∷ slots) none l =
    elim (cases_Bool (eqb f i && eqb g j)) [
      | inl on ↦ absurd (grind (arith, none, on))
      | inr off ↦
          kept_before i j (position_or_len is_free slots) (Taken f g c) slots off (kept_free i j slots (grind (arith, none, off)) (omega (arith, l)))
    ]

-- a pair without a byte stands in no slot
held_nowhere : (n i j : ℕ) (slots : List Slot) → tidy n slots ≡ true → byte_in slots i j ≡ 0 → (k : ℕ) (d : Slot) → k < length slots → holds i j (get_or slots k d) ≡ false
held_nowhere n i j [] t none k d l = absurd (omega arith)
held_nowhere n i j (Free ∷ slots) t none zero d l = refl
held_nowhere n i j (Free ∷ slots) t none (suc k) d l = held_nowhere n i j slots t none k d (omega (arith, l))
held_nowhere n i j (Taken f g c ∷ slots) t none zero d l = grind (arith, nat_tests)
held_nowhere n i j (Taken f g c ∷ slots) t none (suc k) d l =
    held_nowhere n i j slots (grind (arith, nat_tests)) (grind (arith, nat_tests)) k d (omega (arith, l))

held_later : (n : ℕ) (s : Slot) (slots : List Slot) → tidy n (s ∷ slots) ≡ true → (k : ℕ) (d : Slot) → k < length slots → (i j : ℕ) → holds i j s ≡ true → holds i j (get_or slots k d) ≡ false
held_later n Free slots t k d l i j on = absurd (search rules)
held_later n (Taken f g c) slots t k d l i j on =
    held_nowhere n i j slots (grind (arith, nat_tests)) (grind (arith, nat_tests)) k d l

tidy_behind : (n : ℕ) (s : Slot) (slots : List Slot) → tidy n (s ∷ slots) ≡ true → tidy n slots ≡ true
tidy_behind n Free slots t = t
tidy_behind n (Taken f g c) slots t = grind (arith, nat_tests)

pub held_once : (n : ℕ) (slots : List Slot) → tidy n slots ≡ true → HeldOnce slots
held_once n [] t p q d pq l = absurd (omega arith)
held_once n (s ∷ slots) t p zero d pq l = absurd (omega arith)
held_once n (s ∷ slots) t zero (suc q) d pq l = held_later n s slots t q d (omega (arith, l))
held_once n (s ∷ slots) t (suc p) (suc q) d pq l = held_once n slots (tidy_behind n s slots t) p q d (omega (arith, pq)) (omega (arith, l))

-- only pairs of nodes have a byte
pub byte_in_outside : (n x y : ℕ) (slots : List Slot) → tidy n slots ≡ true → inside n x y ≡ false → byte_in slots x y ≡ 0
byte_in_outside n x y [] t out = refl
byte_in_outside n x y (Free ∷ slots) t out = byte_in_outside n x y slots t out
byte_in_outside n x y (Taken f g c ∷ slots) t out = grind (arith, nat_tests, byte_in_outside n x y slots)

pub byte_found : (x y k : ℕ) (d : Slot) (slots : List Slot) → position (holds x y) slots ≡ Some k → byte_of (get_or slots k d) ≡ byte_in slots x y
byte_found x y k d slots e =
    let at : position_or_len (holds x y) slots ≡ k = grind (arith, nat_tests) in
    let below : k < length slots = grind (arith, nat_tests) in
    rw (byte_in_at slots x y, at, get_or_default slots k d Free below) refl

pub byte_none : (x y : ℕ) (slots : List Slot) → position (holds x y) slots ≡ None → byte_in slots x y ≡ 0
byte_none x y slots e = unheld x y slots (grind (arith, nat_tests))
