-- A put to the list, by its slots.
use Rattle.std.proofs.Common.{◌≡◌, ℕ, zero, suc, ◌<◌, Bool, true, false, cond, ◌&&◌, eqb, List, [], ◌∷◌, length, get_or, set, replicate, get_or-set_other, Option, Some, None, Ok, Err, refl, sym, ap, ◌∙◌, inl, inr, arith}
use mathlib.Core.Path.{fun_ext}
use Rattle.std.specs.Prelude.{nat_lt, position}
use Rattle.std.specs.List.{list_any, position_or_len}
use Rattle.std.proofs.lemmas.Bool.{cases_lt}
use Rattle.std.proofs.lemmas.Bool.Decides.{nat_tests}
use Rattle.std.proofs.lemmas.List.{length-replicate, length-set}
use Rattle.network.specs.Meaning.{inside}
use Rattle.network.specs.Put.{put_answer, put_after}
use Rattle.network.specs.PutsLaw.{PutsLaw}
use Rattle.network.specs.Listed.{in_use, list_check, list_made, list_of, slots_answer, with_slots, OneEach, OthersStayLaw}
use Rattle.network.specs.SlotLists.{memory_of, slots_of, ties_of}
use Rattle.network.specs.Slots.{byte_in, byte_of, holds, is_free, keeping, place_for, stored, tidy}
use Rattle.network.specs.declared.faults.Fault.{Fault}
use Rattle.network.specs.declared.slot.Slot.{Slot}
use Rattle.network.specs.declared.slot.Slot.TheVariants.{Free}
use Rattle.network.specs.declared.slot_list.SlotList.{SlotList}
use Rattle.network.proofs.Puts.{put_accepted, put_refused}
use Rattle.network.proofs.PutsLaw.{puts_law}
use Rattle.network.proofs.Slots.{Kept, byte_found, byte_none, byte_in_outside, kept_found, kept_free, held_once, unheld, byte_in-set, tidy-set}
use Rattle.network.proofs.SlotCounts.{slots_answers, tied_pairs-list}

-- some element passes exactly where the first that does is one
any_position : (p : Slot → Bool) (slots : List Slot) → list_any p slots ≡ nat_lt (position_or_len p slots) (length slots)
any_position p [] = refl
any_position p (s ∷ slots) = grind (arith, nat_tests, any_position p slots)

-- the place of a pair keeps it
kept_place : (n i j k : ℕ) (slots : List Slot) → tidy n slots ≡ true → place_for slots i j ≡ Some k → Kept slots i j k
kept_place n i j k slots t e =
    elim (cases_lt (position_or_len (holds i j) slots) (length slots)) [
      | inl l ↦
          let at : position_or_len (holds i j) slots ≡ k = grind (arith, nat_tests) in
          rw (← at) (kept_found n i j slots t l)
      | inr none ↦
          elim (cases_lt (position_or_len is_free slots) (length slots)) [
            | inl l ↦
                let at : position_or_len is_free slots ≡ k = grind (arith, nat_tests) in
                rw (← at) (kept_free i j slots none l)
            | inr full ↦ absurd (grind (arith, nat_tests))
          ]
    ]

pub place_answers : (n i j b k : ℕ) (slots : List Slot) → inside n i j ≡ true → place_for slots i j ≡ Some k → slots_answer n slots i j b ≡ Ok tt
place_answers n i j b k slots l e = grind (arith, nat_tests, any_position (holds i j) slots, any_position is_free slots)

module _ (n i j b : ℕ) (slots : List Slot) (l : inside n i j ≡ true) (t : tidy n slots ≡ true) where
  kept_tie : (k : ℕ) → place_for slots i j ≡ Some k → (x y : ℕ) → byte_in (set slots k (keeping i j b)) x y ≡ cond (eqb x i && eqb y j) b (byte_in slots x y)
  kept_tie k e x y = byte_in-set n i j b slots k t (kept_place n i j k slots t e) x y

  unkept_tie : place_for slots i j ≡ None → byte_in slots i j ≡ 0
  unkept_tie e = grind (arith, nat_tests, unheld i j slots)

  pub accepted_at : (k : ℕ) → place_for slots i j ≡ Some k → put_answer (list_of n slots) i j b ≡ Ok tt
  accepted_at k e = sym (slots_answers n i j b slots t) ∙ place_answers n i j b k slots l e

  pub list_of-set : (k : ℕ) → place_for slots i j ≡ Some k → list_of n (set slots k (keeping i j b)) ≡ put_after (list_of n slots) i j b
  list_of-set k e =
      let size : length (set slots k (keeping i j b)) ≡ length slots = length-set slots k (keeping i j b) in
      ap (λ s. with_slots n s (byte_in (set slots k (keeping i j b)))) size
      ∙ ap (with_slots n (length slots)) (fun_ext λ x. fun_ext λ y. kept_tie k e x y)
      ∙ sym (put_accepted (list_of n slots) i j b (accepted_at k e))

  pub refused_at : place_for slots i j ≡ None → 0 < b → put_answer (list_of n slots) i j b ≡ Err Fault.Full
  refused_at e some =
      sym (slots_answers n i j b slots t)
      ∙ grind (arith, nat_tests, any_position (holds i j) slots, any_position is_free slots)

  pub none_at : place_for slots i j ≡ None → b ≡ 0 → put_answer (list_of n slots) i j b ≡ Ok tt
  none_at e none = sym (slots_answers n i j b slots t) ∙ grind (arith, nat_tests)

  -- a pair without a slot has the byte 0 already
  zero_tie : place_for slots i j ≡ None → b ≡ 0 → (x y : ℕ) → byte_in slots x y ≡ cond (eqb x i && eqb y j) b (byte_in slots x y)
  zero_tie e none x y = grind (arith, nat_tests, unkept_tie e)

  pub list_of-same : place_for slots i j ≡ None → b ≡ 0 → list_of n slots ≡ put_after (list_of n slots) i j b
  list_of-same e none =
      ap (with_slots n (length slots)) (fun_ext λ x. fun_ext λ y. zero_tie e none x y)
      ∙ sym (put_accepted (list_of n slots) i j b (none_at e none))

pub one_each : (n : ℕ) (memory : List Slot) → tidy n (in_use n memory) ≡ true → OneEach n (in_use n memory)
one_each n memory t = record { once = held_once n (in_use n memory) t; counted = sym (tied_pairs-list n (in_use n memory) t) }

-- the same, of a list with nodes
module _ (list : SlotList) (i j : ℕ) (hi : i < list.n) (hj : j < list.n) where
  abbrev n : ℕ
  n = list.n

  abbrev memory : List Slot
  memory = memory_of list

  within : inside n i j ≡ true
  within = grind (arith, nat_tests)

  all_in_use : (slots : List Slot) → in_use n slots ≡ slots
  all_in_use slots = grind (arith, nat_tests)

  neat : tidy n memory ≡ true
  neat = rw (all_in_use memory) at list.tidy

  pub slots_told : (b : ℕ) → slots_answer n (slots_of list) i j b ≡ put_answer (ties_of list) i j b
  slots_told b = slots_answers n i j b (slots_of list) list.tidy

  pub read_found : (k : ℕ) (d : Slot) → position (holds i j) memory ≡ Some k → byte_of (get_or memory k d) ≡ byte_in (slots_of list) i j
  read_found k d at = rw (all_in_use memory) (byte_found i j k d memory at)

  pub read_none : position (holds i j) memory ≡ None → 0 ≡ byte_in (slots_of list) i j
  read_none at = rw (all_in_use memory) (sym (byte_none i j memory at))

  module _ (b k : ℕ) (at : place_for memory i j ≡ Some k) where
    pub put_tidy : tidy n (in_use n (set memory k (keeping i j b))) ≡ true
    put_tidy = rw (all_in_use (set memory k (keeping i j b))) (tidy-set n i j b memory k within neat (kept_place n i j k memory neat at))

    pub put_taken : put_answer (ties_of list) i j b ≡ Ok tt
    put_taken = rw (all_in_use memory) (accepted_at n i j b memory within neat k at)

    pub put_kept : list_of n (in_use n (set memory k (keeping i j b))) ≡ put_after (ties_of list) i j b
    put_kept = rw (all_in_use memory, all_in_use (set memory k (keeping i j b))) (list_of-set n i j b memory within neat k at)

  module _ (b : ℕ) (at : place_for memory i j ≡ None) where
    pub put_full : 0 < b → put_answer (ties_of list) i j b ≡ Err Fault.Full
    put_full some = rw (all_in_use memory) (refused_at n i j b memory within neat at some)

    pub put_full_after : 0 < b → ties_of list ≡ put_after (ties_of list) i j b
    put_full_after some = sym (put_refused (ties_of list) i j b Fault.Full (put_full some))

    pub put_none : b ≡ 0 → ties_of list ≡ put_after (ties_of list) i j b
    put_none none = rw (all_in_use memory) (list_of-same n i j b memory within neat at none)

pub read_outside : (list : SlotList) (i j : ℕ) → inside list.n i j ≡ false → 0 ≡ byte_in (slots_of list) i j
read_outside list i j out = sym (byte_in_outside list.n i j (slots_of list) list.tidy out)

-- free slots hold nothing
tidy_free : (n k : ℕ) → tidy n (replicate k Free) ≡ true
tidy_free n zero = refl
tidy_free n (suc k) = tidy_free n k

byte_in-free : (k x y : ℕ) → byte_in (replicate k Free) x y ≡ 0
byte_in-free zero x y = refl
byte_in-free (suc k) x y = byte_in-free k x y

module _ (n : ℕ) (memory : List Slot) (fits : list_check n (length memory) ≡ Ok tt) where
  abbrev free : List Slot
  free = replicate (length memory) Free

  some : in_use n free ≡ free
  some = grind (arith, nat_tests)

  pub made_tidy : tidy n (in_use n free) ≡ true
  made_tidy = rw some (tidy_free n (length memory))

  pub made_untied : list_of n (in_use n free) ≡ list_made n (length memory)
  made_untied =
      let untied = ap (with_slots n (length free)) (fun_ext λ x. fun_ext λ y. byte_in-free (length memory) x y) in
      rw (some, list_made, fits) (untied ∙ ap (λ s. with_slots n s (λ _ _. 0)) (length-replicate (length memory) Free))

-- only the place of a pair may differ
module _ (memory : List Slot) (k : ℕ) (s : Slot) where
  abbrev set_at : Option ℕ → List Slot
  set_at at = elim at [ Some p ↦ set memory p s | None ↦ memory ]

  set_other : (at : Option ℕ) → (at ≡ Some k → ⊥) → get_or (set_at at) k Free ≡ get_or memory k Free
  set_other (Some p) off = get_or-set_other memory p k s Free (λ e. off (ap {B = Option ℕ} (λ q. Some q) (sym e)))
  set_other None off = refl

pub others_stay_law : OthersStayLaw
others_stay_law n i j b k memory off = by_test (inside n i j)
  where
    by_test : (test : Bool) → get_or (cond test (stored memory i j b) memory) k Free ≡ get_or memory k Free
    by_test true = set_other memory k (keeping i j b) (place_for memory i j) off
    by_test false = refl

pub put_laws : PutsLaw × OthersStayLaw
put_laws = (puts_law, others_stay_law)
