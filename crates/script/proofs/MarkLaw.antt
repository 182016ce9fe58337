-- Which records have a known mark.
--
--   bytes_of    the two bytes of a mark
--   Begins      a record begins with one of these marks
--   Read        the record is read by a form, so it is refused for its fields or not at all
--   Looked      with one of these marks it is read, and with none of them it is refused for its mark
use Rattle.std.proofs.Common.{◌≡◌, ◌⊎◌, ◌↔◌, ℕ, ◌<◌, Bool, true, false, cond, ◌&&◌, eqb, List, [], ◌∷◌, length, map, take, Option, Some, None, Ok, Err, sym, refl, ap, ◌∙◌, subst, inl, inr, ⊎_elim, arith}
use Rattle.std.specs.List.{Contains}
use Rattle.std.specs.Result.{MatchResult}
use Rattle.std.proofs.lemmas.Bool.Decides.{nat_tests}
use Rattle.std.proofs.lemmas.List.Elements.{Contains-append_right, Contains-append_cases, Contains-push_cases}
use Rattle.script.specs.Fields.{field, byte_field, after_field}
use Rattle.script.specs.MarkLaw.{Marked, MarkLaw}
use Rattle.script.specs.Records.{Said, parse}
use Rattle.script.specs.declared.faults.Reason.{Reason}
use Rattle.script.proofs.RecordLaw.{Answer, Form, Mark, go_on, look, marks, parse_marked, read}
use Rattle.script.proofs.RecordLaw.Form.{End, Number, Byte, All}

abbrev bytes_of : Mark → List ℕ
bytes_of mark = mark.first ∷ mark.second ∷ []

abbrev Begins : List Mark → List ℕ → Type 0
Begins rows text = Contains (map bytes_of rows) (take 2 text)

begins_cases : (mark : Mark) (rows : List Mark) (text : List ℕ) → Begins (mark ∷ rows) text → (bytes_of mark ≡ take 2 text) ⊎ Begins rows text
begins_cases mark rows text begins =
    ⊎_elim
    (λ here. ⊎_elim (λ nowhere. absurd (omega (arith, nowhere.1))) inl (Contains-push_cases [] (bytes_of mark) (take 2 text) here))
    inr
    (Contains-append_cases (bytes_of mark ∷ []) (map bytes_of rows) (take 2 text) begins)

begins_short : (rows : List Mark) (text : List ℕ) → length (take 2 text) < 2 → Begins rows text → ⊥
begins_short [] text short begins = omega (arith, begins.1)
begins_short (mark ∷ rows) text short begins =
    ⊎_elim (λ here. let long : 2 ≡ length (take 2 text) = ap length here in omega arith) (begins_short rows text short) (begins_cases mark rows text begins)

abbrev Read : Answer → Type 0
Read told = MatchResult told (λ said. Unit {0}) (λ why. why ≡ Reason.Fields)

ended_read : (said : Said) (none : Bool) → Read (cond none (Ok said) (Err Reason.Fields))
ended_read said true = tt
ended_read said false = refl

go_on_read : (next : ℕ → List ℕ → Answer) (bytes : List ℕ) → ((n : ℕ) → Read (next n (after_field bytes))) → (told : Option ℕ) → Read (go_on next bytes told)
go_on_read next bytes more (Some n) = more n
go_on_read next bytes more None = refl

read_by : (form : Form) (bytes : List ℕ) → Read (read form bytes)
read_by (End what) bytes = ended_read what (eqb (length bytes) 0)
read_by (Number next) bytes = go_on_read (λ n. read (next n)) bytes (λ n. read_by (next n) (after_field bytes)) (field bytes)
read_by (Byte next) bytes = go_on_read (λ n. read (next n)) bytes (λ n. read_by (next n) (after_field bytes)) (byte_field bytes)
read_by (All what) bytes = tt

abbrev Looked : List Mark → List ℕ → Answer → Type 0
Looked rows text told = (Begins rows text × Read told) ⊎ ((Begins rows text → ⊥) × (told ≡ Err Reason.Mark))

looked : (rows : List Mark) (a b : ℕ) (bytes : List ℕ) → Looked rows (a ∷ b ∷ bytes) (look rows a b bytes)
looked [] a b bytes = inr (λ begins. omega (arith, begins.1), refl)
looked (mark ∷ rows) a b bytes = by_test (looked rows a b bytes) (eqb a mark.first && eqb b mark.second) refl
  where
    by_test : Looked rows (a ∷ b ∷ bytes) (look rows a b bytes) → (here : Bool) → (eqb a mark.first && eqb b mark.second) ≡ here → Looked (mark ∷ rows) (a ∷ b ∷ bytes) (cond here (read mark.form bytes) (look rows a b bytes))
    by_test later true is =
        let first : a ≡ mark.first = grind (arith, nat_tests) in
        let second : b ≡ mark.second = grind (arith, nat_tests) in
        inl ((0, omega arith, rw (first, second) refl), read_by mark.form bytes)
    by_test later false is =
        ⊎_elim
        (λ (begins, reads). inl (Contains-append_right (bytes_of mark ∷ []) (map bytes_of rows) (a ∷ b ∷ []) begins, reads))
        (λ (none, told). inr (λ begins. ⊎_elim (λ here. let first : a ≡ mark.first = cc in let second : b ≡ mark.second = cc in grind (arith, nat_tests)) none (begins_cases mark rows (a ∷ b ∷ bytes) begins), told))
        later

parsed : (text : List ℕ) → Looked marks text (parse text)
parsed [] = inr (begins_short marks [] (omega arith), refl)
parsed (a ∷ []) = inr (begins_short marks (a ∷ []) (omega arith), refl)
parsed (a ∷ b ∷ bytes) = subst (Looked marks (a ∷ b ∷ bytes)) (sym (parse_marked a b bytes)) (looked marks a b bytes)

known : (told : Answer) → Read told → told ≡ Err Reason.Mark → ⊥
known (Ok said) reads e = cc
known (Err why) reads e = cc

fields : (told : Answer) → Read told → ((said : Said) → told ≡ Ok said → ⊥) → told ≡ Err Reason.Fields
fields (Ok said) reads not = absurd (not said refl)
fields (Err why) reads not = ap Err reads

unknown : (text : List ℕ) → parse text ≡ Err Reason.Mark ↔ (Marked text → ⊥)
unknown text =
    ⊎_elim
    (λ (begins, reads). (λ e. absurd (known (parse text) reads e), λ none. absurd (none begins)))
    (λ (none, told). (λ e. none, λ none. told))
    (parsed text)

wrong : (text : List ℕ) → parse text ≡ Err Reason.Fields ↔ Marked text × ((said : Said) → parse text ≡ Ok said → ⊥)
wrong text =
    ⊎_elim
    (λ (begins, reads). (λ e. (begins, λ said ok. cc), λ (begins, none). fields (parse text) reads none))
    (λ (none, told). (λ e. cc, λ (begins, not). absurd (none begins)))
    (parsed text)

pub mark_law : MarkLaw
mark_law = record { unknown = unknown; wrong = wrong }

formal : (told : Answer) (why : Reason) → Read told → told ≡ Err why → why ≡ Reason.Fields
formal (Ok said) why reads e = absurd (cc)
formal (Err other) why reads e = let same : other ≡ why = cc in sym same ∙ reads

-- a record that cannot be read is refused for its mark or for its fields
pub unread_for : (text : List ℕ) (why : Reason) → parse text ≡ Err why → (why ≡ Reason.Mark) ⊎ (why ≡ Reason.Fields)
unread_for text why e =
    ⊎_elim
    (λ (begins, reads). inr (formal (parse text) why reads e))
    (λ (none, told). inl (let same : ◌≡◌ {A = Answer} (Err why) (Err Reason.Mark) = sym e ∙ told in cc))
    (parsed text)
