-- What a call makes of a session, by its turn.
use Rattle.std.proofs.Common.{rules, ◌≡◌, ℕ, Bool, true, false, List, Result, Ok, Err, refl, sym, ap, subst, ◌∙◌, inl, inr, ◌⊎◌, arith}
use Rattle.network.specs.Meaning.{Meaning}
use Rattle.network.specs.Put.{put_answer, with_tie}
use Rattle.network.specs.declared.faults.Fault.{Fault}
use Rattle.measure.specs.Measures.{Operations, Laws}
use Rattle.equivalence.specs.Regular.{Table}
use Rattle.equivalence.specs.Coarsest.{Coarsest}
use Rattle.equivalence.specs.Heads.{head_of}
use Rattle.equivalence.proofs.Splitting.{split_parted}
use Rattle.session.specs.Sessions.{Edited}
use Rattle.session.specs.States.{IsSound, KeepsHeads, State, classes, role}
use Rattle.session.specs.declared.step.Step.TheVariants.{Stable, Split}
use Rattle.driving.specs.Book.{Book, book_in}
use Rattle.driving.specs.Courses.{Course, course_after}
use Rattle.driving.specs.Laws.{restarts, is_quiet}
use Rattle.driving.specs.Turns.{Edits, Moves, Turn}
use Rattle.driving.specs.declared.call.Call.{Call}
use Rattle.driving.specs.declared.call.Call.TheVariants as calls
use Rattle.driving.specs.declared.call.Edit.{Edit}
use Rattle.driving.specs.declared.call.Edit.TheVariants.{Put, Colour}
use Rattle.driving.specs.declared.call.Move.{Move}
use Rattle.driving.specs.declared.call.Move.TheVariants.{Step, Settle, Reopen}
use Rattle.driving.specs.declared.call.Write.{Write}
use Rattle.driving.specs.declared.call.Write.TheVariants.{Look, Ask}
use Rattle.driving.specs.declared.call.Reply.{Reply}
use Rattle.driving.specs.declared.call.Reply.TheVariants as replies

pub book_same : {m n : Meaning} {a b : Table} → m ≡ n → a ≡ b → ◌≡◌ {A = Book} (record { network = m; colours = a }) (record { network = n; colours = b })
book_same e d = λ i. record { network = e i; colours = d i }

-- no call adds a node or takes one
put_nodes : (m : Meaning) (i j b : ℕ) (r : Result (Unit {0}) Fault) → (elim r as (λ _. Meaning) [ Ok _ ↦ with_tie m i j b | Err _ ↦ m ]).nodes ≡ m.nodes
put_nodes m i j b (Ok _) = refl
put_nodes m i j b (Err _) = refl

course_nodes : (course : Course) (c : Call) → (course_after course c).book.network.nodes ≡ course.book.network.nodes
course_nodes course (calls.Edit (Put i j b)) = grind (arith, put_nodes course.book.network i j b (put_answer course.book.network i j b))
course_nodes course (calls.Edit (Colour i c)) = grind arith
course_nodes course (calls.Move Step) = refl
course_nodes course (calls.Move Settle) = refl
course_nodes course (calls.Move Reopen) = refl
course_nodes course other = refl

-- an edit that is refused
put_refused : (a : Result (Unit {0}) _) (m : Meaning) (colours : Table) (s t : State) → restarts (Reply.Put a) ≡ false → Edited a m colours s t → t ≡ s
put_refused (Ok tt) m colours s t e did = absurd (search rules)
put_refused (Err f) m colours s t e did = did.refused

colour_refused : (a : Result (Unit {0}) _) (m : Meaning) (colours : Table) (s t : State) → restarts (Reply.Colour a) ≡ false → Edited a m colours s t → t ≡ s
colour_refused (Ok tt) m colours s t e did = absurd (search rules)
colour_refused (Err f) m colours s t e did = did.refused

edit_refused : (c : Edit) (s t : State) (r : Reply) → Edits c s t r → restarts r ≡ false → t ≡ s
edit_refused (Put i j b) s t r did e = put_refused _ _ _ s t (rw did.0 at e) did.1
edit_refused (Colour i c) s t r did e = colour_refused _ _ _ s t (rw did.0 at e) did.1

edit_book : (c : Edit) (s t : State) (r : Reply) → Edits c s t r → book_in t ≡ (course_after (record { settled = false; book = book_in s }) (Call.Edit c)).book
edit_book (Put i j b) s t r did = book_same did.1.network did.1.colours
edit_book (Colour i c) s t r did = book_same did.1.network did.1.colours

quiet_rests : (r : Reply) → is_quiet r ≡ true → restarts r ≡ false
quiet_rests (replies.Put (Ok tt)) e = absurd (search rules)
quiet_rests (replies.Colour (Ok tt)) e = absurd (search rules)
quiet_rests other e = refl

module _ {V : Type 0} (o : Operations V) where
  -- the table of a state is the coarsest of its ties and colours
  abbrev pub Best : State → Type 0
  Best s = Coarsest o s.network (classes s) (role s)

  module _ (s t : State) where
    move_book : (c : Move) (r : Reply) → Moves o c s t r → book_in t ≡ book_in s
    move_book Step (replies.Step Stable) did = ap book_in did.1
    move_book Step (replies.Step (Split part toward fresh)) did = book_same did.1.network did.1.colours
    move_book Step other did = absurd did
    move_book Settle r did = book_same did.1.network did.1.colours
    move_book Reopen r did = ap book_in did.1

    -- a move that alters the table says so
    move_quiet : (c : Move) (r : Reply) → Moves o c s t r → is_quiet r ≡ true → t ≡ s
    move_quiet Step (replies.Step Stable) did e = did.1
    move_quiet Step other did e = absurd (search rules)
    move_quiet Settle r did e = absurd (search rules)
    move_quiet Reopen r did e = did.1

    -- no edit, and of the moves none but a step that says stable, keeps what it was asked of the coarsest table
    same_best : t ≡ s → Best s → Best t
    same_best same best = subst Best (sym same) best

    move_best : (c : Move) (r : Reply) → Moves o c s t r → Best s → Best t
    move_best Step (replies.Step Stable) did best = same_best did.1 best
    move_best Step (replies.Step (Split part toward fresh)) did best = absurd (search rules)
    move_best Step other did best = absurd did
    move_best Settle r did best = did.1.coarsest
    move_best Reopen r did best = same_best did.1 best

    heads_same : t ≡ s → KeepsHeads s t
    heads_same same x l e = ap (λ u. head_of (role u) x) same ∙ e

    move_heads : (c : Move) (r : Reply) → Laws o → Moves o c s t r → KeepsHeads s t
    move_heads Step (replies.Step Stable) laws did = heads_same did.1
    move_heads Step (replies.Step (Split part toward fresh)) laws did = (split_parted o laws s.network (role s) (role t) part toward fresh did.1.split).heads
    move_heads Step other laws did = absurd did
    move_heads Settle r laws did = did.1.heads
    move_heads Reopen r laws did = heads_same did.1

    stable_best : (c : Move) → Moves o c s t (Reply.Step Stable) → IsSound o s → Best t
    stable_best Step did sound = same_best did.1 (record { regular = did.0.0 refl; covers = sound.covers })
    stable_best other did sound = absurd (search rules)

  module _ (s t : State) (area : List ℕ) (r : Reply) (after : List ℕ) where
    -- a call that is not a move and no edit leaves the state as it is, and so does one that is not taken
    write_same : (settled : Bool) (c : Write) → Turn o settled (Call.Write c) s t area r after → t ≡ s
    write_same settled (Look q) turn = turn.2
    write_same true (Ask q) turn = turn.2
    write_same false (Ask q) turn = turn.2

    -- no call alters a settled session
    settled_same : (c : Call) → Turn o true c s t area r after → t ≡ s
    settled_same (calls.Edit e) turn = turn.2
    settled_same (calls.Move Step) turn = turn.2
    settled_same (calls.Move Settle) turn = turn.2
    settled_same (calls.Move Reopen) turn = turn.0.1
    settled_same (calls.Write c) turn = write_same true c turn
    settled_same (calls.Tell c) turn = turn.2

    -- the course goes on by the call
    pub booked : (settled : Bool) (c : Call) → Turn o settled c s t area r after → book_in t ≡ (course_after (record { settled = settled; book = book_in s }) c).book
    booked true (calls.Edit e) turn = ap book_in turn.2
    booked false (calls.Edit e) turn = edit_book e s t r turn.0
    booked true (calls.Move Step) turn = ap book_in turn.2
    booked true (calls.Move Settle) turn = ap book_in turn.2
    booked true (calls.Move Reopen) turn = ap book_in turn.0.1
    booked false (calls.Move Step) turn = move_book s t Step r turn.0
    booked false (calls.Move Settle) turn = move_book s t Settle r turn.0
    booked false (calls.Move Reopen) turn = ap book_in turn.2
    booked settled (calls.Write c) turn = ap book_in (write_same settled c turn)
    booked settled (calls.Tell c) turn = ap book_in turn.2

    pub same_nodes : (settled : Bool) (c : Call) → Turn o settled c s t area r after → t.network.nodes ≡ s.network.nodes
    same_nodes settled c turn = ap (λ (b : Book). b.network.nodes) (booked settled c turn) ∙ course_nodes (record { settled = settled; book = book_in s }) c

    -- a quiet reply
    pub quiet : (settled : Bool) (c : Call) → Turn o settled c s t area r after → is_quiet r ≡ true → t ≡ s
    quiet true c turn e = settled_same c turn
    quiet false (calls.Edit c) turn e = edit_refused c s t r turn.0 (quiet_rests r e)
    quiet false (calls.Move Step) turn e = move_quiet s t Step r turn.0 e
    quiet false (calls.Move Settle) turn e = move_quiet s t Settle r turn.0 e
    quiet false (calls.Move Reopen) turn e = turn.2
    quiet false (calls.Write c) turn e = write_same false c turn
    quiet false (calls.Tell c) turn e = turn.2

    -- until a put or a colour is accepted, a coarsest table stays
    pub rests_best : (settled : Bool) (c : Call) → Turn o settled c s t area r after → restarts r ≡ false → Best s → Best t
    rests_best true c turn e best = same_best s t (settled_same c turn) best
    rests_best false (calls.Edit c) turn e best = same_best s t (edit_refused c s t r turn.0 e) best
    rests_best false (calls.Move Step) turn e best = move_best s t Step r turn.0 best
    rests_best false (calls.Move Settle) turn e best = move_best s t Settle r turn.0 best
    rests_best false (calls.Move Reopen) turn e best = same_best s t turn.2 best
    rests_best false (calls.Write c) turn e best = same_best s t (write_same false c turn) best
    rests_best false (calls.Tell c) turn e best = same_best s t turn.2 best

    -- and so do heads
    pub rests_heads : Laws o → (settled : Bool) (c : Call) → Turn o settled c s t area r after → restarts r ≡ false → KeepsHeads s t
    rests_heads laws true c turn e = heads_same s t (settled_same c turn)
    rests_heads laws false (calls.Edit c) turn e = heads_same s t (edit_refused c s t r turn.0 e)
    rests_heads laws false (calls.Move Step) turn e = move_heads s t Step r laws turn.0
    rests_heads laws false (calls.Move Settle) turn e = move_heads s t Settle r laws turn.0
    rests_heads laws false (calls.Move Reopen) turn e = heads_same s t turn.2
    rests_heads laws false (calls.Write c) turn e = heads_same s t (write_same false c turn)
    rests_heads laws false (calls.Tell c) turn e = heads_same s t turn.2

    -- a settled session has the coarsest table
    pub settled_best : (settled : Bool) (c : Call) → Turn o settled c s t area r after → (settled ≡ true → Best s) → (course_after (record { settled = settled; book = book_in s }) c).settled ≡ true → Best t
    settled_best true c turn was e = same_best s t (settled_same c turn) (was refl)
    settled_best false (calls.Move Settle) turn was e = turn.0.1.coarsest
    settled_best false (calls.Write (Look q)) turn was e = absurd (search rules)
    settled_best false (calls.Write (Ask q)) turn was e = absurd (search rules)
    settled_best false other turn was e = absurd (search rules)

    -- and so has one behind a settle, or a step that says stable
    pub found_best : (settled : Bool) (c : Call) → Turn o settled c s t area r after → IsSound o s → (settled ≡ true → Best s) → (c ≡ Call.Move Settle) ⊎ (r ≡ Reply.Step Stable) → Best t
    found_best true c turn sound was found = same_best s t (settled_same c turn) (was refl)
    found_best false (calls.Move Settle) turn sound was found = turn.0.1.coarsest
    found_best false (calls.Move Step) turn sound was (inr e) = stable_best s t Step (rw e at turn.0) sound
    found_best false other turn sound was (inl e) = absurd (search rules)
    found_best false (calls.Edit (Put i j b)) turn sound was (inr e) = absurd (search rules)
    found_best false (calls.Edit (Colour i c)) turn sound was (inr e) = absurd (search rules)
    found_best false (calls.Move Reopen) turn sound was (inr e) = absurd (search rules)
    found_best false (calls.Write (Look q)) turn sound was (inr e) = absurd (search rules)
    found_best false (calls.Write (Ask q)) turn sound was (inr e) = absurd (search rules)
    found_best false (calls.Tell c) turn sound was (inr e) = absurd (search rules)
