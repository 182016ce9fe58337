-- Which records are accepted, and why the others are refused.
use Rattle.std.proofs.Common.{◌≡◌, ℕ, ◌+◌, ◌*◌, ◌≤◌, Bool, true, false, cond, ◌&&◌, leb, ltb, List, [], ◌∷◌, ◌++◌, Result, Ok, Err, refl, ap, ◌∙◌, rules, arith}
use Rattle.std.proofs.lemmas.Bool.Decides.{nat_tests}
use Rattle.std.proofs.lemmas.Nat.{mul-le}
use Rattle.network.specs.Listed.{untied_slots}
use Rattle.network.specs.Meaning.{Meaning}
use Rattle.network.specs.Put.{put_answer}
use Rattle.network.specs.declared.faults.Fault as network
use Rattle.network.specs.Matrices.{untied}
use Rattle.network.specs.TwoModes.{untied_sides}
use Rattle.question.specs.declared.line.Line.{Line}
use Rattle.session.specs.Sessions.{colour_answer}
use Rattle.driving.specs.Book.{Book, after_colour, after_put}
use Rattle.script.specs.BooksLaw.{Story, fed}
use Rattle.script.specs.Drafts.{add_answer}
use Rattle.script.specs.Networks.{enough}
use Rattle.script.specs.Records.{Said}
use Rattle.script.specs.RefusedLaw.{at_work, belongs}
use Rattle.script.specs.Stages.{Phase, answer_in, does, named, outcome}
use Rattle.script.specs.VerdictLaw.{Judged, VerdictLaw, held, phase_behind, sized, verdict}
use Rattle.script.specs.Works.{Chosen}
use Rattle.script.specs.declared.faults.Reason.{Reason}
use Rattle.script.proofs.BooksLaw.{books_law}

-- an answer that is held whole, whatever follows its acceptance
answer_held : {F : Type 0} (reason : F → Reason) (next : Phase × List ℕ) (answer : Result (Unit {0}) F) → answer_in (elim answer [ Ok _ ↦ Ok next | Err f ↦ Err (reason f) ]) ≡ held reason answer
answer_held reason next (Ok _) = refl
answer_held reason next (Err f) = refl

-- bytes enough are never the reason
by_size : (m : Meaning) (small fits : Bool) → (small ≡ true → fits ≡ true)
    → answer_in (named (elim (cond small (cond fits (Ok (tt {0})) (Err network.Fault.Memory)) (Err network.Fault.Size)) [ Ok _ ↦ Ok m | Err f ↦ Err f ])) ≡ cond small (Ok tt) (Err (Reason.Network network.Fault.Size))
by_size m true true room = refl
by_size m true false room = absurd (let e = room refl in search rules)
by_size m false fits room = refl

-- a list is refused for its nodes first, and then for its slots
by_slots : (m : Meaning) (small fits : Bool)
    → answer_in (named (elim (cond small (cond fits (Ok (tt {0})) (Err network.Fault.Memory)) (Err network.Fault.Size)) [ Ok _ ↦ Ok m | Err f ↦ Err f ])) ≡ cond small (cond fits (Ok tt) (Err (Reason.Network network.Fault.Memory))) (Err (Reason.Network network.Fault.Size))
by_slots m true true = refl
by_slots m true false = refl
by_slots m false fits = refl

before_work : (phase : Phase) (said : Said) → belongs said phase ≡ true → at_work phase ≡ false → answer_in (does phase said) ≡ sized said
before_work phase (Said.Remark text) here off = refl
before_work Phase.Network (Said.Matrix n) here off = by_size (untied n) (ltb 0 n && leb n 128) (leb (n * n) enough) (λ e. let l : n ≤ 128 = grind (arith, nat_tests) in grind (arith, nat_tests, mul-le n n 128 128 l l))
before_work Phase.Network (Said.TwoMode a b) here off =
    by_size (untied_sides a b) (ltb 0 a && (ltb 0 b && leb (a + b) 128)) (leb (a * b) enough)
    (λ e.
    let both : a + b ≤ 128 = grind (arith, nat_tests) in
    grind (arith, nat_tests, mul-le a b 128 128 (omega arith) (omega arith)))
before_work Phase.Network (Said.Slots n s) here off = by_slots (untied_slots n s) (ltb 0 n && leb n 128) (ltb 0 s && leb s 1024)
before_work (Phase.Measure m) Said.Kinds here off = refl
before_work (Phase.Measure m) Said.Bundles here off = refl
before_work (Phase.Measure m) Said.Tally here off = refl
before_work phase other here off = absurd (cc)

at_the_work : (by : Chosen) (book : Book) (lines : List Line) (said : Said) → belongs said (Phase.Work by book lines) ≡ true → answer_in (does (Phase.Work by book lines) said) ≡ verdict book lines said
at_the_work by book lines (Said.Put i j b) here = answer_held Reason.Network (Phase.Work by (after_put book i j b) lines, []) (put_answer book.network i j b)
at_the_work by book lines (Said.Colour i c) here = answer_held Reason.Session (Phase.Work by (after_colour book i c) lines, []) (colour_answer book.network.nodes i)
at_the_work by book lines (Said.Question line) here = answer_held Reason.Question (Phase.Work by book (lines ++ line ∷ []), []) (add_answer lines line)
at_the_work by book lines (Said.Remark text) here = refl
at_the_work by book lines Said.Go here = refl
at_the_work by book lines other here = absurd (cc)

by_story : (rs : List (List ℕ)) (said : Said) (phase : Phase) → Story rs phase → belongs said phase ≡ true → at_work phase ≡ true → Judged rs said (answer_in (does phase said))
by_story rs said (Phase.Work by book lines) story here at =
    record {
      network = story.network;
      behind = story.behind;
      by = by;
      since = story.since;
      named = story.named;
      chosen = story.chosen;
      judged = at_the_work by book lines said here ∙ ap (λ b. verdict b lines said) story.kept ∙ ap (λ ls. verdict (fed story.network story.since) ls said) story.question;
    }
by_story rs said Phase.Network story here at = absurd (cc)
by_story rs said (Phase.Measure m) story here at = absurd (cc)

pub verdict_law : VerdictLaw
verdict_law =
    record {
      before = λ rs line said says here off. rw (outcome, says) (before_work (phase_behind rs) said here off);
      work = λ rs line said says here at. rw (outcome, says) (by_story rs said (phase_behind rs) (books_law.books rs) here at);
    }
