-- What a refusal leaves, and what is refused for its stage or its form.
--
--   Beneath          a refusal of a part below
--   Formal           a refusal of the mark or the fields
--   Deep             an outcome that is refused by a part below or not at all
--   Decided          what comes of what belongs to the phase, and of what does not
--   acted            what is done by what was read
--   Told             what is read of a record
use Rattle.std.proofs.Common.{◌≡◌, ◌⊎◌, ◌↔◌, ℕ, Bool, true, false, List, [], ◌∷◌, ◌++◌, Result, Ok, Err, refl, ap, ⊎_elim}
use Rattle.std.specs.Result.{MatchResult}
use Rattle.std.proofs.lemmas.Result.{MatchResult-at_err}
use Rattle.network.specs.Meaning.{Meaning}
use Rattle.network.specs.Put.{put_answer}
use Rattle.network.specs.declared.faults.Fault as network
use Rattle.question.specs.declared.faults.Fault as question
use Rattle.session.specs.Sessions.{colour_answer}
use Rattle.session.specs.declared.faults.Fault as session
use Rattle.driving.specs.Book.{after_put, after_colour}
use Rattle.script.specs.Drafts.{add_answer}
use Rattle.script.specs.Networks.{enough, list_named, matrix_named, two_mode_named}
use Rattle.script.specs.Records.{Said, parse}
use Rattle.script.specs.Stages.{Phase, Outcome, named, does, outcome}
use Rattle.script.specs.RefusedLaw.{Refused, Accepted, RefusedLaw, belongs, StageLaw, OrderLaw}
use Rattle.script.specs.Transcripts.{Played, play, after_outcome}
use Rattle.script.specs.declared.faults.Reason.{Reason}
use Rattle.script.proofs.MarkLaw.{unread_for}

each_of : (p : Played) (line : List ℕ) (did : Outcome) → outcome p.phase line ≡ did → MatchResult did (Accepted p line) (Refused p line)
each_of p line (Ok next) is =
    let so : play p line ≡ after_outcome p line (Ok next) = ap (after_outcome p line) is in
    record { phase = ap (λ (q : Played). q.phase) so; printed = ap (λ (q : Played). q.printed) so; faults = ap (λ (q : Played). q.faults) so; count = ap (λ (q : Played). q.count) so; offset = ap (λ (q : Played). q.offset) so }
each_of p line (Err why) is =
    let so : play p line ≡ after_outcome p line (Err why) = ap (after_outcome p line) is in
    record { phase = ap (λ (q : Played). q.phase) so; printed = ap (λ (q : Played). q.printed) so; faults = ap (λ (q : Played). q.faults) so; count = ap (λ (q : Played). q.count) so; offset = ap (λ (q : Played). q.offset) so }

pub refused_law : RefusedLaw
refused_law = record { each = λ p line. each_of p line (outcome p.phase line) refl }

data Beneath : Reason → Type 0 where
  Network : (f : network.Fault) → Beneath (Reason.Network f)
  Session : (f : session.Fault) → Beneath (Reason.Session f)
  Question : (f : question.Fault) → Beneath (Reason.Question f)

not_stage : {why : Reason} → Beneath why → why ≡ Reason.Stage → ⊥
not_stage (Network f) e = cc
not_stage (Session f) e = cc
not_stage (Question f) e = cc

abbrev Formal : Reason → Type 0
Formal why = (why ≡ Reason.Mark) ⊎ (why ≡ Reason.Fields)

not_formal : {why : Reason} → Beneath why → Formal why → ⊥
not_formal (Network f) formal = ⊎_elim (λ e. cc) (λ e. cc) formal
not_formal (Session f) formal = ⊎_elim (λ e. cc) (λ e. cc) formal
not_formal (Question f) formal = ⊎_elim (λ e. cc) (λ e. cc) formal

abbrev Deep : Outcome → Type 0
Deep did = MatchResult did (λ next. Unit {0}) Beneath

named_deep : (made : Result Meaning network.Fault) → Deep (named made)
named_deep (Ok m) = tt
named_deep (Err f) = Network f

module _ (next : Phase × List ℕ) where
  put_deep : (answer : Result (Unit {0}) network.Fault) → Deep (elim answer [ Ok _ ↦ Ok next | Err f ↦ Err (Reason.Network f) ])
  put_deep (Ok _) = tt
  put_deep (Err f) = Network f

  colour_deep : (answer : Result (Unit {0}) session.Fault) → Deep (elim answer [ Ok _ ↦ Ok next | Err f ↦ Err (Reason.Session f) ])
  colour_deep (Ok _) = tt
  colour_deep (Err f) = Session f

  question_deep : (answer : Result (Unit {0}) question.Fault) → Deep (elim answer [ Ok _ ↦ Ok next | Err f ↦ Err (Reason.Question f) ])
  question_deep (Ok _) = tt
  question_deep (Err f) = Question f

abbrev Decided : Bool → Outcome → Type 0
Decided true did = Deep did
Decided false did = did ≡ Err Reason.Stage

decided : (phase : Phase) (said : Said) → Decided (belongs said phase) (does phase said)
decided phase (Said.Remark text) = tt
decided Phase.Network (Said.Matrix n) = named_deep (matrix_named n enough)
decided Phase.Network (Said.TwoMode a b) = named_deep (two_mode_named a b enough)
decided Phase.Network (Said.Slots n s) = named_deep (list_named n s)
decided Phase.Network Said.Kinds = refl
decided Phase.Network Said.Bundles = refl
decided Phase.Network Said.Tally = refl
decided Phase.Network (Said.Put i j b) = refl
decided Phase.Network (Said.Colour i c) = refl
decided Phase.Network (Said.Question line) = refl
decided Phase.Network Said.Go = refl
decided (Phase.Measure m) (Said.Matrix n) = refl
decided (Phase.Measure m) (Said.TwoMode a b) = refl
decided (Phase.Measure m) (Said.Slots n s) = refl
decided (Phase.Measure m) Said.Kinds = tt
decided (Phase.Measure m) Said.Bundles = tt
decided (Phase.Measure m) Said.Tally = tt
decided (Phase.Measure m) (Said.Put i j b) = refl
decided (Phase.Measure m) (Said.Colour i c) = refl
decided (Phase.Measure m) (Said.Question line) = refl
decided (Phase.Measure m) Said.Go = refl
decided (Phase.Work by book lines) (Said.Matrix n) = refl
decided (Phase.Work by book lines) (Said.TwoMode a b) = refl
decided (Phase.Work by book lines) (Said.Slots n s) = refl
decided (Phase.Work by book lines) Said.Kinds = refl
decided (Phase.Work by book lines) Said.Bundles = refl
decided (Phase.Work by book lines) Said.Tally = refl
decided (Phase.Work by book lines) (Said.Put i j b) = put_deep (Phase.Work by (after_put book i j b) lines, []) (put_answer book.network i j b)
decided (Phase.Work by book lines) (Said.Colour i c) = colour_deep (Phase.Work by (after_colour book i c) lines, []) (colour_answer book.network.nodes i)
decided (Phase.Work by book lines) (Said.Question line) = question_deep (Phase.Work by book (lines ++ line ∷ []), []) (add_answer lines line)
decided (Phase.Work by book lines) Said.Go = tt

deep_refusal : (did : Outcome) (why : Reason) → Deep did → did ≡ Err why → Beneath why
deep_refusal did why deep e = MatchResult-at_err (λ next. Unit {0}) Beneath why e deep

out_of_place : (here : Bool) (did : Outcome) → Decided here did → did ≡ Err Reason.Stage ↔ (here ≡ false)
out_of_place true did deep = (λ e. absurd (not_stage (deep_refusal did Reason.Stage deep e) refl), λ e. absurd (cc))
out_of_place false did is = (λ e. refl, λ e. is)

pub stage_law : StageLaw
stage_law = record { out_of_place = λ phase said. out_of_place (belongs said phase) (does phase said) (decided phase said) }

abbrev Told : Type 0
Told = Result Said Reason

module _ (phase : Phase) where
  abbrev pub acted : Told → Outcome
  acted told = elim told [ Ok said ↦ does phase said | Err why ↦ Err why ]

  refused_formally : (here : Bool) (did : Outcome) (why : Reason) → Decided here did → did ≡ Err why → Formal why → ⊥
  refused_formally true did why deep e formal = not_formal (deep_refusal did why deep e) formal
  refused_formally false did why is e formal = let stage : why ≡ Reason.Stage = cc in ⊎_elim (λ mark. cc) (λ fields. cc) formal

  unread : (told : Told) (why : Reason) → (told ≡ Err why → Formal why) → told ≡ Err why ↔ (acted told ≡ Err why) × Formal why
  unread (Ok said) why formal = (λ e. absurd (cc), λ (e, formal). absurd (refused_formally (belongs said phase) (does phase said) why (decided phase said) e formal))
  unread (Err other) why formal = (λ e. let same : other ≡ why = cc in (ap Err same, formal e), λ (e, formal). let same : other ≡ why = cc in ap Err same)

pub order_law : OrderLaw
order_law = record { unread = λ phase line why. unread phase (parse line) why (unread_for line why) }
