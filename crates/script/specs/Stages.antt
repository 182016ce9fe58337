-- What a record does at a stage.
--
--   Phase         a stage with what the script has named and told so far: nothing, a network, or a network and a measure with the book and the question
--   work_phase    the phase of work that is under way
--   phase_of      the phase of a stage of the program
--   Outcome       the next phase and what is printed, or the refusal
--   named         after a network record
--   chosen        after a measure record
--   does          what a record that says this does; a record that does not fit the phase is refused with 14
--   outcome       the same by the bytes of a record, or the refusal of its mark or its fields
--   next_phase    the phase after a record, refused or not
--   answer_in     accepted, or the refusal
--   printed_in    what an accepted record prints
use Rattle.std.specs.Prelude.{ℕ, List, [], ◌∷◌, ◌++◌, Result, Ok, Err}
use Rattle.network.specs.Meaning.{Meaning}
use Rattle.network.specs.Put.{put_answer}
use Rattle.network.specs.declared.faults.Fault as network
use Rattle.question.specs.declared.line.Line.{Line}
use Rattle.session.specs.Sessions.{colour_answer}
use Rattle.driving.specs.Book.{Book, opened, after_put, after_colour}
use Rattle.script.specs.Drafts.{add_answer, lines_of}
use Rattle.script.specs.Networks.{enough, list_named, matrix_named, meant, two_mode_named}
use Rattle.script.specs.Records.{Said, parse}
use Rattle.script.specs.Words.{remark_line}
use Rattle.script.specs.Works.{Chosen, book_of, go_by, measure_of}
use Rattle.script.specs.declared.faults.Reason.{Reason}
use Rattle.script.specs.declared.stage.Stage.{Stage}
use Rattle.script.specs.declared.work.Work as work
use Rattle.script.specs.declared.stage.Stage.TheVariants as stage

pub data Phase : Type 0 where
  Network : Phase
  Measure : Meaning → Phase
  Work : Chosen → Book → List Line → Phase

abbrev pub work_phase : work.Work → Phase
work_phase w = Phase.Work (measure_of w.session) (book_of w.session) (lines_of w.question.value)

abbrev pub phase_of : Stage → Phase
phase_of stage.Network = Phase.Network
phase_of (stage.Measure network) = Phase.Measure (meant network)
phase_of (stage.Work w) = work_phase w

abbrev pub Outcome : Type 0
Outcome = Result (Phase × List ℕ) Reason

abbrev pub named : Result Meaning network.Fault → Outcome
named made = elim made [ Ok m ↦ Ok (Phase.Measure m, []) | Err f ↦ Err (Reason.Network f) ]

abbrev pub chosen : Meaning → Chosen → Outcome
chosen m by = Ok (Phase.Work by (opened m) [], [])

abbrev pub does : Phase → Said → Outcome
does phase (Said.Remark text) = Ok (phase, remark_line text)
does Phase.Network (Said.Matrix n) = named (matrix_named n enough)
does Phase.Network (Said.TwoMode a b) = named (two_mode_named a b enough)
does Phase.Network (Said.Slots n s) = named (list_named n s)
does (Phase.Measure m) Said.Kinds = chosen m Chosen.Kinds
does (Phase.Measure m) Said.Bundles = chosen m Chosen.Bundles
does (Phase.Measure m) Said.Tally = chosen m Chosen.Tally
does (Phase.Work by book lines) (Said.Put i j b) = elim (put_answer book.network i j b) [ Ok _ ↦ Ok (Phase.Work by (after_put book i j b) lines, []) | Err f ↦ Err (Reason.Network f) ]
does (Phase.Work by book lines) (Said.Colour i c) = elim (colour_answer book.network.nodes i) [ Ok _ ↦ Ok (Phase.Work by (after_colour book i c) lines, []) | Err f ↦ Err (Reason.Session f) ]
does (Phase.Work by book lines) (Said.Question line) = elim (add_answer lines line) [ Ok _ ↦ Ok (Phase.Work by book (lines ++ line ∷ []), []) | Err f ↦ Err (Reason.Question f) ]
does (Phase.Work by book lines) Said.Go = Ok (Phase.Work by book [], go_by by book lines)
does phase other = Err Reason.Stage

-- what the bytes of a record do
abbrev pub outcome : Phase → List ℕ → Outcome
outcome phase line = elim (parse line) [ Ok said ↦ does phase said | Err why ↦ Err why ]

abbrev pub next_phase : Phase → Outcome → Phase
next_phase phase outcome = elim outcome [ Ok next ↦ next.0 | Err _ ↦ phase ]

abbrev pub answer_in : Outcome → Result (Unit {0}) Reason
answer_in outcome = elim outcome [ Ok _ ↦ Ok tt | Err why ↦ Err why ]

abbrev pub printed_in : Outcome → List ℕ
printed_in outcome = elim outcome [ Ok next ↦ next.1 | Err _ ↦ [] ]
