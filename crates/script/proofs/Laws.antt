-- The laws of all scripts.
use Rattle.script.specs.Laws.{ScriptLaws}
use Rattle.script.proofs.BooksLaw.{books_law}
use Rattle.script.proofs.ErrorsLaw.{errors_law}
use Rattle.script.proofs.FormsLaw.{forms_law}
use Rattle.script.proofs.GoLaw.{go_law}
use Rattle.script.proofs.PlacesLaw.{places_law}
use Rattle.script.proofs.RefusedLaw.{order_law, refused_law, stage_law}
use Rattle.script.proofs.RemarksLaw.{remarks_law}
use Rattle.script.proofs.Sample.{sample_prints}
use Rattle.script.proofs.SequenceLaw.{sequence_law}
use Rattle.script.proofs.VerdictLaw.{verdict_law}

pub script_laws : ScriptLaws
script_laws =
    record {
      refused = refused_law;
      stages = stage_law;
      order = order_law;
      places = places_law;
      errors = errors_law;
      remarks = remarks_law;
      sequence = sequence_law;
      books = books_law;
      verdicts = verdict_law;
      answered = go_law;
      forms = forms_law;
      sample = sample_prints;
    }
