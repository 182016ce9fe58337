-- The laws of all scripts.
--
--   ScriptLaws    each of them
use Rattle.script.specs.BooksLaw.{BooksLaw}
use Rattle.script.specs.ErrorsLaw.{ErrorsLaw}
use Rattle.script.specs.FormsLaw.{FormsLaw}
use Rattle.script.specs.GoLaw.{GoLaw}
use Rattle.script.specs.PlacesLaw.{PlacesLaw}
use Rattle.script.specs.RefusedLaw.{OrderLaw, RefusedLaw, StageLaw}
use Rattle.script.specs.RemarksLaw.{RemarksLaw}
use Rattle.script.specs.Sample.{SamplePrints}
use Rattle.script.specs.SequenceLaw.{SequenceLaw}
use Rattle.script.specs.VerdictLaw.{VerdictLaw}

pub record ScriptLaws : Type 0 where
  -- a refused record prints its one line, and leaves stage, network, measure, colours and question
  pub refused : RefusedLaw
  -- 14 is the refusal of a record that does not belong to the stage, and of no other
  pub stages : StageLaw
  -- a record that cannot be read is refused with 12 or 13 at every stage
  pub order : OrderLaw
  -- a refusal has the number of its record, and the place where the record begins
  pub places : PlacesLaw
  -- the error lines are the refusals, and no other line is one
  pub errors : ErrorsLaw
  -- every remark is copied out whole, in order, and no other line begins so
  pub remarks : RemarksLaw
  -- a script that is cut between two records is two scripts in sequence
  pub sequence : SequenceLaw
  -- at each moment network and measure are those that were named, and ties, colours and question those of the records since
  pub books : BooksLaw
  -- a record that belongs to the stage is accepted, or refused as that book and the engine refuse; a GO is accepted
  pub verdicts : VerdictLaw
  -- each GO prints the coarsest table of that book, and the nodes that the question is true of
  pub answered : GoLaw
  -- what is printed are lines of five forms
  pub forms : FormsLaw
  -- and the sample prints what stands beside it
  pub sample : SamplePrints
