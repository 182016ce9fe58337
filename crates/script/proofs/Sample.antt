-- The sample prints its lines, by computing what it prints.
use Rattle.std.proofs.Common.{refl}
use Rattle.std.specs.Fmt.{digits}
use Rattle.script.specs.Listings.{go_lines, settled_lines, true_lines}
use Rattle.script.specs.Sample.{SamplePrints}

pub sample_prints : SamplePrints
unfolding digits go_lines settled_lines true_lines
sample_prints = refl
