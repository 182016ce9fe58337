use Rattle.driving.proofs.KnownTables.{all_known}
use Rattle.driving.proofs.known.known_networks.Goals as goal

pub returns-clause-known : goal.returns-clause-known
returns-clause-known c = all_known
