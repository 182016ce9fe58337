use Rattle.std.proofs.Common.{rules}
use Rattle.network.proofs.Layers.{put_answer-transposed, put_after-transposed}
use Rattle.network.proofs.turned.TurnedEditable.put.Goals as goal

pub returns : goal.returns
returns g c = search (rules, put_answer-transposed, put_after-transposed)
