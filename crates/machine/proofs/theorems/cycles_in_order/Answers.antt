use Rattle.machine.proofs.Seven.{cycles-in-order}
use Rattle.machine.proofs.theorems.cycles_in_order.Goals as goal

pub returns : goal.returns
returns c = cycles-in-order
