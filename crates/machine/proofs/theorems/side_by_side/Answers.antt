use Rattle.machine.proofs.Cosimulation.{side_by_side}
use Rattle.machine.proofs.theorems.side_by_side.Goals as goal

pub returns : goal.returns
returns c = side_by_side
