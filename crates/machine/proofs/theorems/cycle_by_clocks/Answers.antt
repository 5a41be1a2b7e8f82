use Rattle.machine.proofs.Twins.{cycle-by-clocks}
use Rattle.machine.proofs.theorems.cycle_by_clocks.Goals as goal

pub returns : goal.returns
returns c = cycle-by-clocks
