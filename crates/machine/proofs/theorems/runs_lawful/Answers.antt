use Rattle.machine.proofs.Cosimulation.{runs-lawful}
use Rattle.machine.proofs.theorems.runs_lawful.Goals as goal

pub returns : goal.returns
returns c = runs-lawful
