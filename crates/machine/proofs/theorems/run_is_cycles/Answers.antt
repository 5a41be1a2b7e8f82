use Rattle.machine.proofs.Runs.{run-is-cycles}
use Rattle.machine.proofs.theorems.run_is_cycles.Goals as goal

pub returns : goal.returns
returns c = run-is-cycles
