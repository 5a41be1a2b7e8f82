use Rattle.machine.proofs.Interrupts.{interrupt_in_time}
use Rattle.machine.proofs.theorems.interrupt_in_time.Goals as goal

pub returns : goal.returns
returns c = interrupt_in_time
