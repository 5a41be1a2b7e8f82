use Rattle.machine.proofs.Readings.{readings}
use Rattle.machine.proofs.theorems.readings_stand.Goals as goal

pub returns : goal.returns
returns c = readings
