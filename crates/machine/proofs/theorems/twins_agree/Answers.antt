use Rattle.machine.proofs.Twins.{twins-agree}
use Rattle.machine.proofs.theorems.twins_agree.Goals as goal

pub returns : goal.returns
returns c = twins-agree
