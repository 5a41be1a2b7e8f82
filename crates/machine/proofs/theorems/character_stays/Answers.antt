use Rattle.machine.proofs.Characters.{character_stays}
use Rattle.machine.proofs.theorems.character_stays.Goals as goal

pub returns : goal.returns
returns c = character_stays
