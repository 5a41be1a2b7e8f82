use Rattle.machine.proofs.Beating.{beats-more}
use Rattle.machine.proofs.registers.Port.beats.Goals as goal

pub loop-preserved : goal.loop-preserved
loop-preserved g c = beats-more c.loop.counter _ _ _ c.loop.invariant c.beat.ensures
