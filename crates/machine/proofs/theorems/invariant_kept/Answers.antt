use Rattle.machine.proofs.Invariant.{invariant-kept}
use Rattle.machine.proofs.theorems.invariant_kept.Goals as goal

pub returns : goal.returns
returns c = invariant-kept
