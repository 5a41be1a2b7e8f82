use Rattle.machine.proofs.Seven.{seven_at_most, seven-at-most-by-cycles, clocks_counted, seven_end_one}
use Rattle.machine.proofs.theorems.seven_clocks.Goals as goal

pub returns : goal.returns
returns c = record { most = seven_at_most; cycles = seven-at-most-by-cycles; counted = clocks_counted; ended = seven_end_one }
