use Rattle.clock_bench.proofs.ClockSignals.{and-moves, add-moves, lda-moves}
use Rattle.clock_bench.proofs.clock_computer.execution.t5.Goals as goal

pub returns-in-0 : goal.returns-in-0
returns-in-0 c = λ contents. and-moves c.args.old c.loaded.result contents c.in-0.is c.loaded.ensures

pub returns-in-1 : goal.returns-in-1
returns-in-1 c = λ contents. add-moves c.args.old c.loaded-in-1.result contents c.in-1.is c.loaded-in-1.ensures

pub returns-in-2 : goal.returns-in-2
returns-in-2 c = λ contents. lda-moves c.args.old c.loaded-in-2.result contents c.in-2.is c.loaded-in-2.ensures
