use Rattle.clock_bench.proofs.ClockSignals.{port-moves}
use Rattle.clock_bench.proofs.clock_computer.indirection.t3.Goals as goal

pub returns-then-old : goal.returns-then-old
returns-then-old g c =
    port-moves c.args.old c.input_output.result (g.M.Memory.contents c.args.memory.now) c.if-old-eq7.true c.if-old.true
    c.input_output.ensures
