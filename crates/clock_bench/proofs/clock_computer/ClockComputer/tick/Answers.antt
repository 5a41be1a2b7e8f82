use Rattle.std.proofs.Common.{ap, ◌∙◌}
use Rattle.machine.specs.Clock.{after_beat}
use Rattle.clock_bench.proofs.clock_computer.ClockComputer.tick.Goals as goal

pub returns-clause-after : goal.returns-clause-after
returns-clause-after g c =
    c.beat.ensures (g.M.Memory.contents c.transfer-k.new.memory)
    ∙ ap after_beat (c.transfer-k.ensures.after (g.L.Line.replies c.args.line.now))
