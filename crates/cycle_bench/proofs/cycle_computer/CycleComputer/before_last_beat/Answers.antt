use Rattle.std.proofs.Common.{ap, ◌∙◌}
use Rattle.machine.specs.Table.{interrupted}
use Rattle.cycle_bench.specs.CycleComputers.{cycle_board}
use Rattle.cycle_bench.proofs.CycleSteps.{by-interrupt}
use Rattle.cycle_bench.proofs.cycle_computer.CycleComputer.before_last_beat.Goals as goal

pub returns-then-self : goal.returns-then-self
returns-then-self g c =
    let words = g.M.Memory.contents c.args.memory.now in
    let rule = g.L.Line.replies c.beats.new.line in
    by-interrupt (cycle_board c.args.self.now (g.M.Memory.contents c.args.memory.now) (g.L.Line.replies c.args.line.now))
    (cycle_board c.interrupt.new.self (g.M.Memory.contents c.interrupt.new.memory) rule) c.interrupt.result
    c.if-self.true c.interrupt.ensures.clocks (c.interrupt.ensures.board rule ∙ ap interrupted (c.beats.ensures words))
