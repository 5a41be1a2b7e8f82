use Rattle.cycle_bench.specs.CycleComputers.{cycle_board}
use Rattle.cycle_bench.proofs.CycleSteps.{cycle-is}
use Rattle.cycle_bench.proofs.cycle_computer.CycleComputer.whole_cycle.Goals as goal

pub returns-clause-board : goal.returns-clause-board
returns-clause-board g c =
    let b = cycle_board c.args.self.now (g.M.Memory.contents c.args.memory.now) (g.L.Line.replies c.args.line.now) in
    let words = g.M.Memory.contents c.before_last_beat-clocks.new.memory in
    let u = cycle_board c.before_last_beat-clocks.new.self words (g.L.Line.replies c.before_last_beat-clocks.new.line) in
    cycle-is b u (cycle_board c.beat.new.self words (g.L.Line.replies c.beat.new.line))
    c.before_last_beat-clocks.result c.before_last_beat-clocks.ensures (c.beat.ensures words)
