use Rattle.std.proofs.Common.{◌≡◌, ℕ, ◌<◌, arith}
use Rattle.machine.specs.Cycle.{ran}
use Rattle.cycle_bench.specs.CycleComputers.{cycle_board}
use Rattle.cycle_bench.proofs.CycleRuns.{goes_on, stops, ends, run-made, run-clocks, run-leaves, run-by-cycles}
use Rattle.cycle_bench.proofs.cycle_computer.CycleComputer.cycles.Goals as goal

pub returns-then-not-self : goal.returns-then-not-self
returns-then-not-self g c =
    let b = cycle_board c.args.self.now (g.M.Memory.contents c.args.memory.now) (g.L.Line.replies c.args.line.now) in
    let u = cycle_board c.loop-made.self (g.M.Memory.contents c.loop-made.memory) (g.L.Line.replies c.loop-made.line) in
    let n = c.args.n in
    let m : c.loop-made.made < c.args.n = omega arith in
    let r : ℕ × ℕ = (c.loop-made.made, c.loop-made.clocks) in
    let e = stops n c.loop-made.made c.loop-made.clocks u (ran n b) m c.if-not-self.true c.loop-made.invariant.1 in
    record { made = run-made n b u r e; clocks = run-clocks n b u r e; board = run-leaves n b u r e; law = run-by-cycles n b u r e }

pub loop-made-preserved : goal.loop-made-preserved
loop-made-preserved g c =
    let m : c.loop-made.made < c.args.n = omega arith in (
      omega (arith, c.whole_cycle.ensures.most),
      goes_on c.args.n c.loop-made.made c.loop-made.clocks c.whole_cycle.result
          (cycle_board c.loop-made.self (g.M.Memory.contents c.loop-made.memory) (g.L.Line.replies c.loop-made.line))
          (cycle_board c.whole_cycle.new.self (g.M.Memory.contents c.whole_cycle.new.memory) (g.L.Line.replies c.whole_cycle.new.line))
          (ran c.args.n (cycle_board c.args.self.now (g.M.Memory.contents c.args.memory.now) (g.L.Line.replies c.args.line.now)))
          m c.if-not-self.false c.whole_cycle.ensures.clocks c.whole_cycle.ensures.board c.loop-made.invariant.1,
    )

pub returns-clause-law : goal.returns-clause-law
returns-clause-law g c =
    let b = cycle_board c.args.self.now (g.M.Memory.contents c.args.memory.now) (g.L.Line.replies c.args.line.now) in
    let u = cycle_board c.loop-made.self (g.M.Memory.contents c.loop-made.memory) (g.L.Line.replies c.loop-made.line) in
    let n = c.args.n in
    let m : c.loop-made.made ≡ c.args.n = omega arith in
    let e = ends n c.loop-made.made c.loop-made.clocks u (ran n b) m c.loop-made.invariant.1 in
    run-by-cycles n b u (n, c.loop-made.clocks) e
