use Rattle.std.proofs.Common.{◌≡◌, arith}
use Rattle.machine.specs.Words.{opcode}
use Rattle.cycle_bench.specs.CycleComputers.{cycle_board}
use Rattle.cycle_bench.proofs.CycleSteps.{when-ready}
use Rattle.cycle_bench.proofs.cycle_computer.CycleComputer.refer.Goals as goal

pub returns-in-0 : goal.returns-in-0
returns-in-0 g c =
    let words = g.M.Memory.contents c.args.memory.now in
    let rule = g.L.Line.replies c.ready.new.line in
    when-ready 0 (opcode c.args.word) c.args.word c.and.result
    (cycle_board c.args.self.now (g.M.Memory.contents c.args.memory.now) (g.L.Line.replies c.args.line.now))
    (cycle_board c.ready.new.self words rule)
    (cycle_board c.and.new.self (g.M.Memory.contents c.args.memory.now) rule)
    c.in-0.is (c.ready.ensures words) (c.and.ensures rule)

pub returns-in-1 : goal.returns-in-1
returns-in-1 g c =
    let words = g.M.Memory.contents c.args.memory.now in
    let rule = g.L.Line.replies c.ready-in-1.new.line in
    when-ready 1 (opcode c.args.word) c.args.word c.add.result
    (cycle_board c.args.self.now (g.M.Memory.contents c.args.memory.now) (g.L.Line.replies c.args.line.now))
    (cycle_board c.ready-in-1.new.self words rule)
    (cycle_board c.add.new.self (g.M.Memory.contents c.args.memory.now) rule)
    c.in-1.is (c.ready-in-1.ensures words) (c.add.ensures rule)

pub returns-in-2 : goal.returns-in-2
returns-in-2 g c =
    let words = g.M.Memory.contents c.args.memory.now in
    let rule = g.L.Line.replies c.ready-in-2.new.line in
    when-ready 2 (opcode c.args.word) c.args.word c.lda.result
    (cycle_board c.args.self.now (g.M.Memory.contents c.args.memory.now) (g.L.Line.replies c.args.line.now))
    (cycle_board c.ready-in-2.new.self words rule)
    (cycle_board c.lda.new.self (g.M.Memory.contents c.args.memory.now) rule)
    c.in-2.is (c.ready-in-2.ensures words) (c.lda.ensures rule)

pub returns-in-3 : goal.returns-in-3
returns-in-3 g c =
    let words = g.M.Memory.contents c.args.memory.now in
    let rule = g.L.Line.replies c.ready-in-3.new.line in
    when-ready 3 (opcode c.args.word) c.args.word c.sta.result
    (cycle_board c.args.self.now (g.M.Memory.contents c.args.memory.now) (g.L.Line.replies c.args.line.now))
    (cycle_board c.ready-in-3.new.self words rule)
    (cycle_board c.sta.new.self (g.M.Memory.contents c.sta.new.memory) rule)
    c.in-3.is (c.ready-in-3.ensures words) (c.sta.ensures rule)

pub returns-in-4 : goal.returns-in-4
returns-in-4 g c =
    let words = g.M.Memory.contents c.args.memory.now in
    let rule = g.L.Line.replies c.ready-in-4.new.line in
    when-ready 4 (opcode c.args.word) c.args.word c.bun.result
    (cycle_board c.args.self.now (g.M.Memory.contents c.args.memory.now) (g.L.Line.replies c.args.line.now))
    (cycle_board c.ready-in-4.new.self words rule)
    (cycle_board c.bun.new.self (g.M.Memory.contents c.args.memory.now) rule)
    c.in-4.is (c.ready-in-4.ensures words) (c.bun.ensures rule)

pub returns-in-5 : goal.returns-in-5
returns-in-5 g c =
    let words = g.M.Memory.contents c.args.memory.now in
    let rule = g.L.Line.replies c.ready-in-5.new.line in
    when-ready 5 (opcode c.args.word) c.args.word c.bsa.result
    (cycle_board c.args.self.now (g.M.Memory.contents c.args.memory.now) (g.L.Line.replies c.args.line.now))
    (cycle_board c.ready-in-5.new.self words rule)
    (cycle_board c.bsa.new.self (g.M.Memory.contents c.bsa.new.memory) rule)
    c.in-5.is (c.ready-in-5.ensures words) (c.bsa.ensures rule)

pub returns-in_default : goal.returns-in_default
returns-in_default g c =
    let words = g.M.Memory.contents c.args.memory.now in
    let rule = g.L.Line.replies c.ready-in_default.new.line in
    let e : opcode c.args.word ≡ 6 = omega arith in
    when-ready 6 (opcode c.args.word) c.args.word c.isz.result
    (cycle_board c.args.self.now (g.M.Memory.contents c.args.memory.now) (g.L.Line.replies c.args.line.now))
    (cycle_board c.ready-in_default.new.self words rule)
    (cycle_board c.isz.new.self (g.M.Memory.contents c.isz.new.memory) rule)
    e (c.ready-in_default.ensures words) (c.isz.ensures rule)
