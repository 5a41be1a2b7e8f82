use Rattle.std.proofs.Common.{ap}
use Rattle.std.proofs.lemmas.Bool.{eq-eqb, ne_eqb}
use Rattle.machine.specs.declared.registers.Visible.{Visible}
use Rattle.machine.specs.Words.{opcode}
use Rattle.machine.specs.Table.{with_visible}
use Rattle.cycle_bench.specs.CycleComputers.{cycle_board}
use Rattle.cycle_bench.proofs.CycleSteps.{when-ready, by_word, port-done, register-done}
use Rattle.cycle_bench.proofs.cycle_computer.CycleComputer.execute.Goals as goal

pub returns-in-7 : goal.returns-in-7
returns-in-7 g c =
    let words = g.M.Memory.contents c.args.memory.now in
    let rule = g.L.Line.replies c.ready.new.line in
    let b = cycle_board c.args.self.now (g.M.Memory.contents c.args.memory.now) (g.L.Line.replies c.args.line.now) in
    let u = cycle_board c.ready.new.self words rule in
    let z = cycle_board c.port_marks.new.self words rule in
    let w = c.fetch-word.result in
    let done =
    port-done u z w c.port_marks.result (eq-eqb _ 1 c.if-indirect.true) c.port_marks.ensures.clocks
    (ap (λ (v : Visible). with_visible v u) c.port_marks.ensures.registers) in
    by_word b z w c.port_marks.result c.fetch-word.ensures
    (when-ready 7 (opcode w) w c.port_marks.result b u z c.in-7.is (c.ready.ensures words) done)

pub returns-in-7-2 : goal.returns-in-7-2
returns-in-7-2 g c =
    let words = g.M.Memory.contents c.args.memory.now in
    let rule = g.L.Line.replies c.ready-in-7-2.new.line in
    let b = cycle_board c.args.self.now (g.M.Memory.contents c.args.memory.now) (g.L.Line.replies c.args.line.now) in
    let u = cycle_board c.ready-in-7-2.new.self words rule in
    let z = cycle_board c.register_marks.new.self words rule in
    let w = c.fetch-word.result in
    let done =
    register-done u z w c.register_marks.result (ne_eqb _ 1 c.if-indirect.false) c.register_marks.ensures.clocks
    (ap (λ (v : Visible). with_visible v u) c.register_marks.ensures.registers) in
    by_word b z w c.register_marks.result c.fetch-word.ensures
    (when-ready 7 (opcode w) w c.register_marks.result b u z c.in-7.is (c.ready-in-7-2.ensures words) done)
