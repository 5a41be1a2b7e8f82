use Rattle.std.proofs.Common.{sym, ap, ◌∙◌, subst}
use Rattle.machine.specs.declared.registers.Registers.{Registers}
use Rattle.machine.specs.Boards.{Sound}
use Rattle.clock_bench.specs.ClockComputers.{registers_of}
use Rattle.clock_bench.proofs.ClockTransfers.{sound, moves-sound, moved-is, ended_is}
use Rattle.clock_bench.proofs.clock_computer.ClockComputer.transfer.Goals as goal

pub load-requires : goal.load-requires
load-requires g c =
    let e = c.registers-before.ensures in
    moves-sound c.registers-before.result c.transferred-after.result _ _ (ap (λ (x : Registers). x.s) e ∙ c.requires)
    (subst Sound (sym e) (sound c.args.self.now)) c.transferred-after.ensures

pub returns : goal.returns
returns g c =
    let contents = g.M.Memory.contents c.args.memory.now in
    let contents' = g.M.Memory.contents c.transferred-after.new.memory in
    let before = c.registers-before.result in
    let after = c.transferred-after.result in
    record {
      after = λ rule.
          moved-is before after contents contents' (registers_of c.args.self.now) (registers_of c.load.new.self) rule
          c.registers-before.ensures c.load.ensures c.transferred-after.ensures;
      answer =
          ended_is before after contents contents' c.clocks_ended.result (registers_of c.args.self.now) c.registers-before.ensures
          c.clocks_ended.ensures c.transferred-after.ensures;
    }
