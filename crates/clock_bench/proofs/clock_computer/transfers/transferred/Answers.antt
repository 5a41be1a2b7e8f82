use Rattle.std.proofs.Common.{◌≡◌, arith}
use Rattle.clock_bench.proofs.ClockTransfers.{at-signal}
use Rattle.clock_bench.proofs.clock_computer.transfers.transferred.Goals as goal

pub returns-in-0 : goal.returns-in-0
returns-in-0 g c =
    let contents = g.M.Memory.contents c.args.memory.now in
    at-signal c.args.old c.t0.result contents contents 0 c.in-0.is (c.t0.ensures contents)

pub returns-in-1 : goal.returns-in-1
returns-in-1 g c = at-signal c.args.old c.t1.result _ _ 1 c.in-1.is c.t1.ensures

pub returns-in-2 : goal.returns-in-2
returns-in-2 g c =
    let contents = g.M.Memory.contents c.args.memory.now in
    at-signal c.args.old c.t2.result contents contents 2 c.in-2.is (c.t2.ensures contents)

pub returns-in-3 : goal.returns-in-3
returns-in-3 g c = at-signal c.args.old c.t3.result _ _ 3 c.in-3.is c.t3.ensures

pub returns-in-4 : goal.returns-in-4
returns-in-4 g c = at-signal c.args.old c.t4.result _ _ 4 c.in-4.is c.t4.ensures

pub returns-in-5 : goal.returns-in-5
returns-in-5 g c =
    let contents = g.M.Memory.contents c.args.memory.now in
    at-signal c.args.old c.t5.result contents contents 5 c.in-5.is (c.t5.ensures contents)

pub returns-in_default : goal.returns-in_default
returns-in_default g c =
    let e : c.args.old.sc ≡ 6 = omega arith in
    at-signal c.args.old c.t6.result _ _ 6 e c.t6.ensures
