use Rattle.std.proofs.Common.{◌≡◌, ◌<◌, false, length, sym, ap, subst, arith}
use Rattle.machine.specs.declared.call.Call.TheVariants.{Clock}
use Rattle.machine.specs.Cosimulation.{Pair, new_pair, all_advanced, Runs}
use Rattle.machine.proofs.Cosimulation.{side_by_side, runs-lawful}
use Rattle.cosimulation.specs.Pairs.{outcomes, pair}
use Rattle.cosimulation.proofs.Pairs.{one_more, all_made}
use Rattle.cosimulation.proofs.side_by_side.cosimulate.Goals as goal

pub loop-call-init : goal.loop-call-init
loop-call-init g c =
    let a = c.in_ok-outcomes.ensures in
    let b = c.in_ok-twin_outcomes.ensures in
    let rule = g.LA.Line.replies c.args.line.now in
    let contents = g.MA.Memory.contents c.args.memory.now in
    let rule' = g.LB.Line.replies c.args.twin_line.now in
    let contents' = g.MB.Memory.contents c.args.twin_memory.now in (
      ap (all_advanced c.args.calls.now) (λ j. record {
        computer = record { registers = c.new-computer.ensures j; contents = contents; rule = rule };
        twin = record { visible = c.new-twin.ensures j; contents = contents'; rule = rule' };
        inside = false;
        outcomes = outcomes (a.items j);
        twin_outcomes = outcomes (b.items j);
      }),
      a.len,
      omega (arith, b.len),
      a.capacity,
      b.capacity,
    )

pub loop-call-preserved : goal.loop-call-preserved
loop-call-preserved g c =
    let h : c.loop-call.call-index < length c.args.calls.now = omega arith in
    let k = c.loop-call.invariant in
    let e = c.advance.ensures in (
      one_more c.args.calls.now c.loop-call.call-index Clock
          (pair c.loop-call.pair (g.MA.Memory.contents c.loop-call.memory) (g.LA.Line.replies c.loop-call.line)
          (g.MB.Memory.contents c.loop-call.twin_memory) (g.LB.Line.replies c.loop-call.twin_line))
          _ _ h e.pair k.0,
      omega (arith, e.len, k.1),
      omega (arith, e.twin_len, k.2),
      omega (arith, e.capacity, k.3),
      omega (arith, e.twin_capacity, k.4),
    )

pub returns : goal.returns
returns g c =
    let contents = g.MA.Memory.contents c.args.memory.now in
    let rule = g.LA.Line.replies c.args.line.now in
    let contents' = g.MB.Memory.contents c.args.twin_memory.now in
    let rule' = g.LB.Line.replies c.args.twin_line.now in
    let p = pair c.loop-call.pair (g.MA.Memory.contents c.loop-call.memory) (g.LA.Line.replies c.loop-call.line)
    (g.MB.Memory.contents c.loop-call.twin_memory) (g.LB.Line.replies c.loop-call.twin_line) in
    let i : c.loop-call.call-index ≡ length c.args.calls.now = omega arith in
    let e : p ≡ all_advanced c.args.calls.now (new_pair contents rule contents' rule') =
    all_made c.args.calls.now c.loop-call.call-index p _ i c.loop-call.invariant.0 in
    let h : Runs c.args.calls.now contents rule contents' rule' p =
    subst (λ (q : Pair). Runs c.args.calls.now contents rule contents' rule' q) (sym e)
    (side_by_side c.args.calls.now contents rule contents' rule') in
    record {
      runs = h;
      laws = λ w a. runs-lawful c.args.calls.now contents contents' rule rule' p h w a (g.LA.Line.proper c.args.line.now);
    }
