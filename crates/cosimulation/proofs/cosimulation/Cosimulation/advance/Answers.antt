use Rattle.std.proofs.Common.{vec_items, rules}
use Rattle.cosimulation.specs.Pairs.{pair}
use Rattle.machine.specs.Calls.{outcome}
use Rattle.cosimulation.proofs.Pairs.{advances, pushed}
use Rattle.cosimulation.proofs.cosimulation.Cosimulation.advance.Goals as goal

pub returns : goal.returns
returns g c =
    let o = pushed (vec_items c.args.self.now.outcomes) (vec_items c.push_reserved.new.self) c.perform-outcome.result (outcome c.perform-outcome.result) c.push_reserved.ensures.items (λ j. outcome c.perform-outcome.result) in
    record {
      pair = advances c.args.call
          (pair c.args.self.now (g.MA.Memory.contents c.args.memory.now) (g.LA.Line.replies c.args.line.now)
          (g.MB.Memory.contents c.args.twin_memory.now) (g.LB.Line.replies c.args.twin_line.now))
          _ (outcome c.perform-outcome.result) c.is_struck-struck.result
          c.perform-outcome.ensures.outcome c.is_struck-struck.ensures c.perform-outcome.ensures.after
          c.follow.ensures.board c.is_inside-self.ensures o c.follow.ensures.outcomes;
      len = c.push_reserved.ensures.len;
      twin_len = c.follow.ensures.len;
      capacity = search rules;
      twin_capacity = c.follow.ensures.capacity;
    }
