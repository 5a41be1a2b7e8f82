use Rattle.std.proofs.Common.{vec_items, arith, rules}
use Rattle.cosimulation.proofs.Pairs.{pushed}
use Rattle.cosimulation.proofs.side_by_side.follow.Goals as goal

pub returns : goal.returns
returns g c =
    let out = c.if-struck.false in
    let o = pushed (vec_items c.args.outcomes.now) (vec_items c.push_reserved.new.self) c.perform-outcome.result _ c.push_reserved.ensures.items c.perform-outcome.ensures.outcome in
    record {
      board = rw out c.perform-outcome.ensures.after;
      outcomes = rw out o;
      len = omega (arith, c.push_reserved.ensures.len);
      capacity = search rules;
    }
