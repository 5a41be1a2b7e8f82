use Rattle.line.proofs.Rules.{played}
use Rattle.line.proofs.playing.play.Goals as goal
use Rattle.std.proofs.lemmas.List.{take_all}

pub returns : goal.returns
returns g c =
    let all = take_all c.loop-status.status-index c.args.statuses.now c.loop-status-test.false in
    let p = played _ _ _ _ (g.L.Line.proper c.args.line.now) (g.L.Line.proper c.loop-status.line) (simp all at c.loop-status.invariant.0) in
    record { replies = p.0; rule = p.1; untouched = tt }
