use Rattle.std.proofs.Common.{[], arith}
use Rattle.line.proofs.Laws.{played-in-order, played-on-paper}
use Rattle.line.proofs.Script.{replies-more, after_more}
use Rattle.line.proofs.script_line.ScriptLine.play.Goals as goal
use Rattle.std.proofs.lemmas.List.{take_all}
use Rattle.std.proofs.lemmas.Grind.{common_steps}

pub loop-status-preserved : goal.loop-status-preserved
loop-status-preserved c = grind (arith, common_steps, replies-more, after_more, c.beat.ensures.rule [])

pub returns : goal.returns
returns c =
    let all = take_all c.loop-status.status-index c.args.statuses.now c.loop-status-test.false in
    let e = simp all at c.loop-status.invariant.0 in
    let f = simp all at c.loop-status.invariant.1 in
    record { replies = e; script = f; in_order = played-in-order _ _ _ _ e f; on_paper = played-on-paper _ _ _ _ e f; untouched = tt }
