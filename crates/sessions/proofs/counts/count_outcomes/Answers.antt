use Rattle.std.proofs.Common.{◌+◌, drop, sym, ap, ◌∙◌}
use Rattle.std.proofs.lemmas.List.{at_drop_more, at_drop_all}
use Rattle.sessions.specs.declared.counts.Counts.{Counts}
use Rattle.sessions.specs.Counting.{outcomes_counted}
use Rattle.sessions.proofs.counts.count_outcomes.Goals as goal

pub loop-outcome-preserved : goal.loop-outcome-preserved
loop-outcome-preserved c =
    ap (λ (x : Counts). outcomes_counted x (drop (c.loop-outcome.outcome-index + 1) c.args.outcomes.now)) c.with_outcome-counts.ensures
    ∙ sym (at_drop_more (outcomes_counted c.loop-outcome.counts) c.args.outcomes.now c.loop-outcome.outcome-index _ c.loop-outcome-test.true)
    ∙ c.loop-outcome.invariant

pub returns : goal.returns
returns c =
    sym (at_drop_all (outcomes_counted c.loop-outcome.counts) c.args.outcomes.now c.loop-outcome.outcome-index c.loop-outcome-test.false)
    ∙ c.loop-outcome.invariant
