use Rattle.std.proofs.Common.{◌≡◌, drop}
use Rattle.sessions.specs.Counting.{nothing, outcomes_counted}
use Rattle.sessions.proofs.counts.count_outcomes.Given as goal

abbrev pub invariant-loop-outcome : goal.invariant-loop-outcome
invariant-loop-outcome l = outcomes_counted l.counts (drop l.outcome-index l.outcomes) ≡ outcomes_counted nothing l.outcomes
