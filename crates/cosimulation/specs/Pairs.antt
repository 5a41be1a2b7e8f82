-- Both computers of a co-simulation, with their memories and lines.
use Rattle.std.specs.Prelude.{ℕ, List, map, vec_items, Result}
use Rattle.memory.specs.Contents.{Contents}
use Rattle.line.specs.Rules.{Rule}
use Rattle.machine.specs.declared.refusal.Refusal.{Refusal}
use Rattle.machine.specs.Calls.{Outcome, outcome}
use Rattle.machine.specs.Cosimulation.{Pair}
use Rattle.clock_bench.specs.ClockComputers.{board}
use Rattle.cycle_bench.specs.CycleComputers.{cycle_board}
use Rattle.cosimulation.specs.declared.cosimulation.Cosimulation.{Cosimulation}

-- what the calls returned
abbrev pub outcomes : List (Result ℕ Refusal) → List (Outcome ℕ)
outcomes = map outcome

abbrev pub pair : Cosimulation → Contents → Rule → Contents → Rule → Pair
pair m contents rule contents' rule' = record {
  computer = board m.computer contents rule;
  twin = cycle_board m.twin contents' rule';
  inside = m.inside;
  outcomes = outcomes (vec_items m.outcomes);
  twin_outcomes = outcomes (vec_items m.twin_outcomes);
}
