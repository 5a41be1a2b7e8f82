use Rattle.std.proofs.Common.{◌≡◌, ◌-◌, ◌*◌, ◌≤◌}
use Rattle.machine.specs.Cycle.{ran}
use Rattle.cycle_bench.specs.CycleComputers.{cycle_board}
use Rattle.cycle_bench.proofs.CycleRuns.{added}
use Rattle.cycle_bench.proofs.cycle_computer.CycleComputer.cycles.Given as goal

abbrev pub invariant-loop-made : goal.invariant-loop-made
invariant-loop-made g l =
    (l.clocks ≤ 7 * l.made)
    × (added l.made l.clocks
    (ran (l.n - l.made) (cycle_board l.self (g.M.Memory.contents l.memory) (g.L.Line.replies l.line)))
    ≡ ran l.n (cycle_board l.initial.self (g.M.Memory.contents l.initial.memory) (g.L.Line.replies l.initial.line)))
