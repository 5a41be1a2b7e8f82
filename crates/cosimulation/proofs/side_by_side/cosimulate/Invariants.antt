use Rattle.std.proofs.Common.{◌≡◌, ◌≤◌, length, drop, vec_len, vec_capacity}
use Rattle.machine.specs.Cosimulation.{new_pair, all_advanced}
use Rattle.cosimulation.specs.Pairs.{pair}
use Rattle.cosimulation.proofs.side_by_side.cosimulate.Given as goal

-- the calls that are left lead on from the pair as all of them do from new computers; and there is room for what they return
abbrev pub invariant-loop-call : goal.invariant-loop-call
invariant-loop-call g l =
    (all_advanced (drop l.call-index l.calls)
    (pair l.pair (g.MA.Memory.contents l.memory) (g.LA.Line.replies l.line) (g.MB.Memory.contents l.twin_memory) (g.LB.Line.replies l.twin_line))
    ≡ all_advanced l.calls
    (new_pair (g.MA.Memory.contents l.initial.memory) (g.LA.Line.replies l.initial.line) (g.MB.Memory.contents l.initial.twin_memory) (g.LB.Line.replies l.initial.twin_line)))
    × (vec_len l.pair.outcomes ≡ l.call-index)
    × (vec_len l.pair.twin_outcomes ≤ l.call-index)
    × (length l.calls ≤ vec_capacity l.pair.outcomes)
    × (length l.calls ≤ vec_capacity l.pair.twin_outcomes)
