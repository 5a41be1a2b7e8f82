use Rattle.std.proofs.Common.{◌≡◌, ◌≤◌, length, take, vec_items, vec_len, vec_capacity}
use Rattle.line.specs.Rules.{RepliedAll}
use Rattle.line.proofs.playing.play.Given as goal

abbrev pub invariant-loop-status : goal.invariant-loop-status
invariant-loop-status g l =
    RepliedAll (g.L.Line.replies l.initial.line) (take l.status-index l.statuses) (vec_items l.replies) (g.L.Line.replies l.line)
    × (vec_len l.replies ≡ l.status-index)
    × (length l.statuses ≤ vec_capacity l.replies)
