use Rattle.std.proofs.Common.{◌≡◌, ◌≤◌, length, take, vec_items, vec_len, vec_capacity}
use Rattle.line.specs.Script.{script_of, script_replies, script_after_all}
use Rattle.line.proofs.script_line.ScriptLine.play.Given as goal

abbrev pub invariant-loop-status : goal.invariant-loop-status
invariant-loop-status l =
    (vec_items l.replies ≡ script_replies (script_of l.initial.self) (take l.status-index l.statuses))
    × (script_of l.self ≡ script_after_all (script_of l.initial.self) (take l.status-index l.statuses))
    × (vec_len l.replies ≡ l.status-index)
    × (length l.statuses ≤ vec_capacity l.replies)
