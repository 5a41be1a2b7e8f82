-- The quiet line: no characters, and printed whenever FGO is down.
use Rattle.std.specs.Prelude.{not, [], ◌∷◌, None}
use Rattle.line.specs.declared.status.Reply.{Reply}
use Rattle.line.specs.declared.status.Status.{Status}
use Rattle.line.specs.Rules.{Rule}

abbrev pub quiet_reply : Status → Reply
quiet_reply status = record { character = None; printed = not status.fgo }

abbrev pub quiet_replies : Rule
quiet_replies [] = []
quiet_replies (status ∷ rest) = quiet_reply status ∷ quiet_replies rest
