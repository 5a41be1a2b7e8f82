-- A script line over a list of beats.
use Rattle.std.proofs.Common.{◌≡◌, List, [], ◌∷◌, ◌++◌, refl, ap}
use Rattle.line.specs.declared.status.Reply.{Reply}
use Rattle.line.specs.declared.status.Status.{Status}
use Rattle.line.specs.Script.{Script, script_reply, script_after, script_replies, script_after_all}

-- One more beat at the end of a list.
pub replies-more : (script : Script) (statuses : List Status) (status : Status) →
    script_replies script (statuses ++ status ∷ []) ≡ script_replies script statuses ++ script_reply (script_after_all script statuses) status ∷ []
replies-more script [] status = refl
replies-more script (first ∷ statuses) status =
    ap {B = List Reply} (λ replies. script_reply script first ∷ replies) (replies-more (script_after script first) statuses status)

pub after_more : (script : Script) (statuses : List Status) (status : Status) →
    script_after_all script (statuses ++ status ∷ []) ≡ script_after (script_after_all script statuses) status
after_more script [] status = refl
after_more script (first ∷ statuses) status = after_more (script_after script first) statuses status
