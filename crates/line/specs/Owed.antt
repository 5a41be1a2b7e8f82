-- What each line owes: its rule is proper. (A member of the trait asks for these proofs, so they stand with the specs.)
use Rattle.std.specs.Prelude.{◌≡◌, ℕ, true, false, not, List, [], ◌∷◌, ◌++◌, length, take, None, refl}
use Rattle.std.proofs.Common.{ap}
use Rattle.line.specs.declared.cue.Cue.{Cue}
use Rattle.line.specs.declared.status.Reply.{Reply}
use Rattle.line.specs.declared.status.Status.{Status}
use Rattle.line.specs.Printing.{prints}
use Rattle.line.specs.Quiet.{quiet_reply, quiet_replies}
use Rattle.line.specs.Rules.{Fitting, Proper}
use Rattle.line.specs.Cues.{raised, handed_over}
use Rattle.line.specs.Script.{Script, script_reply, script_after, script_replies}

quiet-fitting : (statuses : List Status) → Fitting statuses (quiet_replies statuses)
quiet-fitting [] = tt
quiet-fitting (status ∷ statuses) = (λ up. refl, λ up. ap not up, quiet-fitting statuses)

quiet-in-turn : (statuses later : List Status) → take (length statuses) (quiet_replies (statuses ++ later)) ≡ quiet_replies statuses
quiet-in-turn [] later = refl
quiet-in-turn (status ∷ statuses) later = ap {B = List Reply} (λ replies. quiet_reply status ∷ replies) (quiet-in-turn statuses later)

pub quiet-proper : Proper quiet_replies
quiet-proper = record { fitting = quiet-fitting; in_turn = quiet-in-turn }

held : (cues : List Cue) (count : ℕ) (status : Status) → status.fgi ≡ true → handed_over cues count status ≡ None
held [] count status up = refl
held (cue ∷ cues) count status up = rw up

unprinted : (blank : List ℕ) (status : Status) → status.fgo ≡ true → prints blank status ≡ false
unprinted [] status up = refl
unprinted (place ∷ places) status up = ap not up

script-fitting : (script : Script) (statuses : List Status) → Fitting statuses (script_replies script statuses)
script-fitting script [] = tt
script-fitting script (status ∷ statuses) =
    (held script.cues (raised script.count) status, unprinted script.blank status, script-fitting (script_after script status) statuses)

script-in-turn : (script : Script) (statuses later : List Status) →
    take (length statuses) (script_replies script (statuses ++ later)) ≡ script_replies script statuses
script-in-turn script [] later = refl
script-in-turn script (status ∷ statuses) later =
    ap {B = List Reply} (λ replies. script_reply script status ∷ replies) (script-in-turn (script_after script status) statuses later)

pub script-proper : (script : Script) → Proper (script_replies script)
script-proper script = record { fitting = script-fitting script; in_turn = script-in-turn script }
