-- The laws over whole lists, by one beat and induction.
use Rattle.std.proofs.Common.{◌≡◌, ℕ, ◌+◌, ◌≤◌, Bool, cond, List, [], ◌∷◌, ◌++◌, map, length, take, drop, sym, refl, ap, append_assoc, append-nil, arith, length-append}
use Rattle.line.specs.declared.cue.Cue.{Cue}
use Rattle.line.specs.declared.status.Reply.{Reply}
use Rattle.line.specs.declared.status.Status.{Status}
use Rattle.line.specs.Laws.{characters, outrs_printed, InOrder, OnPaper, HandsOverInOrder, PrintsOnPaper, StaysQuiet}
use Rattle.line.specs.Owed.{script-proper}
use Rattle.line.specs.Printing.{prints, printed_after, blank_after}
use Rattle.line.specs.Quiet.{quiet_reply, quiet_replies}
use Rattle.line.specs.Cues.{raised, handed_over, cues_after}
use Rattle.line.specs.Script.{Script, script_after, script_replies, script_after_all}

-- The two equations of handing over in order.
abbrev Handed : List Cue → List Reply → List Cue → Type 0
Handed cues replies left =
    (characters replies ≡ map (λ cue. cue.character) (take (length (characters replies)) cues)) × (left ≡ drop (length (characters replies)) cues)

handed-more : (cues left : List Cue) (count : ℕ) (status : Status) (printed : Bool) (replies : List Reply) →
    Handed (cues_after cues count status) replies left →
    Handed cues (record { character = handed_over cues count status; printed = printed } ∷ replies) left
handed-more [] left count status printed replies h = h
handed-more (cue ∷ cues) left count status printed replies h = grind arith

handed-all : (script : Script) (statuses : List Status) → Handed script.cues (script_replies script statuses) (script_after_all script statuses).cues
handed-all script [] = (refl, refl)
handed-all script (status ∷ statuses) =
    handed-more script.cues _ (raised script.count) status (prints script.blank status) (script_replies (script_after script status) statuses)
    (handed-all (script_after script status) statuses)

pub hands-over-in-order : (script : Script) → HandsOverInOrder script
hands-over-in-order script statuses =
    let h = handed-all script statuses in
    record { handed = h.0; rest = h.1; fitting = (script-proper script).fitting statuses }

-- The three facts about the paper.
abbrev Put : List ℕ → List ℕ → List ℕ → List ℕ → List ℕ → Type 0
Put printed blank outrs printed' blank' =
    (printed' ≡ printed ++ outrs) × (blank' ≡ drop (length outrs) blank) × (length printed' ≤ length printed + length blank)

put-more : (printed blank outrs printed' blank' : List ℕ) (status : Status) →
    Put (printed_after printed blank status) (blank_after blank status) outrs printed' blank' →
    Put printed blank (cond (prints blank status) (status.outr ∷ outrs) outrs) printed' blank'
put-more printed [] outrs printed' blank' status p = p
put-more printed (place ∷ places) outrs printed' blank' status p = grind (arith, append_assoc, length-append {A = ℕ})

put_all : (script : Script) (statuses : List Status) →
    Put script.printed script.blank (outrs_printed statuses (script_replies script statuses)) (script_after_all script statuses).printed (script_after_all script statuses).blank
put_all script [] = (sym (append-nil script.printed), refl, omega arith)
put_all script (status ∷ statuses) =
    put-more script.printed script.blank (outrs_printed statuses (script_replies (script_after script status) statuses)) _ _ status
    (put_all (script_after script status) statuses)

pub prints-on-paper : (script : Script) → PrintsOnPaper script
prints-on-paper script statuses = let p = put_all script statuses in record { printed = p.0; blank = p.1; within = p.2 }

-- The quiet line.
pub stays-quiet : StaysQuiet quiet_replies
stays-quiet [] = refl
stays-quiet (status ∷ statuses) = ap {B = List Reply} (λ replies. quiet_reply status ∷ replies) (stays-quiet statuses)

-- The laws of a list that was played.
module _ (before after : Script) (statuses : List Status) (replies : List Reply)
    (replied : replies ≡ script_replies before statuses) (left : after ≡ script_after_all before statuses) where
  pub played-in-order : InOrder before.cues statuses replies after.cues
  played-in-order = rw (replied, left) (hands-over-in-order before statuses)

  pub played-on-paper : OnPaper before statuses replies after
  played-on-paper = rw (replied, left) (prints-on-paper before statuses)
