-- What holds of the lines over whole lists of statuses.
use Rattle.std.specs.Prelude.{◌≡◌, ℕ, ◌+◌, ◌≤◌, cond, not, List, [], ◌∷◌, ◌++◌, map, length, take, drop, Some, None}
use Rattle.line.specs.declared.cue.Cue.{Cue}
use Rattle.line.specs.declared.status.Reply.{Reply}
use Rattle.line.specs.declared.status.Status.{Status}
use Rattle.line.specs.Rules.{Rule, Fitting}
use Rattle.line.specs.Script.{Script, script_replies, script_after_all}

-- The characters among replies, in order.
abbrev pub characters : List Reply → List ℕ
characters [] = []
characters (reply ∷ replies) = elim reply.character [ None ↦ characters replies | Some character ↦ character ∷ characters replies ]

-- The OUTRs of the statuses that were answered with printed, in order.
abbrev pub outrs_printed : List Status → List Reply → List ℕ
outrs_printed [] replies = []
outrs_printed (status ∷ statuses) [] = []
outrs_printed (status ∷ statuses) (reply ∷ replies) =
    cond reply.printed (status.outr ∷ outrs_printed statuses replies) (outrs_printed statuses replies)

-- The script is handed over in order: the replies have the first so many characters of the cues, none left out and none
-- twice, the other cues are left, and no character comes with FGI up.
pub record InOrder (cues : List Cue) (statuses : List Status) (replies : List Reply) (left : List Cue) : Type 0 where
  pub handed : characters replies ≡ map (λ cue. cue.character) (take (length (characters replies)) cues)
  pub rest : left ≡ drop (length (characters replies)) cues
  pub fitting : Fitting statuses replies

-- The paper has what was on it, then exactly the OUTRs of the statuses that were answered with printed, in order. The places
-- behind them are as they were, and there is never more on the paper than it holds.
pub record OnPaper (before : Script) (statuses : List Status) (replies : List Reply) (after : Script) : Type 0 where
  pub printed : after.printed ≡ before.printed ++ outrs_printed statuses replies
  pub blank : after.blank ≡ drop (length (outrs_printed statuses replies)) before.blank
  pub within : length after.printed ≤ length before.printed + length before.blank

-- Both laws, over every list of statuses that a script line may be shown.
abbrev pub HandsOverInOrder : Script → Type 0
HandsOverInOrder script =
    (statuses : List Status) → InOrder script.cues statuses (script_replies script statuses) (script_after_all script statuses).cues

abbrev pub PrintsOnPaper : Script → Type 0
PrintsOnPaper script =
    (statuses : List Status) → OnPaper script statuses (script_replies script statuses) (script_after_all script statuses)

-- A quiet line's replies: no character, and printed where FGO is down.
abbrev pub StaysQuiet : Rule → Type 0
StaysQuiet rule = (statuses : List Status) → rule statuses ≡ map (λ status. record { character = None; printed = not status.fgo }) statuses
