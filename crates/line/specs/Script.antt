-- The script line, step by step.
use Rattle.std.specs.Prelude.{ℕ, List, [], ◌∷◌}
use Rattle.line.specs.declared.cue.Cue.{Cue}
use Rattle.line.specs.declared.script_line.ScriptLine.{ScriptLine}
use Rattle.line.specs.declared.status.Reply.{Reply}
use Rattle.line.specs.declared.status.Status.{Status}
use Rattle.line.specs.Cues.{left_of, raised, handed_over, cues_after, count_after}
use Rattle.line.specs.Printing.{printed_on, blank_of, prints, printed_after, blank_after}
use Rattle.line.specs.Rules.{Rule}

-- A script line as it stands: the cues that are left, its count, the bytes on its paper, and the places behind them.
pub record Script : Type 0 where
  pub cues : List Cue
  pub count : ℕ
  pub printed : List ℕ
  pub blank : List ℕ

abbrev pub script_of : ScriptLine → Script
script_of line = record {
  cues = left_of line.cues;
  count = line.cues.count;
  printed = printed_on line.paper;
  blank = blank_of line.paper;
}

abbrev pub new_script : List Cue → List ℕ → Script
new_script cues paper = record { cues = cues; count = 0; printed = []; blank = paper }

-- One beat: its reply, and what it leaves.
abbrev pub script_reply : Script → Status → Reply
script_reply script status = record {
  character = handed_over script.cues (raised script.count) status;
  printed = prints script.blank status;
}

abbrev pub script_after : Script → Status → Script
script_after script status = record {
  cues = cues_after script.cues (raised script.count) status;
  count = count_after script.cues (raised script.count) status;
  printed = printed_after script.printed script.blank status;
  blank = blank_after script.blank status;
}

-- A list of beats: its replies, and what it leaves.
abbrev pub script_replies : Script → Rule
script_replies script [] = []
script_replies script (status ∷ rest) = script_reply script status ∷ script_replies (script_after script status) rest

abbrev pub script_after_all : Script → List Status → Script
script_after_all script [] = script
script_after_all script (status ∷ rest) = script_after_all (script_after script status) rest
