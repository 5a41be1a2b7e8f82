-- The cues of a script, and how they are handed over.
use Rattle.std.specs.Prelude.{◌≡◌, ℕ, ◌+◌, min, Bool, cond, not, ◌&&◌, List, [], ◌∷◌, drop, Some, None, vec_items, Option, nat_le}
use Rattle.line.specs.declared.cue.Cue.{Cue}
use Rattle.line.specs.declared.cues.Cues.{Cues}
use Rattle.line.specs.declared.status.Status.{Status}

-- The cues that are left.
abbrev pub left_of : Cues → List Cue
left_of cues = drop cues.next (vec_items cues.all)

-- The most that a cue can wait and that a line counts: what the type `Wait` of the code holds at most.
abbrev pub longest_wait : ℕ
longest_wait = 65535

-- Each beat raises the count by one, at most to the longest wait.
abbrev pub raised : ℕ → ℕ
raised count = min (count + 1) longest_wait

-- Then, if a cue is left, the count has reached its wait and FGI is down, the line hands that character over and zeroes the count.
abbrev pub due : Cue → ℕ → Status → Bool
due cue count status = not status.fgi && nat_le cue.wait count

abbrev pub handed_over : List Cue → ℕ → Status → Option ℕ
handed_over [] count status = None
handed_over (cue ∷ cues) count status = cond (due cue count status) (Some cue.character) None

abbrev pub cues_after : List Cue → ℕ → Status → List Cue
cues_after [] count status = []
cues_after (cue ∷ cues) count status = cond (due cue count status) cues (cue ∷ cues)

abbrev pub count_after : List Cue → ℕ → Status → ℕ
count_after [] count status = count
count_after (cue ∷ cues) count status = cond (due cue count status) 0 count

-- From the cues and the raised count to those that are left, with that character.
pub record Handing (cues : List Cue) (count : ℕ) (status : Status) (character : Option ℕ) (left : List Cue) (counted : ℕ) : Type 0 where
  pub character_is : character ≡ handed_over cues count status
  pub left_is : left ≡ cues_after cues count status
  pub counted_is : counted ≡ count_after cues count status
