-- Reply rules: what a line means.
use Rattle.std.specs.Prelude.{◌≡◌, true, false, List, [], ◌∷◌, ◌++◌, length, take, None}
use Rattle.line.specs.declared.status.Reply.{Reply}
use Rattle.line.specs.declared.status.Status.{Status}

-- For each list of statuses, the replies that the line would give from now on.
abbrev pub Rule : Type 0
Rule = List Status → List Reply

abbrev pub first_reply : List Reply → Reply
first_reply [] = record { character = None; printed = false }
first_reply (reply ∷ replies) = reply

abbrev pub later_replies : List Reply → List Reply
later_replies [] = []
later_replies (reply ∷ replies) = replies

-- The rule's reply to one status, and the rule that is left after it.
abbrev pub reply_to : Rule → Status → Reply
reply_to rule status = first_reply (rule (status ∷ []))

abbrev pub rule_after : Rule → Status → Rule
rule_after rule status rest = later_replies (rule (status ∷ rest))

-- The rule that is left after a list of statuses.
abbrev pub rule_after_all : Rule → List Status → Rule
rule_after_all rule [] = rule
rule_after_all rule (status ∷ statuses) = rule_after_all (rule_after rule status) statuses

-- What one beat promises: shown `status`, the line gave `reply`, and from now on it replies by `next`.
abbrev pub Replied : Rule → Status → Reply → Rule → Type 0
Replied rule status reply next = (rest : List Status) → rule (status ∷ rest) ≡ reply ∷ next rest

-- What a list of beats promises, likewise.
abbrev pub RepliedAll : Rule → List Status → List Reply → Rule → Type 0
RepliedAll rule statuses replies next = (rest : List Status) → rule (statuses ++ rest) ≡ replies ++ next rest

-- One reply for each status: with FGI up it has no character, with FGO up it is not printed.
abbrev pub Fitting : List Status → List Reply → Type 0
Fitting [] [] = Unit {0}
Fitting [] (reply ∷ replies) = ⊥
Fitting (status ∷ statuses) [] = ⊥
Fitting (status ∷ statuses) (reply ∷ replies) =
    (status.fgi ≡ true → reply.character ≡ None) × (status.fgo ≡ true → reply.printed ≡ false) × Fitting statuses replies

-- What every line owes: replies that fit, for every list, and no reply that depends on later statuses.
pub record Proper (rule : Rule) : Type 0 where
  pub fitting : (statuses : List Status) → Fitting statuses (rule statuses)
  pub in_turn : (statuses later : List Status) → take (length statuses) (rule (statuses ++ later)) ≡ rule statuses

-- Two lines reply alike when their rules give equal replies for every list.
abbrev pub Alike : Rule → Rule → Type 0
Alike a b = (statuses : List Status) → a statuses ≡ b statuses
