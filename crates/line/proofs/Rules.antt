-- What follows of every reply rule.
use Rattle.std.proofs.Common.{◌≡◌, ℕ, zero, suc, List, [], ◌∷◌, ◌++◌, length, take, sym, refl, ap, ◌∙◌, subst, append-nil}
use mathlib.Core.Path.{fun_ext}
use Rattle.line.specs.declared.status.Reply.{Reply}
use Rattle.line.specs.declared.status.Status.{Status}
use Rattle.line.specs.Rules.{Rule, first_reply, later_replies, reply_to, rule_after, rule_after_all, Replied, RepliedAll, Fitting, Proper, Alike}

-- One beat's promise as equations: the reply, and the rule that is left.
pub reply_is : (rule : Rule) (status : Status) (reply : Reply) (next : Rule) → Replied rule status reply next → reply_to rule status ≡ reply
reply_is rule status reply next h = ap first_reply (h [])

pub rest-is : (rule : Rule) (status : Status) (reply : Reply) (next : Rule) → Replied rule status reply next → rule_after rule status ≡ next
rest-is rule status reply next h = fun_ext (λ rest. ap later_replies (h rest))

-- Lines that reply alike give one reply to a status, and go on replying alike.
pub alike-reply : (a b : Rule) (status : Status) → Alike a b → reply_to a status ≡ reply_to b status
alike-reply a b status alike = ap first_reply (alike (status ∷ []))

pub alike-after : (a b : Rule) (status : Status) → Alike a b → Alike (rule_after a status) (rule_after b status)
alike-after a b status alike rest = ap later_replies (alike (status ∷ rest))

-- A proper rule stays proper.
later-fitting : (status : Status) (rest : List Status) (replies : List Reply) → Fitting (status ∷ rest) replies → Fitting rest (later_replies replies)
later-fitting status rest [] fits = absurd fits
later-fitting status rest (reply ∷ replies) fits = fits.2

later-take : (n : ℕ) (replies : List Reply) → take n (later_replies replies) ≡ later_replies (take (suc n) replies)
later-take zero [] = refl
later-take (suc n) [] = refl
later-take n (reply ∷ replies) = refl

pub proper-after : (rule : Rule) (status : Status) → Proper rule → Proper (rule_after rule status)
proper-after rule status proper = record {
  fitting = λ rest. later-fitting status rest (rule (status ∷ rest)) (proper.fitting (status ∷ rest));
  in_turn = λ rest later.
      later-take (length rest) (rule (status ∷ (rest ++ later))) ∙ ap later_replies (proper.in_turn (status ∷ rest) later);
}

-- Replies that fit are one for each status.
pub length-fitting : (statuses : List Status) (replies : List Reply) → Fitting statuses replies → length replies ≡ length statuses
length-fitting [] [] fits = refl
length-fitting [] (reply ∷ replies) fits = absurd fits
length-fitting (status ∷ statuses) [] fits = absurd fits
length-fitting (status ∷ statuses) (reply ∷ replies) fits = ap suc (length-fitting statuses replies fits.2)

pub each-reply : (rule : Rule) → Proper rule → (statuses : List Status) → length (rule statuses) ≡ length statuses
each-reply rule proper statuses = length-fitting statuses (rule statuses) (proper.fitting statuses)

-- What a list of beats says of the rule.
nothing-fitting : (replies : List Reply) → Fitting [] replies → replies ≡ []
nothing-fitting [] fits = refl
nothing-fitting (reply ∷ replies) fits = absurd fits

pub replies-are : (rule next : Rule) (statuses : List Status) (replies : List Reply) → Proper next → RepliedAll rule statuses replies next →
    replies ≡ rule statuses
replies-are rule next statuses replies proper all = sym (simp (nothing-fitting (next []) (proper.fitting []), append-nil) at (all []))

pub rule-left : (rule next : Rule) (statuses : List Status) (replies : List Reply) → Fitting statuses replies → RepliedAll rule statuses replies next →
    next ≡ rule_after_all rule statuses
rule-left rule next [] [] fits all = fun_ext (λ rest. sym (all rest))
rule-left rule next [] (reply ∷ replies) fits all = absurd fits
rule-left rule next (status ∷ statuses) [] fits all = absurd fits
rule-left rule next (status ∷ statuses) (reply ∷ replies) fits all =
    rule-left (rule_after rule status) next statuses replies fits.2 (λ rest. ap later_replies (all rest))

pub played : (rule next : Rule) (statuses : List Status) (replies : List Reply) → Proper rule → Proper next → RepliedAll rule statuses replies next →
    (replies ≡ rule statuses) × (next ≡ rule_after_all rule statuses)
played rule next statuses replies proper proper-next all =
    let e = replies-are rule next statuses replies proper-next all in
    (e, rule-left rule next statuses replies (subst (λ (r : List Reply). Fitting statuses r) (sym e) (proper.fitting statuses)) all)
