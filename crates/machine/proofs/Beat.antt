-- What a beat keeps.
use Rattle.std.proofs.Common.{◌≡◌, ℕ, Bool, true, ◌||◌, List, [], ◌∷◌, Some, None, refl, ap₂, arith}
use Rattle.std.proofs.lemmas.Bool.{or_right}
use Rattle.line.specs.declared.status.Status.{Status}
use Rattle.line.specs.declared.status.Reply.{Reply}
use Rattle.line.specs.Rules.{Rule, Fitting, Proper, Replied, first_reply, reply_to}
use Rattle.line.proofs.Rules.{reply_is, rest-is, proper-after}
use Rattle.machine.specs.Beat.{Connection, status, flagged, applied, beat}

-- from what a line promises of one beat to what the beat leaves
pub beat-is : (x : Connection) (reply : Reply) (next : Rule) → Replied x.rule (status x.port) reply next
    → beat x ≡ record { port = applied reply x.port; rule = next }
unfolding beat
beat-is x reply next h =
    ap₂ (λ (q : Reply) (rule : Rule). record { port = applied q x.port; rule = rule })
    (reply_is x.rule (status x.port) reply next h) (rest-is x.rule (status x.port) reply next h)

-- a flag that is up stays up
either_up : (f g a b : Bool) → (f || g) ≡ true → ((f || a) || (g || b)) ≡ true
either_up f g a b h = grind arith

pub keeps-flag : (x : Connection) → flagged x.port ≡ true → flagged (beat x).port ≡ true
unfolding beat
keeps-flag x h = either_up x.port.fgi x.port.fgo _ _ h

-- a proper rule stays proper
pub beat-proper : (x : Connection) → Proper x.rule → Proper (beat x).rule
unfolding beat
beat-proper x h = proper-after x.rule (status x.port) h

-- the input register holds a character that was not taken
abbrev pub Holding : Connection → ℕ → Type 0
Holding x character = Proper x.rule × (x.port.fgi ≡ true) × (x.port.inpr ≡ character)

no-character : (s : Status) (qs : List Reply) → Fitting (s ∷ []) qs → s.fgi ≡ true → (first_reply qs).character ≡ None
no-character s [] h f = refl
no-character s (q ∷ qs) h f = h.0 f

pub beat-holds : (x : Connection) (character : ℕ) → Holding x character → Holding (beat x) character
unfolding beat
beat-holds x character h =
    let s = status x.port in
    let q = no-character s (x.rule (s ∷ [])) (h.0.fitting (s ∷ [])) h.1 in
    (proper-after x.rule s h.0, rw h.1, rw (q, h.2))

-- a character arrives
pub beat-brings : (x : Connection) (character : ℕ) → Proper x.rule → (reply_to x.rule (status x.port)).character ≡ Some character
    → Holding (beat x) character
unfolding beat
beat-brings x character h e = (proper-after x.rule (status x.port) h, rw e (or_right x.port.fgi true refl), rw e refl)
