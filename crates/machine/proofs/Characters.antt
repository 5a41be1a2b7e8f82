-- A character stays in INPR until it is taken.
use Rattle.std.proofs.Common.{◌≡◌, ℕ, false, cond, List, [], ◌∷◌, Some, None, Option, ap, ◌∙◌}
use Rattle.memory.specs.Contents.{size}
use Rattle.line.specs.Rules.{Proper}
use Rattle.machine.specs.declared.call.Call.{Call}
use Rattle.machine.specs.declared.call.Call.TheVariants.{Clock, Start, Aim, Deposit, Examine}
use Rattle.machine.specs.Words.{opcode}
use Rattle.machine.specs.Boards.{ClockBoard, new_clock_board}
use Rattle.machine.specs.Gates.{ac_inpr}
use Rattle.machine.specs.Clock.{connection, moved, clocked}
use Rattle.machine.specs.Calls.{turned_down, unless, clock_granted, on_clocked}
use Rattle.machine.specs.Lists.{after_all}
use Rattle.machine.specs.Laws.{granted, handed_in_beat, brought, takes_input, NoInputTaken, CharacterStays}
use Rattle.machine.proofs.Beat.{Holding, beat-holds, beat-brings, beat-proper}
use Rattle.machine.proofs.Calls.{call-cases, by-call, after_both}

abbrev Holds : ClockBoard → ℕ → Type 0
Holds b character = Holding (connection b) character

-- one call keeps it
clock-holds : (b : ClockBoard) (ch : ℕ) → ac_inpr b.registers.sc (opcode b.registers.ir) b.registers ≡ false → Holds b ch
    → Holds (clocked b) ch
clock-holds b ch e h = beat-holds (connection (moved b)) ch (h.0, rw e h.1, h.2)

call-holds : (x : Call) (b : ClockBoard) (ch : ℕ) → takes_input x b ≡ false → Holds b ch → Holds (on_clocked x b).after ch
call-holds Clock b ch e h =
    call-cases Clock b (λ k. Holds k.after ch) (λ f. h) (λ g. clock-holds b ch (rw g at e) h)
call-holds Start b ch e h = call-cases Start b (λ k. Holds k.after ch) (λ f. h) (λ g. h)
call-holds (Aim a) b ch e h = call-cases (Aim a) b (λ k. Holds k.after ch) (λ f. h) (λ g. h)
call-holds (Deposit a w) b ch e h = call-cases (Deposit a w) b (λ k. Holds k.after ch) (λ f. h) (λ g. h)
call-holds (Examine a) b ch e h = call-cases (Examine a) b (λ k. Holds k.after ch) (λ f. h) (λ g. h)

pub calls-hold : (xs : List Call) (b : ClockBoard) (ch : ℕ) → NoInputTaken xs b → Holds b ch
    → (after_all on_clocked xs b).registers.port.inpr ≡ ch
calls-hold [] b ch e h = h.2
calls-hold (x ∷ xs) b ch e h = calls-hold xs (on_clocked x b).after ch e.1 (call-holds x b ch e.0 h)

-- the rule of the line stays proper
call-proper : (x : Call) (b : ClockBoard) → Proper b.rule → Proper (on_clocked x b).after.rule
call-proper x b h =
    by-call x b (λ now c. Proper c.rule) h (λ s. beat-proper (connection (moved b)) h) (λ pc s contents f p. h)

pub all-proper : (xs : List Call) (b : ClockBoard) → Proper b.rule → Proper (after_all on_clocked xs b).rule
all-proper [] b h = h
all-proper (x ∷ xs) b h = all-proper xs (on_clocked x b).after (call-proper x b h)

-- a character arrives
by_clock : (o : Option ℕ) (b : ClockBoard) (ch : ℕ) → Proper b.rule
    → cond (granted o) (handed_in_beat (connection (moved b))) None ≡ Some ch
    → Holds (unless o b (clock_granted Clock b)).after ch
by_clock None b ch h e = beat-brings (connection (moved b)) ch h e
by_clock (Some f) b ch h e = cc

brings : (x : Call) (b : ClockBoard) (ch : ℕ) → Proper b.rule → brought x b ≡ Some ch → Holds (on_clocked x b).after ch
brings Clock b ch h e = by_clock (turned_down Clock (size b.contents) b.registers.s) b ch h e
brings Start b ch h e = cc
brings (Aim a) b ch h e = cc
brings (Deposit a w) b ch h e = cc
brings (Examine a) b ch h e = cc

pub character_stays : CharacterStays
character_stays contents rule h before x later ch e quiet =
    let n = new_clock_board contents rule in
    let b = after_all on_clocked before n in
    ap (λ (d : ClockBoard). d.registers.port.inpr) (after_both before (x ∷ later) n)
    ∙ calls-hold later (on_clocked x b).after ch quiet (brings x b ch (all-proper before n h) e)
