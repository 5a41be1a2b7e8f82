-- What a call on the clocked computer may do: be refused, or be granted.
use Rattle.std.proofs.Common.{◌≡◌, ℕ, ◌<◌, Bool, true, false, List, [], ◌∷◌, ◌++◌, Some, None, Option, refl, ap₂, arith}
use Rattle.std.proofs.lemmas.Bool.Decides.{nat_tests}
use Rattle.memory.specs.Contents.{Contents, size, stored}
use Rattle.machine.specs.declared.call.Call.{Call}
use Rattle.machine.specs.declared.call.Call.TheVariants.{Clock, Start, Aim, Deposit, Examine}
use Rattle.machine.specs.Boards.{ClockBoard}
use Rattle.machine.specs.Clock.{clocked, clocks_ended}
use Rattle.machine.specs.Calls.{answered, turned_down, Called, refuses, unless, with_panel, clock_granted, on_clocked}
use Rattle.machine.specs.Lists.{after_all, Step, no_clock, step}

-- what holds of a refusal and of a granted call holds of the call
pub call-cases : (x : Call) (b : ClockBoard) (P : Called ℕ ClockBoard → Type 0) → ((refusal : ℕ) → P (refuses refusal b))
    → (turned_down x (size b.contents) b.registers.s ≡ None → P (clock_granted x b)) → P (on_clocked x b)
call-cases x b P refused grants = by (turned_down x (size b.contents) b.registers.s) grants
  where
    by : (o : Option ℕ) → (o ≡ None → P (clock_granted x b)) → P (unless o b (clock_granted x b))
    by None g = g refl
    by (Some refusal) g = refused refusal

-- what is known once a call is granted
pub clock-granted-when : (words : ℕ) (s : Bool) → turned_down Clock words s ≡ None → (words ≡ 4096) × (s ≡ true)
clock-granted-when words s e = grind (arith, nat_tests)

pub clock-is-granted : (words : ℕ) (s : Bool) → words ≡ 4096 → s ≡ true → turned_down Clock words s ≡ None
clock-is-granted words s p q = ap₂ (turned_down Clock) p q

pub start-granted-when : (words : ℕ) (s : Bool) → turned_down Start words s ≡ None → s ≡ false
start-granted-when words s e = grind (arith, nat_tests)

pub aim-granted-when : (a words : ℕ) (s : Bool) → turned_down (Aim a) words s ≡ None → (a < 4096) × (s ≡ false)
aim-granted-when a words s e = grind (arith, nat_tests)

pub deposit-granted-when : (a w words : ℕ) (s : Bool) → turned_down (Deposit a w) words s ≡ None → s ≡ false
deposit-granted-when a w words s e = grind (arith, nat_tests)

-- What holds of any call, by what it was to the cycles and the board it left: nothing changed, a clock was granted with S up, or
-- the panel changed PC, S or the memory with S down.
pub by-call : (x : Call) (b : ClockBoard) (P : Step → ClockBoard → Type 0) → P no_clock b
    → (b.registers.s ≡ true → P (step Clock (answered (clocks_ended b.registers))) (clocked b))
    → ((pc : ℕ) (s : Bool) (contents : Contents) → b.registers.s ≡ false → (b.registers.pc < 4096 → pc < 4096)
    → P no_clock (with_panel pc s contents b))
    → P (step x (on_clocked x b).outcome) (on_clocked x b).after
by-call Clock b P same clock panel =
    call-cases Clock b (λ k. P (step Clock k.outcome) k.after) (λ f. same)
    (λ g. clock (clock-granted-when (size b.contents) b.registers.s g).1)
by-call Start b P same clock panel =
    call-cases Start b (λ k. P no_clock k.after) (λ f. same)
    (λ g. panel b.registers.pc true b.contents (start-granted-when (size b.contents) b.registers.s g) (λ h. h))
by-call (Aim a) b P same clock panel =
    call-cases (Aim a) b (λ k. P no_clock k.after) (λ f. same)
    (λ g. let k = aim-granted-when a (size b.contents) b.registers.s g in panel a b.registers.s b.contents k.1 (λ h. k.0))
by-call (Deposit a w) b P same clock panel =
    call-cases (Deposit a w) b (λ k. P no_clock k.after) (λ f. same)
    (λ g. panel b.registers.pc b.registers.s (stored b.contents a w) (deposit-granted-when a w (size b.contents) b.registers.s g) (λ h. h))
by-call (Examine a) b P same clock panel = call-cases (Examine a) b (λ k. P no_clock k.after) (λ f. same) (λ g. same)

-- a list in two parts
pub after_both : (before later : List Call) (b : ClockBoard)
    → after_all on_clocked (before ++ later) b ≡ after_all on_clocked later (after_all on_clocked before b)
after_both [] later b = refl
after_both (x ∷ xs) later b = after_both xs later (on_clocked x b).after
