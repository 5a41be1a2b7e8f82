-- The calls on the two computers, what they answer, and why they are turned down.
use Rattle.std.specs.Prelude.{◌≡◌, ℕ, Bool, true, false, cond, not, List, [], ◌∷◌, Some, None, Ok, Err, Option, Result, ◌==◌, nat_lt}
use Rattle.memory.specs.Contents.{Contents, size, fetched, stored}
use Rattle.machine.specs.declared.refusal.Refusal.{Refusal}
use Rattle.machine.specs.declared.refusal.Refusal.TheVariants.{MemorySize, AddressRange, Stopped, Running}
use Rattle.machine.specs.declared.call.Call.{Call}
use Rattle.machine.specs.declared.call.Call.TheVariants.{Clock, Start, Aim, Deposit, Examine}
use Rattle.machine.specs.Boards.{ClockBoard, CycleBoard}
use Rattle.machine.specs.Clock.{clocked, clocks_ended}
use Rattle.machine.specs.Cycle.{clocks, cycled, ran}

-- the number of a refusal
abbrev pub number : Refusal → ℕ
number MemorySize = 1
number AddressRange = 2
number Stopped = 3
number Running = 4

-- an answer, or a refusal by its number
pub data Outcome (Answer : Type 0) : Type 0 where
  answered : Answer → Outcome Answer
  refused : ℕ → Outcome Answer

-- what the code returns, as an outcome
module _ {Answer : Type 0} where
  abbrev pub outcome : Result Answer Refusal → Outcome Answer
  outcome (Ok answer) = answered answer
  outcome (Err refusal) = refused (number refusal)

-- a cause of a refusal, and its number
pub record Cause : Type 0 where
  pub holds : Bool
  pub refusal : ℕ

abbrev pub wrong_size : ℕ → Cause
wrong_size words = record { holds = not (words == 4096); refusal = number MemorySize }

abbrev pub past_the_end : ℕ → Cause
past_the_end a = record { holds = nat_lt 4095 a; refusal = number AddressRange }

abbrev pub stopped : Bool → Cause
stopped s = record { holds = not s; refusal = number Stopped }

abbrev pub running : Bool → Cause
running s = record { holds = s; refusal = number Running }

-- what a check of a cause gives: nothing where it does not hold, and else its refusal
abbrev pub Checked : Cause → Result (Unit {0}) Refusal → Type 0
Checked cause (Ok _) = cause.holds ≡ false
Checked cause (Err refusal) = (cause.holds ≡ true) × (number refusal ≡ cause.refusal)

-- causes are tried in order, and the first that holds counts
abbrev pub first : List Cause → Option ℕ
first [] = None
first (cause ∷ causes) = cond cause.holds (Some cause.refusal) (first causes)

-- why a call is turned down, by the words in the memory and by S
abbrev pub turned_down : Call → ℕ → Bool → Option ℕ
turned_down Clock words s = first (wrong_size words ∷ stopped s ∷ [])
turned_down Start words s = first (running s ∷ [])
turned_down (Aim a) words s = first (past_the_end a ∷ running s ∷ [])
turned_down (Deposit a w) words s = first (wrong_size words ∷ past_the_end a ∷ running s ∷ [])
turned_down (Examine a) words s = first (wrong_size words ∷ past_the_end a ∷ [])

-- what a call gives: an answer or a refusal, and the board after it
pub record Called (Answer Board : Type 0) : Type 0 where
  pub outcome : Outcome Answer
  pub after : Board

module _ {Answer Board : Type 0} where
  abbrev pub gives : Answer → Board → Called Answer Board
  gives answer b = record { outcome = answered answer; after = b }

  -- a refusal leaves all as it was
  abbrev pub refuses : ℕ → Board → Called Answer Board
  refuses refusal b = record { outcome = refused refusal; after = b }

  abbrev pub unless : Option ℕ → Board → Called Answer Board → Called Answer Board
  unless None b granted = granted
  unless (Some refusal) b granted = refuses refusal b

-- the panel: PC, S and the memory
abbrev pub with_panel : ℕ → Bool → Contents → ClockBoard → ClockBoard
with_panel pc s contents b = record {
  registers = record {
    ar = b.registers.ar;
    pc = pc;
    dr = b.registers.dr;
    ac = b.registers.ac;
    ir = b.registers.ir;
    tr = b.registers.tr;
    sc = b.registers.sc;
    e = b.registers.e;
    i = b.registers.i;
    r = b.registers.r;
    s = s;
    ien = b.registers.ien;
    port = b.registers.port;
  };
  contents = contents;
  rule = b.rule;
}

abbrev pub with_visible_panel : ℕ → Bool → Contents → CycleBoard → CycleBoard
with_visible_panel pc s contents b = record {
  visible = record {
    ac = b.visible.ac;
    e = b.visible.e;
    pc = pc;
    ien = b.visible.ien;
    r = b.visible.r;
    s = s;
    port = b.visible.port;
  };
  contents = contents;
  rule = b.rule;
}

-- a granted call on the computer that is clocked
abbrev pub clock_granted : Call → ClockBoard → Called ℕ ClockBoard
clock_granted Clock b = gives (clocks_ended b.registers) (clocked b)
clock_granted Start b = gives 0 (with_panel b.registers.pc true b.contents b)
clock_granted (Aim a) b = gives 0 (with_panel a b.registers.s b.contents b)
clock_granted (Deposit a w) b = gives 0 (with_panel b.registers.pc b.registers.s (stored b.contents a w) b)
clock_granted (Examine a) b = gives (fetched b.contents a) b

abbrev pub on_clocked : Call → ClockBoard → Called ℕ ClockBoard
on_clocked x b = unless (turned_down x (size b.contents) b.registers.s) b (clock_granted x b)

-- a granted call on the computer that makes whole cycles
abbrev pub cycle_granted : Call → CycleBoard → Called ℕ CycleBoard
cycle_granted Clock b = gives (clocks b) (cycled b)
cycle_granted Start b = gives 0 (with_visible_panel b.visible.pc true b.contents b)
cycle_granted (Aim a) b = gives 0 (with_visible_panel a b.visible.s b.contents b)
cycle_granted (Deposit a w) b = gives 0 (with_visible_panel b.visible.pc b.visible.s (stored b.contents a w) b)
cycle_granted (Examine a) b = gives (fetched b.contents a) b

abbrev pub on_cycled : Call → CycleBoard → Called ℕ CycleBoard
on_cycled x b = unless (turned_down x (size b.contents) b.visible.s) b (cycle_granted x b)

-- a run of n cycles is turned down as one cycle would be; it answers cycles and clocks
abbrev pub on_run : ℕ → CycleBoard → Called (ℕ × ℕ) CycleBoard
on_run n b =
    let all = ran n b in
    unless (turned_down Clock (size b.contents) b.visible.s) b (gives (all.cycles, all.clocks) all.after)
