-- Readings taken from the board, as one statement about whole calls: made clock by clock, and by one cycle.
use Rattle.std.specs.Prelude.{◌≡◌, ℕ, ◌<◌, Bool, true, false}
use Rattle.memory.specs.Contents.{Contents, size, fetched}
use Rattle.line.specs.Rules.{Rule}
use Rattle.machine.specs.declared.call.Call.{Call}
use Rattle.machine.specs.declared.call.Call.TheVariants.{Clock, Aim, Deposit, Examine}
use Rattle.machine.specs.Words.{opcode}
use Rattle.machine.specs.Boards.{ClockBoard, CycleBoard, seen, new_clock_board}
use Rattle.machine.specs.Table.{address}
use Rattle.machine.specs.Calls.{answered, refused, Called, on_clocked, on_cycled, on_run}
use Rattle.machine.specs.Lists.{after_all}
use Rattle.machine.specs.Laws.{times, ByClocks}

-- refused with the number n, and everything as it was
module _ {Answer Board : Type 0} where
  abbrev pub Refused : ℕ → Board → Called Answer Board → Type 0
  Refused n b called = (called.outcome ≡ refused n) × (called.after ≡ b)

-- by both computers
abbrev pub BothRefuse : ℕ → Call → ClockBoard → Type 0
BothRefuse n x b = Refused n b (on_clocked x b) × Refused n (seen b) (on_cycled x (seen b))

-- each call that needs the memory is refused with 1
pub record WrongSize (b : ClockBoard) : Type 0 where
  pub clock : BothRefuse 1 Clock b
  pub deposit : (a w : ℕ) → BothRefuse 1 (Deposit a w) b
  pub examine : (a : ℕ) → BothRefuse 1 (Examine a) b
  pub run : (n : ℕ) → Refused 1 (seen b) (on_run n (seen b))

-- an aim is granted by both computers
pub record Aimed (a : ℕ) (b : ClockBoard) : Type 0 where
  pub by_clock : (on_clocked (Aim a) b).outcome ≡ answered 0
  pub pc : (on_clocked (Aim a) b).after.registers.pc ≡ a
  pub by_cycle : (on_cycled (Aim a) (seen b)).outcome ≡ answered 0
  pub cycle_pc : (on_cycled (Aim a) (seen b)).after.visible.pc ≡ a

-- b is between cycles, with S up and R down, and the word w is next
pub record Next (w : ℕ) (b : ClockBoard) : Type 0 where
  pub sized : size b.contents ≡ 4096
  pub between : b.registers.sc ≡ 0
  pub running : b.registers.s ≡ true
  pub no_interrupt : b.registers.r ≡ false
  pub pc_fits : b.registers.pc < 4096
  pub word : fetched b.contents b.registers.pc ≡ w

-- The next cycle has k clocks, by clock calls and by one cycle call, and P holds after it.
pub record Leaves (k : ℕ) (b : ClockBoard) (P : CycleBoard → Type 0) : Type 0 where
  pub answers : ByClocks k b
  pub by_clocks : P (seen (after_all on_clocked (times k) b))
  pub by_cycle : P (on_cycled Clock (seen b)).after

abbrev pub AcE : ℕ → Bool → CycleBoard → Type 0
AcE ac e t = (t.visible.ac ≡ ac) × (t.visible.e ≡ e)

pub record Readings : Type 0 where
  -- memories of 4095 and of 4097 words
  pub smaller : (b : ClockBoard) → size b.contents ≡ 4095 → WrongSize b
  pub larger : (b : ClockBoard) → size b.contents ≡ 4097 → WrongSize b
  -- aim FFF, aim 1000, and a clock on a new computer
  pub aim_last : (b : ClockBoard) → b.registers.s ≡ false → Aimed 0xFFF b
  pub aim_past : (b : ClockBoard) → BothRefuse 2 (Aim 0x1000) b
  pub clock_new : (contents : Contents) (rule : Rule) → size contents ≡ 4096 → BothRefuse 3 Clock (new_clock_board contents rule)
  -- AC FFFF: ADD of 0001, and INC
  pub add :
      (w : ℕ) (b : ClockBoard) → Next w b → opcode w ≡ 1 → fetched b.contents (address b.contents w) ≡ 0x0001
      → b.registers.ac ≡ 0xFFFF → Leaves 6 b (AcE 0x0000 true)
  pub inc : (b : ClockBoard) → Next 0x7020 b → b.registers.ac ≡ 0xFFFF → Leaves 4 b (AcE 0x0000 b.registers.e)
  -- AC 8001 and E down: CIR, CIL, both, and CLA with CMA
  pub right : (b : ClockBoard) → Next 0x7080 b → b.registers.ac ≡ 0x8001 → b.registers.e ≡ false → Leaves 4 b (AcE 0x4000 true)
  pub left : (b : ClockBoard) → Next 0x7040 b → b.registers.ac ≡ 0x8001 → b.registers.e ≡ false → Leaves 4 b (AcE 0x0002 true)
  pub both : (b : ClockBoard) → Next 0x70C0 b → b.registers.ac ≡ 0x8001 → b.registers.e ≡ false → Leaves 4 b (AcE 0x4002 true)
  pub clear :
      (b : ClockBoard) → Next 0x7A00 b → b.registers.ac ≡ 0x8001 → b.registers.e ≡ false → Leaves 4 b (λ t. t.visible.ac ≡ 0x0000)
  -- 6010 at FFE, with FFFF at 010
  pub isz :
      (b : ClockBoard) → Next 0x6010 b → b.registers.pc ≡ 0xFFE → fetched b.contents 0x010 ≡ 0xFFFF
      → Leaves 7 b (λ t. (fetched t.contents 0x010 ≡ 0x0000) × (t.visible.pc ≡ 0x000))
  -- IOF with IEN and FGO up; ION with IEN down and FGO up
  pub iof :
      (b : ClockBoard) → Next 0xF040 b → b.registers.ien ≡ true → b.registers.port.fgo ≡ true
      → Leaves 4 b (λ t. (t.visible.ien ≡ false) × (t.visible.r ≡ true))
  pub ion :
      (b : ClockBoard) → Next 0xF080 b → b.registers.ien ≡ false → b.registers.port.fgo ≡ true
      → Leaves 4 b (λ t. (t.visible.ien ≡ true) × (t.visible.r ≡ false))
