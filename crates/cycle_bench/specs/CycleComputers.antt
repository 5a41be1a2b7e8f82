-- The computer that makes whole cycles, as the definitions speak of it.
use Rattle.std.specs.Prelude.{◌≡◌, ℕ, ◌-◌, ◌&&◌, Ok, Err, Result}
use Rattle.memory.specs.Contents.{Contents}
use Rattle.line.specs.Rules.{Rule}
use Rattle.machine.specs.declared.refusal.Refusal.{Refusal}
use Rattle.machine.specs.declared.registers.Visible.{Visible}
use Rattle.machine.specs.Words.{opcode, up12}
use Rattle.machine.specs.Beat.{flagged}
use Rattle.machine.specs.Boards.{CycleBoard}
use Rattle.machine.specs.Table.{Row, row, with_pc, with_r}
use Rattle.machine.specs.Cycle.{beaten, instruction, clocks, effect, Ran}
use Rattle.machine.specs.Laws.{CycleByCycle}
use Rattle.cycle_bench.specs.declared.cycle_computer.CycleComputer.{CycleComputer}

-- its registers
abbrev pub registers_of : CycleComputer → Visible
registers_of c = record { ac = c.ac; e = c.e; pc = c.pc; ien = c.ien; r = c.r; s = c.s; port = c.port }

-- the computer on its board, with the contents of its memory and the rule of its line
abbrev pub cycle_board : CycleComputer → Contents → Rule → CycleBoard
cycle_board c contents rule = record { visible = registers_of c; contents = contents; rule = rule }

-- PC past the word; R up exactly when IEN and a flag are up
abbrev pub stepped : CycleBoard → CycleBoard
stepped b = with_r (b.visible.ien && flagged b.visible.port) (with_pc (up12 b.visible.pc) b)

-- the same after n beats: all that comes before an instruction is carried out
abbrev pub readied : ℕ → CycleBoard → CycleBoard
readied n b = stepped (beaten n b)

-- a row of the table carried out on b, by the word w: k its clocks, and what it leaves
pub record CarriedOut (x : Row) (w : ℕ) (b : CycleBoard) (k : ℕ) (after : CycleBoard) : Type 0 where
  pub answer : k ≡ x.clocks
  pub board : after ≡ x.effect w b

-- the instruction at PC, all but its last beat
abbrev pub Executed : CycleBoard → ℕ → CycleBoard → Type 0
Executed b k after =
    let x = row (opcode (instruction b)) in CarriedOut x (instruction b) (readied (x.clocks - 1) b) k after

-- a cycle, all but its last beat
pub record BeforeLastBeat (b : CycleBoard) (k : ℕ) (after : CycleBoard) : Type 0 where
  pub answer : k ≡ clocks b
  pub board : after ≡ effect (beaten (clocks b - 1) b)

-- a run, from what it answers and leaves
abbrev pub as_ran : ℕ × ℕ → CycleBoard → Ran
as_ran answer after = record { cycles = answer.0; clocks = answer.1; after = after }

-- a granted run is so many cycle calls
abbrev pub LawfulRun : ℕ → CycleBoard → Result (ℕ × ℕ) Refusal → CycleBoard → Type 0
LawfulRun n b (Ok answer) after = CycleByCycle n b (as_ran answer after)
LawfulRun n b (Err refusal) after = Unit {0}
