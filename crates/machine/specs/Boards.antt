-- A board: the registers of a computer, what its memory holds, and the rule by which its line replies from now on.
use Rattle.std.specs.Prelude.{◌≡◌, ℕ, ◌<◌, ◌≤◌, Bool, true, false, ◌||◌, ◌==◌}
use Rattle.memory.specs.Contents.{Contents}
use Rattle.line.specs.Rules.{Rule}
use Rattle.machine.specs.declared.registers.Port.{Port}
use Rattle.machine.specs.declared.registers.Registers.{Registers}
use Rattle.machine.specs.declared.registers.Visible.{Visible}
use Rattle.machine.specs.Words.{opcode}

-- the computer that is clocked
pub record ClockBoard : Type 0 where
  pub registers : Registers
  pub contents : Contents
  pub rule : Rule

-- the computer that makes whole cycles
pub record CycleBoard : Type 0 where
  pub visible : Visible
  pub contents : Contents
  pub rule : Rule

-- what a program can see of a clocked computer
abbrev pub visible_of : Registers → Visible
visible_of c = record { ac = c.ac; e = c.e; pc = c.pc; ien = c.ien; r = c.r; s = c.s; port = c.port }

abbrev pub seen : ClockBoard → CycleBoard
seen b = record { visible = visible_of b.registers; contents = b.contents; rule = b.rule }

-- a new computer holds zero everywhere, except that FGO is up
abbrev pub new_port : Port
new_port = record { inpr = 0; outr = 0; fgi = false; fgo = true }

abbrev pub new_registers : Registers
new_registers = record {
  ar = 0;
  pc = 0;
  dr = 0;
  ac = 0;
  ir = 0;
  tr = 0;
  sc = 0;
  e = false;
  i = false;
  r = false;
  s = false;
  ien = false;
  port = new_port;
}

abbrev pub new_clock_board : Contents → Rule → ClockBoard
new_clock_board contents rule = record { registers = new_registers; contents = contents; rule = rule }

abbrev pub new_cycle_board : Contents → Rule → CycleBoard
new_cycle_board contents rule = record { visible = visible_of new_registers; contents = contents; rule = rule }

-- the opcodes of the instructions that are not done at T4
abbrev pub reaches_t5 : ℕ → Bool
reaches_t5 d = d == 0 || d == 1 || d == 2 || d == 5 || d == 6

-- what the registers of a clocked computer always keep
pub record Sound (c : Registers) : Type 0 where
  pub ar_fits : c.ar < 4096
  pub pc_fits : c.pc < 4096
  pub sc_fits : c.sc ≤ 6
  pub at_rest : c.s ≡ false → c.sc ≡ 0
  pub at_four : c.sc ≡ 4 → opcode c.ir < 7
  pub at_five : c.sc ≡ 5 → reaches_t5 (opcode c.ir) ≡ true
  pub at_six : c.sc ≡ 6 → opcode c.ir ≡ 6
