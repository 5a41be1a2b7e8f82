-- The clocked computer of the code, with its memory and its line, as a board.
use Rattle.std.specs.Prelude.{◌≡◌, ℕ, Bool, true, cond, ◌&&◌}
use Rattle.memory.specs.Contents.{Contents}
use Rattle.line.specs.Rules.{Rule}
use Rattle.machine.specs.declared.registers.Registers.{Registers}
use Rattle.machine.specs.declared.registers.Visible.{Visible}
use Rattle.machine.specs.Words.{opcode}
use Rattle.machine.specs.Beat.{flagged}
use Rattle.machine.specs.Boards.{ClockBoard, visible_of}
use Rattle.machine.specs.Table.{register_marks, port_marks}
use Rattle.machine.specs.Clock.{moved_at}
use Rattle.clock_bench.specs.declared.clock_computer.ClockComputer.{ClockComputer}

abbrev pub registers_of : ClockComputer → Registers
registers_of m = record {
  ar = m.ar;
  pc = m.pc;
  dr = m.dr;
  ac = m.ac;
  ir = m.ir;
  tr = m.tr;
  sc = m.sc;
  e = m.e;
  i = m.i;
  r = m.r;
  s = m.s;
  ien = m.ien;
  port = m.port;
}

-- registers, with a memory and a line
abbrev pub with_registers : Registers → Contents → Rule → ClockBoard
with_registers c contents rule = record { registers = c; contents = contents; rule = rule }

abbrev pub board : ClockComputer → Contents → Rule → ClockBoard
board m contents rule = with_registers (registers_of m) contents rule

-- The transfers and the memory write of a clock at SC t take c and contents to next and contents', whatever the line.
abbrev pub Moves : ℕ → Registers → Contents → Registers → Contents → Type 0
Moves t c contents next contents' =
    (rule : Rule) → with_registers next contents' rule ≡ moved_at t (opcode c.ir) (with_registers c contents rule)

-- R after a clock past T2
abbrev pub raised : Registers → Bool
raised c = cond (c.ien && flagged c.port) true c.r

-- the end of AND, ADD and LDA
abbrev pub loaded : ℕ → Bool → Registers → Registers
loaded ac e c = record {
  ar = c.ar;
  pc = c.pc;
  dr = c.dr;
  ac = ac;
  ir = c.ir;
  tr = c.tr;
  sc = 0;
  e = e;
  i = c.i;
  r = raised c;
  s = c.s;
  ien = c.ien;
  port = c.port;
}

-- the end of an instruction of opcode 7 that leaves the visible registers v
abbrev marked : Registers → Visible → Registers
marked c v = record {
  ar = c.ar;
  pc = v.pc;
  dr = c.dr;
  ac = v.ac;
  ir = c.ir;
  tr = c.tr;
  sc = 0;
  e = v.e;
  i = c.i;
  r = raised c;
  s = v.s;
  ien = v.ien;
  port = v.port;
}

abbrev pub register_marked : Registers → Registers
register_marked c = marked c (register_marks c.ir (visible_of c))

abbrev pub port_marked : Registers → Registers
port_marked c = marked c (port_marks c.ir (visible_of c))

-- with other AR and DR
abbrev pub with_ar_dr : ℕ → ℕ → Registers → Registers
with_ar_dr ar dr c = record {
  ar = ar;
  pc = c.pc;
  dr = dr;
  ac = c.ac;
  ir = c.ir;
  tr = c.tr;
  sc = c.sc;
  e = c.e;
  i = c.i;
  r = c.r;
  s = c.s;
  ien = c.ien;
  port = c.port;
}
