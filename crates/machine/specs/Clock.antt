-- One clock of the computer that is clocked: the transfers and the memory write, then one beat.
use Rattle.std.specs.Prelude.{ℕ, ◌+◌, Bool, true, false, cond, not, ◌&&◌, ◌||◌, bit_and, bit_or}
use Rattle.memory.specs.Contents.{fetched, stored}
use Rattle.machine.specs.declared.registers.Port.{Port}
use Rattle.machine.specs.declared.registers.Registers.{Registers}
use Rattle.machine.specs.Words.{bit, opcode, low12, low8, up12, up16, sum16, carry, complement, circulated_right, circulated_left, with_character}
use Rattle.machine.specs.Parts.{register, source, flip_flop, unless_lowered}
use Rattle.machine.specs.Beat.{Connection, beat}
use Rattle.machine.specs.Boards.{ClockBoard}
use Rattle.machine.specs.Gates.{bus, memory_write, ar_load, ar_clear, ar_increment, pc_load, pc_clear, pc_increment, skip, dr_load, dr_increment, ir_load, tr_load, i_load, ac_and, ac_add, ac_dr, ac_inpr, ac_complement, ac_right, ac_left, ac_clear, ac_increment, e_clear, e_complement, ien_raise, ien_lower, r_raise, r_lower, outr_load, fgo_lower, fgi_lower, s_lower, sc_clear}

-- the next value of each register; x is the word on the bus
module _ (t d : ℕ) (c : Registers) where
  abbrev pub next_ar : ℕ → ℕ
  next_ar x = register (ar_clear t d c) (ar_load t d c) (low12 x) (ar_increment t d c) (up12 c.ar) c.ar

  abbrev pub next_pc : ℕ → Bool → ℕ
  next_pc x skips = register (pc_clear t d c) (pc_load t d c) (low12 x) (pc_increment t d c skips) (up12 c.pc) c.pc

  abbrev pub next_dr : ℕ → ℕ
  next_dr x = register false (dr_load t d c) x (dr_increment t d c) (up16 c.dr) c.dr

  -- AC takes the OR of its selected sources
  abbrev pub ac_selected : Bool
  ac_selected =
      ac_and t d c || ac_add t d c || ac_dr t d c || ac_inpr t d c || ac_complement t d c || ac_right t d c || ac_left t d c

  abbrev pub ac_sources : ℕ
  ac_sources =
      bit_or (bit_or (bit_or (bit_or (bit_or (bit_or
      (source (ac_and t d c) (bit_and c.ac c.dr))
      (source (ac_add t d c) (sum16 c.ac c.dr)))
      (source (ac_dr t d c) c.dr))
      (source (ac_inpr t d c) (with_character c.ac c.port.inpr)))
      (source (ac_complement t d c) (complement c.ac)))
      (source (ac_right t d c) (circulated_right c.e c.ac)))
      (source (ac_left t d c) (circulated_left c.e c.ac))

  abbrev pub next_ac : ℕ
  next_ac = register (ac_clear t d c) ac_selected ac_sources (ac_increment t d c) (up16 c.ac) c.ac

  -- E is cleared before all, and else takes the OR of what is selected
  abbrev pub e_selected : Bool
  e_selected = ac_add t d c || ac_right t d c || ac_left t d c || e_complement t d c

  abbrev pub e_sources : Bool
  e_sources =
      ac_add t d c && carry c.ac c.dr || ac_right t d c && bit 0 c.ac || ac_left t d c && bit 15 c.ac
      || e_complement t d c && not c.e

  abbrev pub next_e : Bool
  next_e = cond (e_clear t d c) false (cond e_selected e_sources c.e)

  abbrev pub next_ien : Bool
  next_ien = flip_flop (ien_raise t d c) (ien_lower t d c) c.ien

  abbrev pub next_r : Bool
  next_r = cond (r_lower t d c) false (cond (r_raise t d c) true c.r)

  abbrev pub next_port : ℕ → Port
  next_port x = record {
    inpr = c.port.inpr;
    outr = cond (outr_load t d c) (low8 x) c.port.outr;
    fgi = unless_lowered (fgi_lower t d c) c.port.fgi;
    fgo = unless_lowered (fgo_lower t d c) c.port.fgo;
  }

  -- all transfers: every line reads the registers as they stood before the clock
  abbrev pub transferred_at : ℕ → Registers
  transferred_at x = record {
    ar = next_ar x;
    pc = next_pc x (skip t d c);
    dr = next_dr x;
    ac = next_ac;
    ir = cond (ir_load t d c) x c.ir;
    tr = cond (tr_load t d c) x c.tr;
    sc = cond (sc_clear t d c) 0 (t + 1);
    e = next_e;
    i = cond (i_load t d c) (bit 15 c.ir) c.i;
    r = next_r;
    s = unless_lowered (s_lower t d c) c.s;
    ien = next_ien;
    port = next_port x;
  }

  -- the answer: the clocks of the cycle that this clock ends, or 0
  abbrev pub clocks_ended_at : ℕ
  clocks_ended_at = cond (sc_clear t d c) (t + 1) 0

-- the transfers alone, without write and beat; `word` is what the memory shows at AR
abbrev pub transferred : Registers → ℕ → Registers
transferred c word = transferred_at c.sc (opcode c.ir) c (bus c.sc (opcode c.ir) c word)

abbrev pub clocks_ended : Registers → ℕ
clocks_ended c = clocks_ended_at c.sc (opcode c.ir) c

-- registers with another port
abbrev pub with_port : Port → Registers → Registers
with_port port c = record {
  ar = c.ar;
  pc = c.pc;
  dr = c.dr;
  ac = c.ac;
  ir = c.ir;
  tr = c.tr;
  sc = c.sc;
  e = c.e;
  i = c.i;
  r = c.r;
  s = c.s;
  ien = c.ien;
  port = port;
}

-- the port of a board, and the line at it
abbrev pub connection : ClockBoard → Connection
connection b = record { port = b.registers.port; rule = b.rule }

module _ (t d : ℕ) (b : ClockBoard) where
  -- the word on the bus
  abbrev pub bus_word : ℕ
  bus_word = bus t d b.registers (fetched b.contents b.registers.ar)

  -- the transfers and the memory write
  abbrev pub moved_at : ClockBoard
  moved_at = record {
    registers = transferred_at t d b.registers bus_word;
    contents = cond (memory_write t d b.registers) (stored b.contents b.registers.ar bus_word) b.contents;
    rule = b.rule;
  }

-- a board after one beat
abbrev pub after_beat : ClockBoard → ClockBoard
after_beat b = record {
  registers = with_port (beat (connection b)).port b.registers;
  contents = b.contents;
  rule = (beat (connection b)).rule;
}

-- the transfers and the memory write of one clock
abbrev pub moved : ClockBoard → ClockBoard
moved b = moved_at b.registers.sc (opcode b.registers.ir) b

-- one clock
abbrev pub clocked : ClockBoard → ClockBoard
clocked b = after_beat (moved b)
