-- The instruction table: how many clocks an instruction takes, and what it does.
use Rattle.std.specs.Prelude.{ℕ, Bool, false, cond, not, ◌&&◌, ◌||◌, ◌==◌, bit_and, bit_or}
use Rattle.memory.specs.Contents.{Contents, fetched, stored}
use Rattle.machine.specs.declared.registers.Visible.{Visible}
use Rattle.machine.specs.Words.{bit, low12, low8, up12, up16, sum16, carry, complement, circulated_right, circulated_left, with_character}
use Rattle.machine.specs.Parts.{register, source, flip_flop, unless_lowered}
use Rattle.machine.specs.Boards.{CycleBoard}

-- the address of a word: its low 12 bits, or with bit 15 up those of the word there
abbrev pub address : Contents → ℕ → ℕ
address contents w = cond (bit 15 w) (low12 (fetched contents (low12 w))) (low12 w)

-- the word at that address
abbrev pub operand : ℕ → CycleBoard → ℕ
operand w b = fetched b.contents (address b.contents w)

-- a board with other registers, or with another word in its memory
abbrev pub with_visible : Visible → CycleBoard → CycleBoard
with_visible visible b = record { visible = visible; contents = b.contents; rule = b.rule }

abbrev pub with_word : ℕ → ℕ → CycleBoard → CycleBoard
with_word a word b = record { visible = b.visible; contents = stored b.contents a word; rule = b.rule }

module _ (v : Visible) where
  abbrev visible_ac : ℕ → Bool → Visible
  visible_ac ac e = record { ac = ac; e = e; pc = v.pc; ien = v.ien; r = v.r; s = v.s; port = v.port }

  abbrev visible_pc : ℕ → Visible
  visible_pc pc = record { ac = v.ac; e = v.e; pc = pc; ien = v.ien; r = v.r; s = v.s; port = v.port }

  abbrev visible_r : Bool → Visible
  visible_r r = record { ac = v.ac; e = v.e; pc = v.pc; ien = v.ien; r = r; s = v.s; port = v.port }

abbrev pub with_ac : ℕ → Bool → CycleBoard → CycleBoard
with_ac ac e b = with_visible (visible_ac b.visible ac e) b

abbrev pub with_pc : ℕ → CycleBoard → CycleBoard
with_pc pc b = with_visible (visible_pc b.visible pc) b

abbrev pub with_r : Bool → CycleBoard → CycleBoard
with_r r b = with_visible (visible_r b.visible r) b

-- Opcode 7: each bit of the word that is up is a mark. Several marks act together by the rules of the gates, and all read the
-- registers v as they stood before.
module _ (w : ℕ) (v : Visible) where
  abbrev B : ℕ → Bool
  B k = bit k w

  -- CLA, then CMA, CIR and CIL, then INC
  abbrev pub marked_ac : ℕ
  marked_ac =
      register (B 11) (B 9 || B 7 || B 6)
      (bit_or (bit_or
      (source (B 9) (complement v.ac))
      (source (B 7) (circulated_right v.e v.ac)))
      (source (B 6) (circulated_left v.e v.ac)))
      (B 5) (up16 v.ac) v.ac

  -- CLE, then CIR, CIL and CME
  abbrev pub marked_e : Bool
  marked_e =
      cond (B 10) false
      (cond (B 7 || B 6 || B 8) (B 7 && bit 0 v.ac || B 6 && bit 15 v.ac || B 8 && not v.e) v.e)

  -- SPA, SNA, SZA and SZE
  abbrev pub register_skip : Bool
  register_skip = B 4 && not (bit 15 v.ac) || B 3 && bit 15 v.ac || B 2 && v.ac == 0 || B 1 && not v.e

  -- with bit 15 down, also HLT
  abbrev pub register_marks : Visible
  register_marks = record {
    ac = marked_ac;
    e = marked_e;
    pc = cond register_skip (up12 v.pc) v.pc;
    ien = v.ien;
    r = v.r;
    s = unless_lowered (B 0) v.s;
    port = v.port;
  }

  -- SKI and SKO
  abbrev pub port_skip : Bool
  port_skip = B 9 && v.port.fgi || B 8 && v.port.fgo

  -- with bit 15 up, also INP, OUT, ION and IOF
  abbrev pub port_marks : Visible
  port_marks = record {
    ac = cond (B 11) (with_character v.ac v.port.inpr) v.ac;
    e = v.e;
    pc = cond port_skip (up12 v.pc) v.pc;
    ien = flip_flop (B 7) (B 6) v.ien;
    r = v.r;
    s = v.s;
    port = record {
      inpr = v.port.inpr;
      outr = cond (B 10) (low8 v.ac) v.port.outr;
      fgi = unless_lowered (B 11) v.port.fgi;
      fgo = unless_lowered (B 10) v.port.fgo;
    };
  }

  -- the group of the word is settled by its bit 15
  abbrev pub marks : Visible
  marks = cond (B 15) port_marks register_marks

-- A row of the table: the clocks of the instruction, and the effect of the word w on a board with PC already past it.
pub record Row : Type 0 where
  pub clocks : ℕ
  pub effect : ℕ → CycleBoard → CycleBoard

abbrev pub AND : Row
AND = record { clocks = 6; effect = λ w b. with_ac (bit_and b.visible.ac (operand w b)) b.visible.e b }

abbrev pub ADD : Row
ADD = record { clocks = 6; effect = λ w b. with_ac (sum16 b.visible.ac (operand w b)) (carry b.visible.ac (operand w b)) b }

abbrev pub LDA : Row
LDA = record { clocks = 6; effect = λ w b. with_ac (operand w b) b.visible.e b }

abbrev pub STA : Row
STA = record { clocks = 5; effect = λ w b. with_word (address b.contents w) b.visible.ac b }

abbrev pub BUN : Row
BUN = record { clocks = 5; effect = λ w b. with_pc (address b.contents w) b }

abbrev pub BSA : Row
BSA = record {
  clocks = 6;
  effect = λ w b. with_pc (up12 (address b.contents w)) (with_word (address b.contents w) b.visible.pc b);
}

-- ISZ tests the new word
abbrev pub ISZ : Row
ISZ = record {
  clocks = 7;
  effect = λ w b.
      with_pc (cond (up16 (operand w b) == 0) (up12 b.visible.pc) b.visible.pc)
      (with_word (address b.contents w) (up16 (operand w b)) b);
}

abbrev pub MARKS : Row
MARKS = record { clocks = 4; effect = λ w b. with_visible (marks w b.visible) b }

-- the row of an opcode
abbrev pub row : ℕ → Row
row d =
    cond (d == 0) AND
    (cond (d == 1) ADD
    (cond (d == 2) LDA
    (cond (d == 3) STA
    (cond (d == 4) BUN
    (cond (d == 5) BSA
    (cond (d == 6) ISZ MARKS))))))

-- the interrupt cycle: address 0 takes PC, PC becomes 1, and IEN and R go down
abbrev pub interrupted : CycleBoard → CycleBoard
interrupted b = with_visible (record {
  ac = b.visible.ac;
  e = b.visible.e;
  pc = 1;
  ien = false;
  r = false;
  s = b.visible.s;
  port = b.visible.port;
}) (with_word 0 b.visible.pc b)
