-- The instructions of opcode 7, at T3, and the interrupt cycle.
use Rattle.std.proofs.Common.{◌≡◌, ℕ, Bool, true, false, cond, not, ◌&&◌, ◌||◌, eqb, refl, arith}
use Rattle.std.proofs.Math.Bool.{or-false}
use lib.Bits.{bit_or, or_zero_r}
use Rattle.machine.specs.declared.registers.Visible.{Visible}
use Rattle.machine.specs.Words.{bit, opcode, low8, up12, with_character}
use Rattle.machine.specs.Beat.{Connection, flagged, beat}
use Rattle.machine.specs.Boards.{ClockBoard, CycleBoard, seen}
use Rattle.machine.specs.Clock.{connection}
use Rattle.machine.specs.Table.{with_visible, with_r, marked_ac, marked_e, register_marks, port_marks}
use Rattle.machine.specs.Cycle.{beaten, cycled}
use Rattle.machine.proofs.Ends.{EndsAfter, mid, last}
use Rattle.machine.proofs.References.{raised-1}

lone-load : (b : Bool) (x y : ℕ) → cond (((b || false) || false) || false) (bit_or (bit_or (bit_or (cond b x 0) 0) 0) 0) y ≡ cond b x y
lone-load b x y = grind (arith, or_zero_r)

lone-out : (b : Bool) (x y : ℕ) → cond b (low8 (cond b x 0)) y ≡ cond b (low8 x) y
lone-out b x y = grind arith

module _ (b : ClockBoard) (ar pc dr w : ℕ) (x : Connection) where
  abbrev ac : ℕ
  ac = b.registers.ac

  abbrev e : Bool
  e = b.registers.e

  abbrev ien : Bool
  ien = b.registers.ien

  -- what the instruction meets
  abbrev pub before : CycleBoard
  before = record {
    visible = record { ac = ac; e = e; pc = pc; ien = ien; r = false; s = true; port = x.port };
    contents = b.contents;
    rule = x.rule;
  }

  -- what is left once the effect has come, with R as the gates raise it
  abbrev pub finished : Visible → CycleBoard
  finished v = beaten 1 (with_r (ien && flagged x.port) (with_visible v before))

  -- what the line meets at the last beat of an input-output instruction
  abbrev told : ℕ → Connection
  told outr = record {
    port = record {
      inpr = x.port.inpr;
      outr = outr;
      fgi = cond (bit 11 w) false x.port.fgi;
      fgo = cond (bit 10 w) false x.port.fgo;
    };
    rule = x.rule;
  }

  pub marks-end : (i : Bool) → opcode w ≡ 7
      → EndsAfter 0 (mid b 3 ar pc dr w i false x b.contents) 4 (finished (cond i (port_marks w before.visible) (register_marks w before.visible)))
  marks-end true h =
      last 7 (mid b 3 ar pc dr w true false x b.contents) h 4 _ refl refl
      (λ j. record {
        visible = record {
          ac = lone-load (bit 11 w) (with_character ac x.port.inpr) ac j;
          e = e;
          pc = cond (bit 9 w && x.port.fgi || bit 8 w && x.port.fgo) (up12 pc) pc;
          ien = cond (bit 7 w) (cond (or-false (bit 6 w) j) (not ien) true) (cond (or-false (bit 6 w) j) false ien);
          r = raised-1 b x j;
          s = true;
          port = (beat (told (lone-out (bit 10 w) ac x.port.outr j))).port;
        };
        contents = b.contents;
        rule = (beat (told (lone-out (bit 10 w) ac x.port.outr j))).rule;
      })
  marks-end false h =
      last 7 (mid b 3 ar pc dr w false false x b.contents) h 4 _ refl refl
      (λ j. record {
        visible = record {
          ac = marked_ac w before.visible;
          e = marked_e w before.visible;
          pc =
              cond (or-false (bit 4 w && not (bit 15 ac) || bit 3 w && bit 15 ac || bit 2 w && eqb ac 0 || bit 1 w && not e) j)
              (up12 pc) pc;
          ien = ien;
          r = raised-1 b x j;
          s = cond (bit 0 w) false true;
          port = (beat x).port;
        };
        contents = b.contents;
        rule = (beat x).rule;
      })

-- the interrupt cycle
pub interrupt-ends : (b : ClockBoard)
    → let c = mid b 0 b.registers.ar b.registers.pc b.registers.dr b.registers.ir b.registers.i true (connection b) b.contents in
    EndsAfter 2 c 3 (cycled (seen c))
interrupt-ends b = (refl, refl, (refl, refl, (refl, refl, refl)))
