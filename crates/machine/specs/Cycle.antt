-- One cycle of the computer that makes whole cycles: k - 1 beats, the effect, one beat. And a run of cycles.
use Rattle.std.specs.Prelude.{ℕ, zero, suc, ◌+◌, ◌-◌, cond, ◌&&◌}
use Rattle.memory.specs.Contents.{fetched}
use Rattle.machine.specs.Words.{opcode, up12}
use Rattle.machine.specs.Beat.{Connection, flagged, beats}
use Rattle.machine.specs.Boards.{CycleBoard}
use Rattle.machine.specs.Table.{row, with_pc, with_r, interrupted}

-- a board after n beats
abbrev pub connection : CycleBoard → Connection
connection b = record { port = b.visible.port; rule = b.rule }

abbrev pub with_connection : Connection → CycleBoard → CycleBoard
with_connection x b = record {
  visible = record {
    ac = b.visible.ac;
    e = b.visible.e;
    pc = b.visible.pc;
    ien = b.visible.ien;
    r = b.visible.r;
    s = b.visible.s;
    port = x.port;
  };
  contents = b.contents;
  rule = x.rule;
}

abbrev pub beaten : ℕ → CycleBoard → CycleBoard
beaten n b = with_connection (beats n (connection b)) b

-- the word at PC
abbrev pub instruction : CycleBoard → ℕ
instruction b = fetched b.contents b.visible.pc

-- The word w of opcode d carried out, on a board with PC past it. R goes up exactly when IEN and a flag are up just before.
abbrev pub executed : ℕ → ℕ → CycleBoard → CycleBoard
executed d w b = with_r (b.visible.ien && flagged b.visible.port) ((row d).effect w b)

-- the clocks of the next cycle, and its effect
abbrev pub clocks : CycleBoard → ℕ
clocks b = cond b.visible.r 3 (row (opcode (instruction b))).clocks

abbrev pub effect : CycleBoard → CycleBoard
effect b =
    cond b.visible.r (interrupted b)
    (executed (opcode (instruction b)) (instruction b) (with_pc (up12 b.visible.pc) b))

-- one cycle
abbrev pub cycled : CycleBoard → CycleBoard
cycled b = beaten 1 (effect (beaten (clocks b - 1) b))

-- A run makes cycles until n are made or S is down. It answers the cycles made and their clocks.
pub record Ran : Type 0 where
  pub cycles : ℕ
  pub clocks : ℕ
  pub after : CycleBoard

abbrev pub ran : ℕ → CycleBoard → Ran
ran zero b = record { cycles = 0; clocks = 0; after = b }
ran (suc n) b =
    let rest = ran n (cycled b) in
    cond b.visible.s
    (record { cycles = suc rest.cycles; clocks = clocks b + rest.clocks; after = rest.after })
    (record { cycles = 0; clocks = 0; after = b })
