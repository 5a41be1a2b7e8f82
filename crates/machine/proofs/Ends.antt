-- The clocks of a cycle, one by one, on a board that is inside the cycle.
use Rattle.std.proofs.Common.{◌≡◌, ℕ, zero, suc, ◌<◌, Bool, true, false, cond, ◌&&◌, sym, refl, subst, mod-eq_of_lt}
use Rattle.memory.specs.Contents.{Contents, fetched}
use Rattle.machine.specs.Words.{bit, opcode, low12, up12}
use Rattle.machine.specs.Beat.{Connection, flagged, beat, beats}
use Rattle.machine.specs.Boards.{ClockBoard, CycleBoard, seen}
use Rattle.machine.specs.Clock.{connection, moved_at, after_beat, clocked, clocks_ended_at, clocks_ended}

-- From b, n clocks end no cycle and keep S up, and the clock after them ends one: it answers k and leaves what t shows.
abbrev pub EndsAfter : ℕ → ClockBoard → ℕ → CycleBoard → Type 0
EndsAfter zero b k t = (clocks_ended b.registers ≡ k) × ((clocked b).registers.sc ≡ 0) × (seen (clocked b) ≡ t)
EndsAfter (suc n) b k t = (clocks_ended b.registers ≡ 0) × ((clocked b).registers.s ≡ true) × EndsAfter n (clocked b) k t

-- b inside a cycle: what an instruction may change before its last clock
abbrev pub mid : ClockBoard → (sc ar pc dr ir : ℕ) (i r : Bool) → Connection → Contents → ClockBoard
mid b sc ar pc dr ir i r x contents = record {
  registers = record {
    ar = ar;
    pc = pc;
    dr = dr;
    ac = b.registers.ac;
    ir = ir;
    tr = b.registers.tr;
    sc = sc;
    e = b.registers.e;
    i = i;
    r = r;
    s = true;
    ien = b.registers.ien;
    port = x.port;
  };
  contents = contents;
  rule = x.rule;
}

-- one clock at a known opcode
module _ (d : ℕ) (b : ClockBoard) (h : opcode b.registers.ir ≡ d) where
  pub next : (n k : ℕ) (t : CycleBoard) → clocks_ended_at b.registers.sc d b.registers ≡ 0
      → (after_beat (moved_at b.registers.sc d b)).registers.s ≡ true → EndsAfter n (after_beat (moved_at b.registers.sc d b)) k t
      → EndsAfter (suc n) b k t
  next n k t x y z =
      subst (λ (o : ℕ). (clocks_ended_at b.registers.sc o b.registers ≡ 0) × ((after_beat (moved_at b.registers.sc o b)).registers.s ≡ true)
      × EndsAfter n (after_beat (moved_at b.registers.sc o b)) k t)
      (sym h) (x, y, z)

  pub last : (k : ℕ) (t : CycleBoard) → clocks_ended_at b.registers.sc d b.registers ≡ k
      → (after_beat (moved_at b.registers.sc d b)).registers.sc ≡ 0 → seen (after_beat (moved_at b.registers.sc d b)) ≡ t → EndsAfter 0 b k t
  last k t x y z =
      subst (λ (o : ℕ). (clocks_ended_at b.registers.sc o b.registers ≡ k) × ((after_beat (moved_at b.registers.sc o b)).registers.sc ≡ 0)
      × (seen (after_beat (moved_at b.registers.sc o b)) ≡ t))
      (sym h) (x, y, z)

-- the fetch: T0, T1 and T2 with R down
abbrev pub begun : ClockBoard → ClockBoard
begun b = mid b 0 b.registers.ar b.registers.pc b.registers.dr b.registers.ir b.registers.i false (connection b) b.contents

abbrev pub fetched_word : ClockBoard → ℕ → ClockBoard
fetched_word b w =
    mid b 3 (low12 w) (up12 b.registers.pc) b.registers.dr w (bit 15 w) false (beats 3 (connection b)) b.contents

pub fetching : (b : ClockBoard) (n k : ℕ) (t : CycleBoard) → b.registers.pc < 4096
    → EndsAfter n (fetched_word b (fetched b.contents b.registers.pc)) k t → EndsAfter (suc (suc (suc n))) (begun b) k t
fetching b n k t h x = (
  refl,
  refl,
  (
    refl,
    refl,
    (
      refl,
      refl,
      subst (λ (a : ℕ). EndsAfter n (fetched_word b (fetched b.contents a)) k t) (sym (mod-eq_of_lt h)) x,
    ),
  ),
)

-- R is raised, once past T2
abbrev pub raise : ClockBoard → Connection → Bool → Bool
raise b x r = cond (b.registers.ien && flagged x.port) true r

-- T3 of a memory reference: the address
abbrev pub addressed : ClockBoard → (ar pc dr w : ℕ) → Bool → Connection → ClockBoard
addressed b ar pc dr w i x =
    mid b 4 (cond i (low12 (fetched b.contents ar)) ar) pc dr w i (raise b x false) (beat x) b.contents
