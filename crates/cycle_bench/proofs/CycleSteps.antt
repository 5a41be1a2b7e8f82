-- One cycle, put together from its parts.
use Rattle.std.proofs.Common.{◌≡◌, ℕ, ◌-◌, Bool, true, false, cond, sym, ap, ◌∙◌, subst}
use Rattle.machine.specs.Words.{bit, opcode, up12}
use Rattle.machine.specs.Boards.{CycleBoard}
use Rattle.machine.specs.Table.{row, with_visible, with_pc, port_marks, register_marks, interrupted, MARKS}
use Rattle.machine.specs.Cycle.{instruction, beaten, executed, clocks, effect, cycled}
use Rattle.cycle_bench.specs.CycleComputers.{readied, CarriedOut, Executed, BeforeLastBeat}

-- the board u stands ready for the row d, and o is d
pub when-ready : (d o w k : ℕ) (b u z : CycleBoard) → o ≡ d → u ≡ readied ((row d).clocks - 1) b → CarriedOut (row d) w u k z
    → CarriedOut (row o) w (readied ((row o).clocks - 1) b) k z
when-ready d o w k b u z e h done =
    subst (λ (i : ℕ). CarriedOut (row i) w (readied ((row i).clocks - 1) b) k z) (sym e)
    (subst (λ (x : CycleBoard). CarriedOut (row d) w x k z) h done)

-- w is the word at PC
pub by_word : (b z : CycleBoard) (w k : ℕ) → w ≡ instruction b
    → CarriedOut (row (opcode w)) w (readied ((row (opcode w)).clocks - 1) b) k z → Executed b k z
by_word b z w k e h = subst (λ (i : ℕ). CarriedOut (row (opcode i)) i (readied ((row (opcode i)).clocks - 1) b) k z) e h

-- the marks, by bit 15
pub port-done : (u z : CycleBoard) (w k : ℕ) → bit 15 w ≡ true → k ≡ 4 → z ≡ with_visible (port_marks w u.visible) u → CarriedOut MARKS w u k z
port-done u z w k i e h = record { answer = e; board = rw i h }

pub register-done : (u z : CycleBoard) (w k : ℕ) → bit 15 w ≡ false → k ≡ 4 → z ≡ with_visible (register_marks w u.visible) u
    → CarriedOut MARKS w u k z
register-done u z w k i e h = record { answer = e; board = rw i h }

-- all but the last beat, by R
abbrev so_far : CycleBoard → Bool → CycleBoard
so_far b r =
    let w = instruction b in
    let u = beaten (cond r 3 (row (opcode w)).clocks - 1) b in
    cond r (interrupted u) (executed (opcode w) w (with_pc (up12 b.visible.pc) u))

by-r : (b : CycleBoard) (r : Bool) → b.visible.r ≡ r → effect (beaten (clocks b - 1) b) ≡ so_far b r
by-r b r q = ap (so_far b) q

clocks-by-r : (b : CycleBoard) (r : Bool) → b.visible.r ≡ r → clocks b ≡ cond r 3 (row (opcode (instruction b))).clocks
clocks-by-r b r q = ap (λ (x : Bool). cond x 3 (row (opcode (instruction b))).clocks) q

pub by-interrupt : (b z : CycleBoard) (k : ℕ) → b.visible.r ≡ true → k ≡ 3 → z ≡ interrupted (beaten 2 b) → BeforeLastBeat b k z
by-interrupt b z k q e h = record { answer = e ∙ sym (clocks-by-r b true q); board = h ∙ sym (by-r b true q) }

-- and the last beat
pub cycle-is : (b u z : CycleBoard) (k : ℕ) → BeforeLastBeat b k u → z ≡ beaten 1 u → z ≡ cycled b
cycle-is b u z k h e = e ∙ ap (beaten 1) h.board
