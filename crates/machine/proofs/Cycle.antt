-- The clocks of a cycle leave what one cycle leaves.
use Rattle.std.proofs.Common.{◌≡◌, ℕ, zero, suc, ◌-◌, ◌/◌, ◌<◌, ◌≤◌, Bool, true, false, cond, eqb, refl, subst, mod-lt, arith, lit<}
use Rattle.memory.specs.Contents.{fetched}
use Rattle.machine.specs.Words.{bit, opcode, low12, up12}
use Rattle.machine.specs.Beat.{Connection, beats}
use Rattle.machine.specs.Boards.{ClockBoard, CycleBoard, seen}
use Rattle.machine.specs.Table.{address, AND, ADD, LDA, STA, BUN, BSA, ISZ, MARKS, row, with_pc}
use Rattle.machine.specs.Clock.{connection}
use Rattle.machine.specs.Cycle.{clocks, executed, beaten, cycled}
use Rattle.machine.proofs.Ends.{EndsAfter, mid, begun, fetching}
use Rattle.machine.proofs.References.{addressing, raised-2, raised-3, raised-4, and-ends, add-ends, lda-ends, sta-ends, bun-ends, bsa-ends, isz-ends}
use Rattle.machine.proofs.Marks.{marks-end, interrupt-ends}

below : (i : Bool) (x y : ℕ) → cond i (low12 x) (low12 y) < 4096
below i x y = grind arith

module _ (b : ClockBoard) (h : b.registers.pc < 4096) where
  abbrev w : ℕ
  w = fetched b.contents b.registers.pc

  abbrev i : Bool
  i = bit 15 w

  abbrev m : ℕ
  m = address b.contents w

  abbrev pc : ℕ
  pc = up12 b.registers.pc

  abbrev dr : ℕ
  dr = b.registers.dr

  -- the port and its line at T3 and at T4
  abbrev x₃ : Connection
  x₃ = beats 3 (connection b)

  abbrev x₄ : Connection
  x₄ = beats 4 (connection b)

  -- the cycle of the instruction w, with its opcode apart
  abbrev cycled_as : ℕ → CycleBoard
  cycled_as d =
      let t = beaten ((row d).clocks - 1) (seen (begun b)) in
      beaten 1 (executed d w (with_pc pc t))

  by-opcode : (d : ℕ) → d < 8 → opcode w ≡ d → EndsAfter ((row d).clocks - 1) (begun b) (row d).clocks (cycled_as d)
  by-opcode zero f k =
      fetching b 2 6 _ h (addressing b (low12 w) pc dr w 0 x₃ 1 6 i _ k refl (and-ends b m pc dr w i _ _ x₄ k (raised-3 b x₃)))
  by-opcode (suc zero) f k =
      fetching b 2 6 _ h (addressing b (low12 w) pc dr w 1 x₃ 1 6 i _ k refl (add-ends b m pc dr w i _ _ x₄ k (raised-3 b x₃)))
  by-opcode (suc (suc zero)) f k =
      fetching b 2 6 _ h (addressing b (low12 w) pc dr w 2 x₃ 1 6 i _ k refl (lda-ends b m pc dr w i _ _ x₄ k (raised-3 b x₃)))
  by-opcode (suc (suc (suc zero))) f k =
      fetching b 1 5 _ h (addressing b (low12 w) pc dr w 3 x₃ 0 5 i _ k refl (sta-ends b m pc dr w i _ _ x₄ k (raised-2 b x₃)))
  by-opcode (suc (suc (suc (suc zero)))) f k =
      fetching b 1 5 _ h (addressing b (low12 w) pc dr w 4 x₃ 0 5 i _ k refl
      (bun-ends b m pc dr w i _ _ x₄ k (below i (fetched b.contents (low12 w)) w) (raised-2 b x₃)))
  by-opcode (suc (suc (suc (suc (suc zero))))) f k =
      fetching b 2 6 _ h (addressing b (low12 w) pc dr w 5 x₃ 1 6 i _ k refl (bsa-ends b m pc dr w i _ _ x₄ k (raised-3 b x₃)))
  by-opcode (suc (suc (suc (suc (suc (suc zero)))))) f k =
      fetching b 3 7 _ h (addressing b (low12 w) pc dr w 6 x₃ 2 7 i _ k refl (isz-ends b m pc dr w i _ _ x₄ k (raised-4 b x₃)))
  by-opcode (suc (suc (suc (suc (suc (suc (suc zero))))))) f k =
      fetching b 0 4 _ h (marks-end b (low12 w) pc dr w x₃ i k)
  by-opcode (suc (suc (suc (suc (suc (suc (suc (suc d)))))))) f k = absurd (omega arith)

-- the board with SC, R and S as they are known to be
abbrev pub known : ClockBoard → Bool → ClockBoard
known b r =
    mid b 0 b.registers.ar b.registers.pc b.registers.dr b.registers.ir b.registers.i r (connection b) b.contents

pub is_known : (b : ClockBoard) (r : Bool) → b.registers.sc ≡ 0 → b.registers.s ≡ true → b.registers.r ≡ r → known b r ≡ b
is_known b r p q u = rw (← u, ← p, ← q)

abbrev pub Agrees : ClockBoard → Type 0
Agrees b = EndsAfter (clocks (seen b) - 1) b (clocks (seen b)) (cycled (seen b))

pub cycle-agrees : (b : ClockBoard) → b.registers.sc ≡ 0 → b.registers.s ≡ true → b.registers.pc < 4096 → Agrees b
cycle-agrees b p q h = by-r b.registers.r refl
  where
    by-r : (r : Bool) → b.registers.r ≡ r → Agrees b
    by-r true u = subst Agrees (is_known b true p q u) (interrupt-ends b)
    by-r false u =
        subst Agrees (is_known b false p q u)
        (by-opcode b h (opcode (fetched b.contents b.registers.pc)) (mod-lt (fetched b.contents b.registers.pc / 4096) (lit< tt)) refl)

-- a cycle has some clocks, and at most seven
abbrev SomeClocks : ℕ → Type 0
SomeClocks k = (j : ℕ) × (k ≡ suc j) × (k ≤ 7)

between : (r a b c d e f g : Bool)
    → let k = cond r 3 (cond a AND (cond b ADD (cond c LDA (cond d STA (cond e BUN (cond f BSA (cond g ISZ MARKS))))))).clocks in
    (0 < k) × (k ≤ 7)
between r a b c d e f g = grind arith

pub some-clocks : (t : CycleBoard) → SomeClocks (clocks t)
some-clocks t =
    let d = opcode (fetched t.contents t.visible.pc) in
    let h = between t.visible.r (eqb d 0) (eqb d 1) (eqb d 2) (eqb d 3) (eqb d 4) (eqb d 5) (eqb d 6) in
    (clocks t - 1, omega (arith, h), h.1)
