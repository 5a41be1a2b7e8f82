-- The memory-reference instructions, from T3 on.
use Rattle.std.proofs.Common.{◌≡◌, ℕ, suc, ◌+◌, ◌<◌, Bool, true, false, cond, ◌&&◌, ◌||◌, eqb, sym, refl, ap, ◌∙◌, subst, mod-lt, mod-eq_of_lt, arith, lit<}
use Rattle.std.proofs.Math.Bool.{or-false}
use lib.Bits.{bit_and, bit_or, or_zero_r}
use Rattle.memory.specs.Contents.{Contents, fetched, stored}
use Rattle.machine.specs.Words.{opcode, low12, up12, up16, sum16, carry}
use Rattle.machine.specs.Beat.{Connection, flagged, beat, beats}
use Rattle.machine.specs.Boards.{ClockBoard, CycleBoard}
use Rattle.machine.specs.Clock.{moved_at, after_beat, clocks_ended_at}
use Rattle.machine.proofs.Beat.{keeps-flag}
use Rattle.machine.proofs.Ends.{EndsAfter, mid, next, last, raise, addressed}

-- R raised at several clocks is R raised at the last of them
settle : (b : ClockBoard) (x : Connection) (r : Bool) → raise b (beat x) (raise b x r) ≡ raise b (beat x) r
settle b x r = grind (arith, keeps-flag)

pub raised-1 : (b : ClockBoard) (x : Connection) → raise b x false ≡ (b.registers.ien && flagged x.port)
raised-1 b x = grind arith

pub raised-2 : (b : ClockBoard) (x : Connection) → raise b (beat x) (raise b x false) ≡ (b.registers.ien && flagged (beat x).port)
raised-2 b x = settle b x false ∙ raised-1 b (beat x)

pub raised-3 : (b : ClockBoard) (x : Connection)
    → raise b (beats 2 x) (raise b (beat x) (raise b x false)) ≡ (b.registers.ien && flagged (beats 2 x).port)
raised-3 b x = ap (raise b (beats 2 x)) (settle b x false) ∙ raised-2 b (beat x)

pub raised-4 : (b : ClockBoard) (x : Connection)
    → raise b (beats 3 x) (raise b (beats 2 x) (raise b (beat x) (raise b x false))) ≡ (b.registers.ien && flagged (beats 3 x).port)
raised-4 b x = ap (λ (r : Bool). raise b (beats 3 x) (raise b (beats 2 x) r)) (settle b x false) ∙ raised-3 b (beat x)

-- a lone source, with nothing else selected after it
or-zeros-4 : (x : ℕ) → bit_or (bit_or (bit_or (bit_or x 0) 0) 0) 0 ≡ x
or-zeros-4 x = simp or_zero_r

or-zeros-5 : (x : ℕ) → bit_or (bit_or (bit_or (bit_or (bit_or x 0) 0) 0) 0) 0 ≡ x
or-zeros-5 x = simp or_zero_r

or-zeros-6 : (x : ℕ) → bit_or (bit_or (bit_or (bit_or (bit_or (bit_or x 0) 0) 0) 0) 0) 0 ≡ x
or-zeros-6 x = simp or_zero_r

or-falses : (b : Bool) → (((b || false) || false) || false) ≡ b
or-falses b = simp or-false

low12-up12 : (m : ℕ) → low12 (up12 m) ≡ up12 m
low12-up12 m = mod-eq_of_lt (mod-lt (m + 1) (lit< tt))

skipped : (b : Bool) (x y : ℕ) → cond ((b || false) || false) x y ≡ cond b x y
skipped b x y = simp or-false

-- T3: the address
module _ (b : ClockBoard) (ar pc dr w d : ℕ) (x : Connection) where
  abbrev at_3 : Bool → ClockBoard
  at_3 i = mid b 3 ar pc dr w i false x b.contents

  address_is : (i : Bool) → eqb d 7 ≡ false → after_beat (moved_at 3 d (at_3 i)) ≡ addressed b ar pc dr w i x
  address_is true h = rw h
  address_is false h = rw h

  address-goes : (i : Bool) → eqb d 7 ≡ false → clocks_ended_at 3 d (at_3 i).registers ≡ 0
  address-goes true h = rw h
  address-goes false h = rw h

  address-runs : (i : Bool) → eqb d 7 ≡ false → (after_beat (moved_at 3 d (at_3 i))).registers.s ≡ true
  address-runs true h = rw h
  address-runs false h = rw h

  pub addressing : (n k : ℕ) (i : Bool) (t : CycleBoard) → opcode w ≡ d → eqb d 7 ≡ false
      → EndsAfter n (addressed b ar pc dr w i x) k t → EndsAfter (suc n) (at_3 i) k t
  addressing n k i t h e y =
      next d (at_3 i) h n k t (address-goes i e) (address-runs i e)
      (subst (λ (z : ClockBoard). EndsAfter n z k t) (sym (address_is i e)) y)

-- what is left after the last clock, with S still up
abbrev pub left : ClockBoard → (ac pc : ℕ) (e r : Bool) → Connection → Contents → CycleBoard
left b ac pc e r x contents = record {
  visible = record { ac = ac; e = e; pc = pc; ien = b.registers.ien; r = r; s = true; port = (beat x).port };
  contents = contents;
  rule = (beat x).rule;
}

module _ (b : ClockBoard) (m pc dr w : ℕ) (i r z : Bool) (x : Connection) where
  abbrev ac : ℕ
  ac = b.registers.ac

  abbrev e : Bool
  e = b.registers.e

  abbrev operand : ℕ
  operand = fetched b.contents m

  abbrev at_4 : ClockBoard
  at_4 = mid b 4 m pc dr w i r x b.contents

  -- at T4 the word is read
  abbrev read : ClockBoard
  read = mid b 5 m pc operand w i (raise b x r) (beat x) b.contents

  pub and-ends : opcode w ≡ 0 → raise b (beat x) (raise b x r) ≡ z
      → EndsAfter 1 at_4 6 (left b (bit_and ac operand) pc e z (beat x) b.contents)
  and-ends h q =
      next 0 at_4 h 0 6 _ refl refl
      (last 0 read h 6 _ refl refl
      (λ j. left b (or-zeros-6 (bit_and ac operand) j) pc e (q j) (beat x) b.contents))

  pub add-ends : opcode w ≡ 1 → raise b (beat x) (raise b x r) ≡ z
      → EndsAfter 1 at_4 6 (left b (sum16 ac operand) pc (carry ac operand) z (beat x) b.contents)
  add-ends h q =
      next 1 at_4 h 0 6 _ refl refl
      (last 1 read h 6 _ refl refl
      (λ j. left b (or-zeros-5 (sum16 ac operand) j) pc (or-falses (carry ac operand) j) (q j) (beat x) b.contents))

  pub lda-ends : opcode w ≡ 2 → raise b (beat x) (raise b x r) ≡ z
      → EndsAfter 1 at_4 6 (left b operand pc e z (beat x) b.contents)
  lda-ends h q =
      next 2 at_4 h 0 6 _ refl refl
      (last 2 read h 6 _ refl refl
      (λ j. left b (or-zeros-4 operand j) pc e (q j) (beat x) b.contents))

  pub sta-ends : opcode w ≡ 3 → raise b x r ≡ z
      → EndsAfter 0 at_4 5 (left b ac pc e z x (stored b.contents m ac))
  sta-ends h q = last 3 at_4 h 5 _ refl refl (λ j. left b ac pc e (q j) x (stored b.contents m ac))

  pub bun-ends : opcode w ≡ 4 → m < 4096 → raise b x r ≡ z
      → EndsAfter 0 at_4 5 (left b ac m e z x b.contents)
  bun-ends h f q = last 4 at_4 h 5 _ refl refl (λ j. left b ac (mod-eq_of_lt f j) e (q j) x b.contents)

  pub bsa-ends : opcode w ≡ 5 → raise b (beat x) (raise b x r) ≡ z
      → EndsAfter 1 at_4 6 (left b ac (up12 m) e z (beat x) (stored b.contents m pc))
  bsa-ends h q =
      next 5 at_4 h 0 6 _ refl refl
      (last 5 (mid b 5 (up12 m) pc dr w i (raise b x r) (beat x) (stored b.contents m pc)) h 6 _ refl refl
      (λ j. left b ac (low12-up12 m j) e (q j) (beat x) (stored b.contents m pc)))

  pub isz-ends : opcode w ≡ 6 → raise b (beats 2 x) (raise b (beat x) (raise b x r)) ≡ z
      → EndsAfter 2 at_4 7 (left b ac (cond (eqb (up16 operand) 0) (up12 pc) pc) e z (beats 2 x) (stored b.contents m (up16 operand)))
  isz-ends h q =
      next 6 at_4 h 1 7 _ refl refl
      (next 6 read h 0 7 _ refl refl
      (last 6 (mid b 6 m pc (up16 operand) w i (raise b (beat x) (raise b x r)) (beats 2 x) b.contents) h 7 _ refl refl
      (λ j. left b ac (skipped (eqb (up16 operand) 0) (up12 pc) pc j) e (q j) (beats 2 x) (stored b.contents m (up16 operand)))))
