-- Every call keeps the registers of the clocked computer sound.
use Rattle.std.proofs.Common.{◌≡◌, ℕ, zero, suc, ◌+◌, ◌/◌, ◌<◌, ◌≤◌, Bool, true, false, cond, ◌&&◌, List, [], ◌∷◌, sym, refl, subst, inl, inr, mod-lt, arith, rules, lit<, lit≤}
use Rattle.std.proofs.lemmas.Bool.{ne_eqb, cases_eq, or_left, or_right, cond-true}
use Rattle.memory.specs.Contents.{Contents, fetched}
use Rattle.machine.specs.declared.registers.Registers.{Registers}
use Rattle.machine.specs.declared.call.Call.{Call}
use Rattle.machine.specs.Words.{opcode, low12, up12}
use Rattle.machine.specs.Boards.{ClockBoard, new_clock_board, new_registers, reaches_t5, Sound}
use Rattle.machine.specs.Gates.{r, bus, ar_load, ar_clear, ar_increment, pc_load, pc_clear, pc_increment, skip, sc_clear, T, B}
use Rattle.machine.specs.Parts.{register}
use Rattle.machine.specs.Clock.{transferred_at, transferred, clocked}
use Rattle.machine.specs.Calls.{with_panel, on_clocked}
use Rattle.machine.specs.Lists.{after_all}
use Rattle.machine.specs.Laws.{InvariantKept}
use Rattle.machine.proofs.Calls.{by-call}

-- where SC may stand
record Reached (sc d : ℕ) : Type 0 where
  sc_fits : sc ≤ 6
  at_four : sc ≡ 4 → d < 7
  at_five : sc ≡ 5 → reaches_t5 d ≡ true
  at_six : sc ≡ 6 → d ≡ 6

-- up to T3 with any opcode
soon : (t d : ℕ) → t ≤ 3 → Reached t d
soon t d h = grind arith

at-2 : (b : Bool) (d : ℕ) → Reached (cond b 0 3) d
at-2 b d = grind arith

at_3 : (d : ℕ) (c : Registers) → d < 8 → Reached (cond (sc_clear 3 d c) 0 4) d
at_3 d c h =
    elim (cases_eq d 7) [
      | inl e ↦ subst (λ (x : ℕ). Reached (cond (sc_clear 3 x c) 0 4) x) (sym e) (by-i c.i refl)
      | inr n ↦ rw (ne_eqb d 7 n) (grind arith)
    ]
  where
    by-i : (i : Bool) → c.i ≡ i → Reached (cond (sc_clear 3 7 c) 0 4) 7
    by-i true e = rw e (soon 0 7 (lit≤ tt))
    by-i false e = rw e (soon 0 7 (lit≤ tt))

-- T4 goes on with opcodes 0, 1, 2, 5 and 6
goes-to-5 : (d : ℕ) → reaches_t5 d ≡ true → Reached 5 d
goes-to-5 d e = grind arith

at_4 : (d : ℕ) (c : Registers) → d < 7 → Reached (cond (sc_clear 4 d c) 0 5) d
at_4 zero c h = goes-to-5 0 refl
at_4 (suc zero) c h = goes-to-5 1 refl
at_4 (suc (suc zero)) c h = goes-to-5 2 refl
at_4 (suc (suc (suc zero))) c h = soon 0 3 (lit≤ tt)
at_4 (suc (suc (suc (suc zero)))) c h = soon 0 4 (lit≤ tt)
at_4 (suc (suc (suc (suc (suc zero))))) c h = goes-to-5 5 refl
at_4 (suc (suc (suc (suc (suc (suc zero)))))) c h = goes-to-5 6 refl
at_4 (suc (suc (suc (suc (suc (suc (suc d))))))) c h = absurd (omega arith)

-- T5 goes on with opcode 6
at_5 : (d : ℕ) (c : Registers) → d < 8 → reaches_t5 d ≡ true → Reached (cond (sc_clear 5 d c) 0 6) d
at_5 zero c h e = soon 0 0 (lit≤ tt)
at_5 (suc zero) c h e = soon 0 1 (lit≤ tt)
at_5 (suc (suc zero)) c h e = soon 0 2 (lit≤ tt)
at_5 (suc (suc (suc zero))) c h e = cc
at_5 (suc (suc (suc (suc zero)))) c h e = cc
at_5 (suc (suc (suc (suc (suc zero))))) c h e = soon 0 5 (lit≤ tt)
at_5 (suc (suc (suc (suc (suc (suc zero)))))) c h e = grind arith
at_5 (suc (suc (suc (suc (suc (suc (suc zero))))))) c h e = cc
at_5 (suc (suc (suc (suc (suc (suc (suc (suc d)))))))) c h e = absurd (omega arith)

at-6 : (d : ℕ) (c : Registers) → d ≡ 6 → Reached (cond (sc_clear 6 d c) 0 7) d
at-6 d c h = subst (λ (x : ℕ). Reached (cond (sc_clear 6 x c) 0 7) x) (sym h) (soon 0 6 (lit≤ tt))

-- IR is loaded at T1 alone
next-reached : (t d : ℕ) (c : Registers) (x : ℕ) → d < 8 → opcode c.ir ≡ d → Reached t d
    → Reached (transferred_at t d c x).sc (opcode (transferred_at t d c x).ir)
next-reached zero d c x b h k = soon 1 (opcode c.ir) (lit≤ tt)
next-reached (suc zero) d c x b h k = soon 2 (opcode (transferred_at 1 d c x).ir) (lit≤ tt)
next-reached (suc (suc zero)) d c x b h k = at-2 (sc_clear 2 d c) (opcode c.ir)
next-reached (suc (suc (suc zero))) d c x b h k = rw h (at_3 d c b)
next-reached (suc (suc (suc (suc zero)))) d c x b h k = rw h (at_4 d c (k.at_four refl))
next-reached (suc (suc (suc (suc (suc zero))))) d c x b h k = rw h (at_5 d c b (k.at_five refl))
next-reached (suc (suc (suc (suc (suc (suc zero)))))) d c x b h k = rw h (at-6 d c (k.at_six refl))
next-reached (suc (suc (suc (suc (suc (suc (suc t))))))) d c x b h k = absurd (omega (arith, k.sc_fits))

-- what a register takes is within its bound
register-below : (a b : Bool) (x : ℕ) (i : Bool) (y z n : ℕ) → 0 < n → x < n → y < n → z < n → register a b x i y z < n
register-below a b x i y z n h p q r = grind arith

-- only a register-reference clock lowers S, and it ends a cycle
lowered : (x b s : Bool) → s ≡ true → cond (x && b) false s ≡ false → x ≡ true
lowered x b s e h = grind arith

module _ (c : Registers) (x : ℕ) where
  abbrev t : ℕ
  t = c.sc

  abbrev d : ℕ
  d = opcode c.ir

  next-ar-fits : c.ar < 4096 → (transferred_at t d c x).ar < 4096
  next-ar-fits h =
      register-below (ar_clear t d c) (ar_load t d c) (low12 x) (ar_increment t d c) (up12 c.ar) c.ar 4096
      (lit< tt) (mod-lt x (lit< tt)) (mod-lt (c.ar + 1) (lit< tt)) h

  pub next-pc-fits : c.pc < 4096 → (transferred_at t d c x).pc < 4096
  next-pc-fits h =
      register-below (pc_clear t d c) (pc_load t d c) (low12 x) (pc_increment t d c (skip t d c)) (up12 c.pc) c.pc 4096
      (lit< tt) (mod-lt x (lit< tt)) (mod-lt (c.pc + 1) (lit< tt)) h

  next-rest : c.s ≡ true → (transferred_at t d c x).s ≡ false → (transferred_at t d c x).sc ≡ 0
  next-rest e h =
      let q : r t d c ≡ true = lowered (r t d c) (B t d c 0) c.s e h in
      let k : sc_clear t d c ≡ true = or_left _ _ (or_left _ _ (or_left _ _ (or_left _ _ (or_right (T t d c 2 && c.r) (r t d c) q)))) in
      cond-true (sc_clear t d c) 0 (t + 1) k

  -- the transfers keep the registers sound, whatever stands on the bus
  pub bus-sound : c.s ≡ true → Sound c → Sound (transferred_at t d c x)
  bus-sound e h =
      let k = next-reached t d c x (mod-lt (c.ir / 4096) (lit< tt)) refl
      (search rules) in
      record {
        ar_fits = next-ar-fits h.ar_fits;
        pc_fits = next-pc-fits h.pc_fits;
        sc_fits = k.sc_fits;
        at_rest = next-rest e;
        at_four = k.at_four;
        at_five = k.at_five;
        at_six = k.at_six;
      }

pub transfers-sound : (c : Registers) (word : ℕ) → c.s ≡ true → Sound c → Sound (transferred c word)
transfers-sound c word e h = bus-sound c (bus c.sc (opcode c.ir) c word) e h

pub clock-sound : (b : ClockBoard) → b.registers.s ≡ true → Sound b.registers → Sound (clocked b).registers
clock-sound b e h =
    let k = transfers-sound b.registers (fetched b.contents b.registers.ar) e h in
    search rules

-- a call keeps them sound
pub panel-sound : (b : ClockBoard) (pc : ℕ) (s : Bool) (contents : Contents) → b.registers.s ≡ false
    → (b.registers.pc < 4096 → pc < 4096) → Sound b.registers → Sound (with_panel pc s contents b).registers
panel-sound b pc s contents f p h = grind arith

pub call-sound : (x : Call) (b : ClockBoard) → Sound b.registers → Sound (on_clocked x b).after.registers
call-sound x b h =
    by-call x b (λ now c. Sound c.registers) h (λ e. clock-sound b e h) (λ pc s contents f p. panel-sound b pc s contents f p h)

pub all_sound : (xs : List Call) (b : ClockBoard) → Sound b.registers → Sound (after_all on_clocked xs b).registers
all_sound [] b h = h
all_sound (x ∷ xs) b h = all_sound xs (on_clocked x b).after (call-sound x b h)

pub new-sound : Sound new_registers
new-sound = grind arith

pub invariant-kept : InvariantKept
invariant-kept contents rule calls = all_sound calls (new_clock_board contents rule) new-sound
