-- The clocks at T3 and T5 that do not compute alone: the sources of AC are joined by an or of many words.
use Rattle.std.proofs.Common.{◌≡◌, ℕ, Bool, true, false, cond, not, ◌&&◌, ◌||◌, sym, refl, ap, ◌∙◌, subst, ap₂}
use lib.Bits.{bit_and, bit_or, or_zero_r}
use Rattle.memory.specs.Contents.{Contents}
use Rattle.line.specs.Rules.{Rule}
use Rattle.machine.specs.declared.registers.Registers.{Registers}
use Rattle.machine.specs.Words.{bit, opcode, low8, up12, sum16, carry, with_character}
use Rattle.machine.specs.Clock.{moved_at, transferred_at}
use Rattle.clock_bench.specs.ClockComputers.{Moves, with_registers, raised, loaded, port_marked}

or-false : (b : Bool) → b ≡ (b || false)
or-false true = refl
or-false false = refl

-- T5, where the word x on the bus is not taken
module _ (c : Registers) (x : ℕ) where
  with-sources : (ac ac' : ℕ) (e e' : Bool) → ac ≡ ac' → e ≡ e' → loaded ac e c ≡ loaded ac' e' c
  with-sources ac ac' e e' h k = ap₂ (λ (a : ℕ) (f : Bool). loaded a f c) h k

  and-5 : loaded (bit_and c.ac c.dr) c.e c ≡ transferred_at 5 0 c x
  and-5 = with-sources (bit_and c.ac c.dr) _ c.e c.e (simp or_zero_r) refl

  add-5 : loaded (sum16 c.ac c.dr) (carry c.ac c.dr) c ≡ transferred_at 5 1 c x
  add-5 =
      let b = carry c.ac c.dr in
      with-sources (sum16 c.ac c.dr) _ b _ (simp or_zero_r) (or-false b ∙ or-false (b || false) ∙ or-false ((b || false) || false))

  lda-5 : loaded c.dr c.e c ≡ transferred_at 5 2 c x
  lda-5 = with-sources c.dr _ c.e c.e (simp or_zero_r) refl

-- c with I as it is known to be
abbrev with_i : Registers → Bool → Registers
with_i c i = record {
  ar = c.ar;
  pc = c.pc;
  dr = c.dr;
  ac = c.ac;
  ir = c.ir;
  tr = c.tr;
  sc = c.sc;
  e = c.e;
  i = i;
  r = c.r;
  s = c.s;
  ien = c.ien;
  port = c.port;
}

lone-load : (b : Bool) (x y : ℕ) → cond b x y ≡ cond (((b || false) || false) || false) (bit_or (bit_or (bit_or (cond b x 0) 0) 0) 0) y
lone-load true x y = simp or_zero_r
lone-load false x y = refl

lone-out : (b : Bool) (x y : ℕ) → cond b (low8 x) y ≡ cond b (low8 (cond b x 0)) y
lone-out true x y = refl
lone-out false x y = refl

module _ (c : Registers) (contents : Contents) (rule : Rule) where
  abbrev w : ℕ
  w = c.ir

  abbrev At3 : (Registers → Registers) → Registers → Type 0
  At3 f x = f x ≡ (moved_at 3 7 (with_registers x contents rule)).registers

  port-3 : c.i ≡ true → At3 port_marked c
  port-3 h =
      subst (At3 port_marked) (ap (with_i c) (sym h))
      (λ j. record {
        ar = c.ar;
        pc = cond (bit 9 w && c.port.fgi || bit 8 w && c.port.fgo) (up12 c.pc) c.pc;
        dr = c.dr;
        ac = lone-load (bit 11 w) (with_character c.ac c.port.inpr) c.ac j;
        ir = w;
        tr = c.tr;
        sc = 0;
        e = c.e;
        i = true;
        r = raised c;
        s = c.s;
        ien = cond (bit 7 w) (cond (or-false (bit 6 w) j) (not c.ien) true) (cond (or-false (bit 6 w) j) false c.ien);
        port = record {
          inpr = c.port.inpr;
          outr = lone-out (bit 10 w) c.ac c.port.outr j;
          fgi = cond (bit 11 w) false c.port.fgi;
          fgo = cond (bit 10 w) false c.port.fgo;
        };
      })

-- a clock without a write at SC t, where the opcode is known to be d
module _ (c next : Registers) (contents : Contents) where
  at-opcode : (t d : ℕ) → opcode c.ir ≡ d
      → ((rule : Rule) → with_registers next contents rule ≡ moved_at t d (with_registers c contents rule)) → Moves t c contents next contents
  at-opcode t d h x rule =
      subst (λ (o : ℕ). with_registers next contents rule ≡ moved_at t o (with_registers c contents rule)) (sym h) (x rule)

  abbrev only : {y : Registers} (rule : Rule) → next ≡ y → with_registers next contents rule ≡ with_registers y contents rule
  only rule h = ap (λ (y : Registers). with_registers y contents rule) h

  pub and-moves : opcode c.ir ≡ 0 → next ≡ loaded (bit_and c.ac c.dr) c.e c → Moves 5 c contents next contents
  and-moves h e = at-opcode 5 0 h (λ rule. only rule (e ∙ and-5 c 0))

  pub add-moves : opcode c.ir ≡ 1 → next ≡ loaded (sum16 c.ac c.dr) (carry c.ac c.dr) c → Moves 5 c contents next contents
  add-moves h e = at-opcode 5 1 h (λ rule. only rule (e ∙ add-5 c 0))

  pub lda-moves : opcode c.ir ≡ 2 → next ≡ loaded c.dr c.e c → Moves 5 c contents next contents
  lda-moves h e = at-opcode 5 2 h (λ rule. only rule (e ∙ lda-5 c 0))

  pub port-moves : opcode c.ir ≡ 7 → c.i ≡ true → next ≡ port_marked c → Moves 3 c contents next contents
  port-moves h i e = at-opcode 3 7 h (λ rule. only rule (e ∙ port-3 c contents rule i))
