-- The transfers of one clock, put together from the timing signals.
use Rattle.std.proofs.Common.{◌≡◌, ℕ, ◌+◌, Bool, true, false, cond, eqb, [], sym, refl, ap, ◌∙◌, subst, arith}
use Rattle.std.proofs.lemmas.Bool.{ne_eqb}
use Rattle.memory.specs.Contents.{Contents, fetched}
use Rattle.line.specs.Rules.{Rule}
use Rattle.machine.specs.declared.registers.Registers.{Registers}
use Rattle.machine.specs.Words.{opcode}
use Rattle.machine.specs.Boards.{ClockBoard, Sound}
use Rattle.machine.specs.Gates.{sc_clear}
use Rattle.machine.specs.Clock.{moved, clocks_ended}
use Rattle.machine.proofs.Invariant.{transfers-sound}
use Rattle.clock_bench.specs.declared.clock_computer.ClockComputer.{ClockComputer}
use Rattle.clock_bench.specs.ClockComputers.{Moves, registers_of, with_registers}

-- the registers of a computer are sound
pub sound : (m : ClockComputer) → Sound (registers_of m)
sound m = record {
  ar_fits = m.ar_fits;
  pc_fits = m.pc_fits;
  sc_fits = m.sc_fits;
  at_rest = m.at_rest;
  at_four = m.at_four;
  at_five = m.at_five;
  at_six = m.at_six;
}

module _ (c next : Registers) (contents contents' : Contents) where
  pub at-signal : (t : ℕ) → c.sc ≡ t → Moves t c contents next contents' → Moves c.sc c contents next contents'
  at-signal t h k = subst (λ (x : ℕ). Moves x c contents next contents') (sym h) k

  -- the registers after the transfers, whatever the line
  next-is : Moves c.sc c contents next contents' → next ≡ (moved (with_registers c contents (λ statuses. []))).registers
  next-is k = ap (λ (b : ClockBoard). b.registers) (k (λ statuses. []))

  pub moves-sound : c.s ≡ true → Sound c → Moves c.sc c contents next contents' → Sound next
  moves-sound e h k = subst Sound (sym (next-is k)) (transfers-sound c (fetched contents c.ar) e h)

  -- the same of registers that are known to be these
  pub moved-is : (old after : Registers) (rule : Rule) → c ≡ old → after ≡ next → Moves c.sc c contents next contents'
      → with_registers after contents' rule ≡ moved (with_registers old contents rule)
  moved-is old after rule e f k =
      ap (λ (x : Registers). with_registers x contents' rule) f ∙ k rule ∙ ap (λ (x : Registers). moved (with_registers x contents rule)) e

  -- SC is cleared by the last clock of a cycle alone
  moves-ended : Moves c.sc c contents next contents' → cond (eqb next.sc 0) (c.sc + 1) 0 ≡ clocks_ended c
  moves-ended k =
      ap (λ (x : Registers). cond (eqb x.sc 0) (c.sc + 1) 0) (next-is k) ∙ counted (sc_clear c.sc (opcode c.ir) c)
    where
      counted : (b : Bool) → cond (eqb (cond b 0 (c.sc + 1)) 0) (c.sc + 1) 0 ≡ cond b (c.sc + 1) 0
      counted true = refl
      counted false = rw (ne_eqb (c.sc + 1) 0 (λ e. omega (arith, e)))

  pub ended_is : (k : ℕ) (old : Registers) → c ≡ old → k ≡ cond (eqb next.sc 0) (c.sc + 1) 0 → Moves c.sc c contents next contents'
      → k ≡ clocks_ended old
  ended_is k old e f h = f ∙ moves-ended h ∙ ap clocks_ended e
