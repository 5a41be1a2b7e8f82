-- A run is so many cycles.
use Rattle.std.proofs.Common.{◌≡◌, ℕ, zero, suc, ◌+◌, ◌-◌, Bool, true, false, cond, eqb, refl, ap, ◌∙◌, arith}
use Rattle.memory.specs.Contents.{size}
use Rattle.memory.proofs.Contents.{size-stored}
use Rattle.machine.specs.Words.{opcode, up12}
use Rattle.machine.specs.Boards.{CycleBoard}
use Rattle.machine.specs.Table.{AND, ADD, LDA, STA, BUN, BSA, ISZ, MARKS, with_pc, interrupted}
use Rattle.machine.specs.Cycle.{clocks, instruction, executed, beaten, cycled, Ran, ran}
use Rattle.machine.specs.Lists.{made, after_all}
use Rattle.machine.specs.Laws.{all_answers, CycleByCycle, RunIsCycles}
use Rattle.machine.proofs.Twins.{cycle-granted-is}

-- a cycle keeps the size of the memory
row-size : (a b c d e f g : Bool) (w : ℕ) (x : CycleBoard)
    → size ((cond a AND (cond b ADD (cond c LDA (cond d STA (cond e BUN (cond f BSA (cond g ISZ MARKS))))))).effect w x).contents ≡ size x.contents
row-size a b c d e f g w x = grind (arith, size-stored)

effect-size : (r : Bool) (d w : ℕ) (x y : CycleBoard) → y.contents ≡ x.contents
    → size (cond r (interrupted x) (executed d w y)).contents ≡ size x.contents
effect-size true d w x y e = size-stored x.contents _ _
effect-size false d w x y e =
    row-size (eqb d 0) (eqb d 1) (eqb d 2) (eqb d 3) (eqb d 4) (eqb d 5) (eqb d 6) w y ∙ ap size e

pub cycle-size : (t : CycleBoard) → size (cycled t).contents ≡ size t.contents
cycle-size t =
    let x = beaten (clocks t - 1) t in
    let w = instruction x in
    effect-size t.visible.r (opcode w) w x (with_pc (up12 x.visible.pc) x) refl

-- one cycle more
abbrev stopped : CycleBoard → Ran
stopped t = record { cycles = 0; clocks = 0; after = t }

abbrev one_more : CycleBoard → Ran → Ran
one_more t rest = record { cycles = suc rest.cycles; clocks = clocks t + rest.clocks; after = rest.after }

module _ (t : CycleBoard) (sized : size t.contents ≡ 4096) where
  goes : (n : ℕ) (rest : Ran) → t.visible.s ≡ true → CycleByCycle n (cycled t) rest → CycleByCycle (suc n) t (one_more t rest)
  goes n rest s h =
      let g = cycle-granted-is t sized s in
      record {
        at_most = omega (arith, h.at_most);
        all_unless_stopped = λ e. h.all_unless_stopped (omega arith);
        after = rw (g, after_all) h.after;
        clocks = rw (g, made, all_answers, h.clocks);
      }

  stops : (n : ℕ) → t.visible.s ≡ false → CycleByCycle n t (stopped t)
  stops n s = record { at_most = omega arith; all_unless_stopped = λ e. s; after = refl; clocks = refl }

  by-s : (n : ℕ) (rest : Ran) (s : Bool) → t.visible.s ≡ s → CycleByCycle n (cycled t) rest
      → CycleByCycle (suc n) t (cond s (one_more t rest) (stopped t))
  by-s n rest true s h = goes n rest s h
  by-s n rest false s h = stops (suc n) s

pub run-is-cycles : RunIsCycles
run-is-cycles zero t l = record { at_most = omega arith; all_unless_stopped = λ e. absurd (omega arith); after = refl; clocks = refl }
run-is-cycles (suc n) t l =
    by-s t l n (ran n (cycled t)) t.visible.s refl (run-is-cycles n (cycled t) (cycle-size t ∙ l))
