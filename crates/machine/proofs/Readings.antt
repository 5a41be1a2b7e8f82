-- The readings.
use Rattle.std.proofs.Common.{◌≡◌, ℕ, true, false, eqb, refl, arith}
use Rattle.std.proofs.lemmas.Bool.{or_right}
use Rattle.memory.specs.Contents.{size}
use Rattle.memory.proofs.Contents.{fetched-here}
use Rattle.machine.specs.declared.call.Call.TheVariants.{Clock}
use Rattle.machine.specs.Beat.{Connection, flagged, beat, beats}
use Rattle.machine.specs.Boards.{ClockBoard, CycleBoard, seen}
use Rattle.machine.specs.Clock.{connection}
use Rattle.machine.specs.Cycle.{clocks, cycled}
use Rattle.machine.specs.Calls.{on_cycled}
use Rattle.machine.specs.Readings.{WrongSize, Next, Leaves, Readings}
use Rattle.machine.proofs.Beat.{keeps-flag}
use Rattle.machine.proofs.Twins.{cycle-granted-is, cycle-by-clocks}

-- what one cycle leaves, its clocks leave
leaves : {w k : ℕ} {b : ClockBoard} {P : CycleBoard → Type 0} → Next w b → clocks (seen b) ≡ k → P (cycled (seen b)) → Leaves k b P
leaves {w} {k} {b} {P} h e q =
    let by = rw e at (cycle-by-clocks b h.between h.running h.pc_fits h.sized) in
    let by_cycle : P (on_cycled Clock (seen b)).after = rw (cycle-granted-is (seen b) h.sized h.running) q in
    record { answers = by; by_clocks = rw by.after by_cycle; by_cycle = by_cycle }

-- a flag that is up stays up over three beats
flag-stays : (x : Connection) → flagged x.port ≡ true → flagged (beats 3 x).port ≡ true
flag-stays x h = keeps-flag (beats 2 x) (keeps-flag (beat x) (keeps-flag x h))

-- a memory of another size
wrong_size : (b : ClockBoard) (n : ℕ) → eqb n 4096 ≡ false → size b.contents ≡ n → WrongSize b
wrong_size b n e l =
    let k : eqb (size b.contents) 4096 ≡ false = rw l e in
    record {
      clock = rw k ((refl, refl), (refl, refl));
      deposit = λ a w. rw k ((refl, refl), (refl, refl));
      examine = λ a. rw k ((refl, refl), (refl, refl));
      run = λ n. rw k (refl, refl);
    }

pub readings : Readings
readings = record {
  smaller = λ b. wrong_size b 4095 refl;
  larger = λ b. wrong_size b 4097 refl;
  aim_last = λ b s. record { by_clock = rw s; pc = rw s; by_cycle = rw s; cycle_pc = rw s };
  aim_past = λ b. ((refl, refl), (refl, refl));
  clock_new = λ contents rule l. rw l ((refl, refl), (refl, refl));
  add = λ w b h o m a. leaves h (rw (h.no_interrupt, h.word, o)) (rw (h.no_interrupt, h.word, o, m, a) (refl, refl));
  inc = λ b h a. leaves h (rw (h.no_interrupt, h.word)) (rw (h.no_interrupt, h.word, a) (refl, refl));
  right = λ b h a e. leaves h (rw (h.no_interrupt, h.word)) (rw (h.no_interrupt, h.word, a, e) (refl, refl));
  left = λ b h a e. leaves h (rw (h.no_interrupt, h.word)) (rw (h.no_interrupt, h.word, a, e) (refl, refl));
  both = λ b h a e. leaves h (rw (h.no_interrupt, h.word)) (rw (h.no_interrupt, h.word, a, e) (refl, refl));
  clear = λ b h a e. leaves h (rw (h.no_interrupt, h.word)) (rw (h.no_interrupt, h.word));
  isz = λ b h p m.
      leaves h (rw (h.no_interrupt, h.word))
      (rw (h.no_interrupt, h.word, m, p) (fetched-here b.contents 0x010 0 (omega (arith, h.sized)), refl));
  iof = λ b h i f.
      leaves h (rw (h.no_interrupt, h.word))
      (rw (h.no_interrupt, h.word, i) (refl, flag-stays (connection b) (or_right b.registers.port.fgi b.registers.port.fgo f)));
  ion = λ b h i f. leaves h (rw (h.no_interrupt, h.word)) (rw (h.no_interrupt, h.word, i) (refl, refl));
}
