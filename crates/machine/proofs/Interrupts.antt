-- When an interrupt comes.
use Rattle.std.proofs.Common.{◌≡◌, ℕ, zero, suc, ◌+◌, ◌<◌, ◌≤◌, Bool, true, false, cond, ◌⊎◌, List, [], ◌∷◌, Some, None, Option, sym, refl, ap, ◌∙◌, subst, inl, inr, arith}
use Rattle.std.proofs.lemmas.Bool.{ne_eqb, or_parts, cases_lt, both_ways}
use Rattle.memory.specs.Contents.{stored}
use Rattle.machine.specs.declared.registers.Port.{Port}
use Rattle.machine.specs.declared.call.Call.{Call}
use Rattle.machine.specs.declared.call.Call.TheVariants.{Clock}
use Rattle.machine.specs.Words.{opcode}
use Rattle.machine.specs.Beat.{Connection, flagged, beat}
use Rattle.machine.specs.Boards.{ClockBoard, CycleBoard, seen, new_clock_board}
use Rattle.machine.specs.Gates.{p, sc_clear}
use Rattle.machine.specs.Clock.{connection, moved_at, after_beat, clocked, clocks_ended}
use Rattle.machine.specs.Cycle.{cycled}
use Rattle.machine.specs.Calls.{answered, with_panel, on_clocked}
use Rattle.machine.specs.Lists.{after_all, Step, step, Ended, beginning, under_way_then, ended_by, cycles, under_way}
use Rattle.machine.specs.Laws.{InterruptCycle, First, InterruptNext, InterruptInTime}
use Rattle.machine.proofs.Beat.{keeps-flag}
use Rattle.machine.proofs.Ends.{EndsAfter}
use Rattle.machine.proofs.Marks.{interrupt-ends}
use Rattle.machine.proofs.Cycle.{known, is_known}
use Rattle.machine.proofs.Calls.{by-call}

-- IEN and a flag are up: a clock at T3 or later raises R, and one before it ends no cycle, with R down.
abbrev Waiting : ClockBoard → Type 0
Waiting b =
    (b.registers.ien ≡ true) × (flagged b.registers.port ≡ true) × ((b.registers.r ≡ false) ⊎ (3 ≤ b.registers.sc))

-- a clock at T3 or later
ends-late : (t d : ℕ) (b : ClockBoard) → 3 ≤ t → b.registers.ien ≡ true → flagged b.registers.port ≡ true
    → (after_beat (moved_at t d b)).registers.r ≡ true
ends-late t d b h i f =
    let e0 = ne_eqb t 0 (λ e. omega arith) in
    let e1 = ne_eqb t 1 (λ e. omega arith) in
    let e2 = ne_eqb t 2 (λ e. omega arith) in
    rw (e0, e1, e2, i, f)

late : (t d : ℕ) (b : ClockBoard) → 3 ≤ t → sc_clear t d b.registers ≡ false
    → ((after_beat (moved_at t d b)).registers.ien ≡ b.registers.ien) × ((after_beat (moved_at t d b)).registers.port ≡ (beat (connection b)).port)
late t d b h e =
    let e2 = ne_eqb t 2 (λ x. omega arith) in
    let k = (or_parts _ _ (or_parts _ _ (or_parts _ _ e).0).0).0 in
    let q : p t d b.registers ≡ false = (or_parts _ _ k).1 in
    (rw (q, e2), rw q)

-- a clock before T3, with R down
abbrev Early : ℕ → ℕ → ClockBoard → Type 0
Early t d b =
    (sc_clear t d b.registers ≡ false) × ((after_beat (moved_at t d b)).registers.ien ≡ b.registers.ien)
    × ((after_beat (moved_at t d b)).registers.port ≡ (beat (connection b)).port) × ((after_beat (moved_at t d b)).registers.r ≡ false)

early : (t d : ℕ) (b : ClockBoard) → t < 3 → b.registers.r ≡ false → Early t d b
early zero d b h u = (refl, refl, refl, u)
early (suc zero) d b h u = (refl, refl, refl, u)
early (suc (suc zero)) d b h u = (rw u, rw u, refl, rw u)
early (suc (suc (suc t))) d b h u = absurd (omega arith)

sc-cleared : (c : Bool) (t : ℕ) → cond c 0 (t + 1) ≡ 0 → c ≡ true
sc-cleared c t e = grind arith

goes_on : (c : Bool) (t : ℕ) → cond c (t + 1) 0 ≡ 0 → c ≡ false
goes_on c t e = grind arith

ends_so : (c : Bool) (t k : ℕ) → cond c (t + 1) 0 ≡ suc k → cond c 0 (t + 1) ≡ 0
ends_so c t k e = grind arith

down : (b : ClockBoard) → b.registers.sc < 3 → Waiting b → b.registers.r ≡ false
down b h w = elim w.2 [ inl u ↦ u | inr k ↦ absurd (omega arith) ]

flag-after : (x : Connection) (port : Port) → flagged x.port ≡ true → port ≡ (beat x).port → flagged port ≡ true
flag-after x port f e = rw e (keeps-flag x f)

next-sc : (c : Bool) (t : ℕ) → c ≡ false → 3 ≤ t → 3 ≤ cond c 0 (t + 1)
next-sc c t e h = rw e (omega arith)

still-waiting : (b : ClockBoard) → Waiting b → clocks_ended b.registers ≡ 0 → Waiting (clocked b)
still-waiting b w e =
    let t = b.registers.sc in
    let d = opcode b.registers.ir in
    elim (cases_lt t 3) [
      | inl h ↦
          let x = early t d b h (down b h w) in
          (x.1 ∙ w.0, flag-after (connection b) (clocked b).registers.port w.1 x.2, inl x.3)
      | inr h ↦
          let q = goes_on (sc_clear t d b.registers) t e in
          let y = late t d b h q in
          (y.0 ∙ w.0, flag-after (connection b) (clocked b).registers.port w.1 y.1, inr (next-sc (sc_clear t d b.registers) t q h))
    ]

raised-at-end : (b : ClockBoard) → Waiting b → (clocked b).registers.sc ≡ 0 → (clocked b).registers.r ≡ true
raised-at-end b w e =
    let t = b.registers.sc in
    let d = opcode b.registers.ir in
    let c = sc_clear t d b.registers in
    elim (cases_lt t 3) [
      | inl h ↦ absurd (both_ways c (early t d b h (down b h w)).0 (sc-cleared c t e))
      | inr h ↦ ends-late t d b h w.0 w.1
    ]

-- The interrupt cycle under way: it began on b, and ends with what t shows.
record Interrupting (b : ClockBoard) (t : CycleBoard) : Type 0 where
  noted : b.registers.r ≡ true
  saved : t.contents ≡ stored b.contents 0 b.registers.pc
  resumed : t.visible.pc ≡ 1
  disabled : t.visible.ien ≡ false
  lowered : t.visible.r ≡ false

-- with R up between cycles, the next cycle is the interrupt cycle
interrupt-taken : (b : ClockBoard) → b.registers.sc ≡ 0 → b.registers.s ≡ true → b.registers.r ≡ true
    → (t : CycleBoard) × EndsAfter 2 b 3 t × Interrupting b t
interrupt-taken b z s u =
    let t = cycled (seen (known b true)) in (
      t,
      subst (λ (x : ClockBoard). EndsAfter 2 x 3 t) (is_known b true z s u) (interrupt-ends b),
      record { noted = u; saved = refl; resumed = refl; disabled = refl; lowered = refl },
    )

-- the list of cycles from a call on b on, with u under way, by what the call was to the cycles and the board it left
abbrev FromCall : Option ClockBoard → List Call → ClockBoard → Step → ClockBoard → List Ended
FromCall u xs b now c = ended_by u now b c (cycles (under_way_then u now b) xs c)

abbrev FromAnswer : Option ClockBoard → List Call → ClockBoard → ℕ → List Ended
FromAnswer u xs b n = FromCall u xs b (step Clock (answered n)) (clocked b)

module _ (b : ClockBoard) (t : CycleBoard) (i : Interrupting b t) where
  taken-by : (xs : List Call) (m : ℕ) (c : ClockBoard) → EndsAfter m c 3 t
      → ((m : ℕ) → EndsAfter m (clocked c) 3 t → (clocked c).registers.s ≡ true → First InterruptCycle (cycles (Some b) xs (clocked c)))
      → First InterruptCycle (FromAnswer (Some b) xs c (clocks_ended c.registers))
  taken-by xs zero c e go =
      subst (λ (n : ℕ). First InterruptCycle (FromAnswer (Some b) xs c n)) (sym e.0)
      (record {
        noted = i.noted;
        three = refl;
        saved = ap (λ (u : CycleBoard). u.contents) e.2 ∙ i.saved;
        resumed = ap (λ (u : CycleBoard). u.visible.pc) e.2 ∙ i.resumed;
        disabled = ap (λ (u : CycleBoard). u.visible.ien) e.2 ∙ i.disabled;
        lowered = ap (λ (u : CycleBoard). u.visible.r) e.2 ∙ i.lowered;
      })
  taken-by xs (suc m) c e go =
      subst (λ (n : ℕ). First InterruptCycle (FromAnswer (Some b) xs c n)) (sym e.0) (go m e.2 e.1)

  taken : (xs : List Call) (n : ℕ) (c : ClockBoard) → EndsAfter n c 3 t → c.registers.s ≡ true
      → First InterruptCycle (cycles (Some b) xs c)
  taken [] n c e s = tt
  taken (x ∷ xs) n c e s =
      by-call x c (λ now d. First InterruptCycle (FromCall (Some b) xs c now d)) (taken xs n c e s)
      (λ g. taken-by xs n c e (λ m e' s'. taken xs m (clocked c) e' s')) (λ pc s' contents f p. absurd (both_ways c.registers.s f s))

-- between cycles, with R up
starts : (xs : List Call) (b : ClockBoard) → b.registers.sc ≡ 0 → b.registers.s ≡ true → b.registers.r ≡ true
    → First InterruptCycle (FromAnswer None xs b (clocks_ended b.registers))
starts xs b z s u =
    let k = interrupt-taken b z s u in
    subst (λ (n : ℕ). First InterruptCycle (FromAnswer None xs b n)) (sym k.1.0)
    (taken b k.0 k.2 xs 1 (clocked b) k.1.2 k.1.1)

follows : (xs : List Call) (b : ClockBoard) → b.registers.sc ≡ 0 → b.registers.r ≡ true → First InterruptCycle (cycles None xs b)
follows [] b z u = tt
follows (x ∷ xs) b z u =
    by-call x b (λ now c. First InterruptCycle (FromCall None xs b now c)) (follows xs b z u) (λ s. starts xs b z s u)
    (λ pc s contents f p. follows xs (with_panel pc s contents b) z u)

-- with IEN and a flag up: the cycle that ends next notes the interrupt
notes : (u : Option ClockBoard) (xs : List Call) (b : ClockBoard) → Waiting b
    → ((v : Option ClockBoard) → Waiting (clocked b) → InterruptNext (cycles v xs (clocked b)))
    → (n : ℕ) → clocks_ended b.registers ≡ n → InterruptNext (FromAnswer u xs b n)
notes u xs b w go zero e = go (Some (beginning u b)) (still-waiting b w e)
notes u xs b w go (suc k) e =
    let z = ends_so (sc_clear b.registers.sc (opcode b.registers.ir) b.registers) b.registers.sc k e in
    let r = raised-at-end b w z in
    (r, follows xs (clocked b) z r)

waits : (xs : List Call) (u : Option ClockBoard) (b : ClockBoard) → Waiting b → InterruptNext (cycles u xs b)
waits [] u b w = tt
waits (x ∷ xs) u b w =
    by-call x b (λ now c. InterruptNext (FromCall u xs b now c)) (waits xs u b w)
    (λ s. notes u xs b w (λ v w'. waits xs v (clocked b) w') (clocks_ended b.registers) refl)
    (λ pc s contents f p. waits xs u (with_panel pc s contents b) w)

pub interrupt_in_time : InterruptInTime
interrupt_in_time contents rule before later i f r =
    let b = new_clock_board contents rule in
    waits later (under_way None before b) (after_all on_clocked before b) (i, f, inl r)
