-- No cycle takes more than seven clocks.
use Rattle.std.proofs.Common.{◌≡◌, ℕ, zero, suc, ◌+◌, ◌*◌, ◌<◌, ◌≤◌, Bool, true, false, cond, List, [], ◌∷◌, ◌++◌, length, Some, None, Option, sym, refl, ap, ◌∙◌, inl, inr, true≢false, add-one, arith}
use Rattle.std.proofs.lemmas.Bool.{cases_eq}
use Rattle.memory.specs.Contents.{size}
use Rattle.machine.specs.declared.registers.Registers.{Registers}
use Rattle.machine.specs.declared.call.Call.{Call}
use Rattle.machine.specs.declared.call.Call.TheVariants.{Clock, Start, Aim, Deposit, Examine}
use Rattle.machine.specs.Words.{opcode}
use Rattle.machine.specs.Boards.{ClockBoard, CycleBoard, new_clock_board, Sound}
use Rattle.machine.specs.Gates.{sc_clear}
use Rattle.machine.specs.Clock.{clocked}
use Rattle.machine.specs.Cycle.{clocks}
use Rattle.machine.specs.Calls.{answered, turned_down, unless, with_panel, on_clocked, cycle_granted, on_cycled}
use Rattle.machine.specs.Lists.{made, after_all, Step, on_its_way, ended, no_clock, step, counting, clocks_granted, Ended, beginning, under_way_then, ended_by, cycles, under_way}
use Rattle.machine.specs.Laws.{Few, AllFew, SevenAtMost, SevenAtMostByCycles, CountedBy, Counted, ClocksCounted, SevenEndOne, CyclesInOrder}
use Rattle.machine.proofs.Cycle.{some-clocks}
use Rattle.machine.proofs.Calls.{by-call}
use Rattle.machine.proofs.Invariant.{clock-sound, panel-sound, call-sound, all_sound, new-sound}

-- an answer of at most seven
few-answer : (n : ℕ) → n ≤ 7 → Few (step Clock (answered n))
few-answer zero h = tt
few-answer (suc n) h = h

few-clocks : (c : Bool) (t : ℕ) → t ≤ 6 → cond c (t + 1) 0 ≤ 7
few-clocks c t h = grind arith

call-few : (x : Call) (b : ClockBoard) → Sound b.registers → Few (step x (on_clocked x b).outcome)
call-few x b h =
    by-call x b (λ now c. Few now) tt
    (λ e. few-answer _ (few-clocks (sc_clear b.registers.sc (opcode b.registers.ir) b.registers) b.registers.sc h.sc_fits))
    (λ pc s contents f p. tt)

all-few : (xs : List Call) (b : ClockBoard) → Sound b.registers → AllFew (made on_clocked xs b)
all-few [] b h = tt
all-few (x ∷ xs) b h = (call-few x b h, all-few xs (on_clocked x b).after (call-sound x b h))

pub seven_at_most : SevenAtMost
seven_at_most contents rule calls = all-few calls (new_clock_board contents rule) new-sound

-- by whole cycles
cycle-few : (o : Option ℕ) (t : CycleBoard) → Few (step Clock (unless o t (cycle_granted Clock t)).outcome)
cycle-few None t = few-answer (clocks t) (some-clocks t).2
cycle-few (Some f) t = tt

call-few-by-cycles : (x : Call) (t : CycleBoard) → Few (step x (on_cycled x t).outcome)
call-few-by-cycles Clock t = cycle-few (turned_down Clock (size t.contents) t.visible.s) t
call-few-by-cycles Start t = tt
call-few-by-cycles (Aim a) t = tt
call-few-by-cycles (Deposit a w) t = tt
call-few-by-cycles (Examine a) t = tt

pub seven-at-most-by-cycles : SevenAtMostByCycles
seven-at-most-by-cycles [] t = tt
seven-at-most-by-cycles (x ∷ xs) t = (call-few-by-cycles x t, seven-at-most-by-cycles xs (on_cycled x t).after)

-- SC counts the clocks of the cycle under way, and at 6 a clock ends it
last : (d : ℕ) (c : Registers) → d ≡ 6 → sc_clear 6 d c ≡ true
last d c e = rw e

below-six : (t d : ℕ) (c : Registers) → t ≤ 6 → (t ≡ 6 → d ≡ 6) → sc_clear t d c ≡ false → t < 6
below-six t d c h k e =
    elim (cases_eq t 6) [
      | inl q ↦ absurd (true≢false (sym (last d c (k q)) ∙ ap (λ (x : ℕ). sc_clear x d c) (sym q) ∙ e))
      | inr n ↦ omega arith
    ]

counts : (c : Bool) (t : ℕ) (rest : ℕ → Type 0) → (c ≡ false → t < 6) → rest (cond c 0 (t + 1))
    → CountedBy t (step Clock (answered (cond c (t + 1) 0))) rest
counts true t rest h k = rw add-one (refl, k)
counts false t rest h k = (h refl, rw add-one at k)

counted : (xs : List Call) (b : ClockBoard) → Sound b.registers → Counted (made on_clocked xs b) b.registers.sc
counted [] b h = tt
counted (x ∷ xs) b h =
    let d = opcode b.registers.ir in
    by-call x b (λ now c. CountedBy b.registers.sc now (Counted (made on_clocked xs c))) (counted xs b h)
    (λ e. counts (sc_clear b.registers.sc d b.registers) b.registers.sc (Counted (made on_clocked xs (clocked b)))
    (below-six b.registers.sc d b.registers h.sc_fits h.at_six) (counted xs (clocked b) (clock-sound b e h)))
    (λ pc s contents f p. counted xs (with_panel pc s contents b) (panel-sound b pc s contents f p h))

pub clocks_counted : ClocksCounted
clocks_counted contents rule calls = counted calls (new_clock_board contents rule) new-sound

-- Seven clocks end a cycle: what is to show of xs from b, with u under way.
abbrev Enough : Option ClockBoard → List Call → ClockBoard → Type 0
Enough u xs b = (k : ℕ) → 7 * k ≤ b.registers.sc + clocks_granted (made on_clocked xs b) → k ≤ length (cycles u xs b)

granted-enough : (c : Bool) (t : ℕ) (u : Option ClockBoard) (b b' : ClockBoard) (xs : List Call) → t ≤ 6
    → ((v : Option ClockBoard) (k : ℕ) → 7 * k ≤ cond c 0 (t + 1) + clocks_granted (made on_clocked xs b') → k ≤ length (cycles v xs b'))
    → let now = step Clock (answered (cond c (t + 1) 0)) in
    (k : ℕ) → 7 * k ≤ t + counting now (clocks_granted (made on_clocked xs b'))
    → k ≤ length (ended_by u now b b' (cycles (under_way_then u now b) xs b'))
granted-enough false t u b b' xs h go = λ k e. go (Some (beginning u b)) k (omega arith)
granted-enough true t u b b' xs h go = rw add-one by
  where
    by : (k : ℕ) → 7 * k ≤ t + suc (clocks_granted (made on_clocked xs b')) → k ≤ suc (length (cycles None xs b'))
    by zero e = omega arith
    by (suc k) e =
        let q : 7 * k ≤ 0 + clocks_granted (made on_clocked xs b') = omega arith in
        omega (arith, go None k q)

enough : (xs : List Call) (u : Option ClockBoard) (b : ClockBoard) → Sound b.registers → Enough u xs b
enough [] u b h = λ k e. omega (arith, h.sc_fits)
enough (x ∷ xs) u b h =
    by-call x b
    (λ now c. (k : ℕ) → 7 * k ≤ b.registers.sc + counting now (clocks_granted (made on_clocked xs c))
    → k ≤ length (ended_by u now b c (cycles (under_way_then u now b) xs c)))
    (enough xs u b h)
    (λ e. granted-enough (sc_clear b.registers.sc (opcode b.registers.ir) b.registers) b.registers.sc u b (clocked b) xs h.sc_fits
    (λ v. enough xs v (clocked b) (clock-sound b e h)))
    (λ pc s contents f p. enough xs u (with_panel pc s contents b) (panel-sound b pc s contents f p h))

pub seven_end_one : SevenEndOne
seven_end_one contents rule before later k e =
    let b = new_clock_board contents rule in
    enough later (under_way None before b) (after_all on_clocked before b) (all_sound before b new-sound) k (omega arith)

-- the list of cycles, part by part
ended-in-order : (u : Option ClockBoard) (now : Step) (b b' : ClockBoard) (ys zs : List Ended)
    → ended_by u now b b' (ys ++ zs) ≡ ended_by u now b b' ys ++ zs
ended-in-order u on_its_way b b' ys zs = refl
ended-in-order u (ended k) b b' ys zs = refl
ended-in-order u no_clock b b' ys zs = refl

in_order : (u : Option ClockBoard) (before later : List Call) (b : ClockBoard)
    → cycles u (before ++ later) b ≡ cycles u before b ++ cycles (under_way u before b) later (after_all on_clocked before b)
in_order u [] later b = refl
in_order u (x ∷ xs) later b =
    let now = step x (on_clocked x b).outcome in
    let b' = (on_clocked x b).after in
    let u' = under_way_then u now b in
    ap (ended_by u now b b') (in_order u' xs later b') ∙ ended-in-order u now b b' (cycles u' xs b') _

pub cycles-in-order : CyclesInOrder
cycles-in-order before later b = in_order None before later b
