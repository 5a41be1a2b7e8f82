-- A run, cycle by cycle.
use Rattle.std.proofs.Common.{◌≡◌, ℕ, zero, suc, ◌+◌, ◌-◌, ◌<◌, Bool, true, false, cond, sym, ap, ◌∙◌, subst, ap₂, add-zero, arith}
use Rattle.memory.specs.Contents.{size}
use Rattle.machine.specs.Boards.{CycleBoard}
use Rattle.machine.specs.Cycle.{clocks, cycled, Ran, ran}
use Rattle.machine.specs.Laws.{CycleByCycle}
use Rattle.machine.proofs.Runs.{run-is-cycles}
use Rattle.cycle_bench.specs.CycleComputers.{as_ran}

-- a run to which m cycles and k clocks are added
abbrev pub added : ℕ → ℕ → Ran → Ran
added m k x = record { cycles = m + x.cycles; clocks = k + x.clocks; after = x.after }

abbrev counted : ℕ → ℕ → CycleBoard → Ran
counted m k b = record { cycles = m; clocks = k; after = b }

abbrev more : ℕ → CycleBoard → Ran
more j b = counted (suc (ran j (cycled b)).cycles) (clocks b + (ran j (cycled b)).clocks) (ran j (cycled b)).after

-- with S up one cycle more, with S down none
by-s : (j : ℕ) (b : CycleBoard) (s : Bool) → b.visible.s ≡ s → ran (suc j) b ≡ cond s (more j b) (counted 0 0 b)
by-s j b s e = ap (λ (x : Bool). cond x (more j b) (counted 0 0 b)) e

one_more : (j m k : ℕ) (b : CycleBoard) → b.visible.s ≡ true
    → added (m + 1) (k + clocks b) (ran j (cycled b)) ≡ added m k (ran (suc j) b)
one_more j m k b s =
    let x = ran j (cycled b) in
    let e : m + 1 + x.cycles ≡ m + suc x.cycles = omega arith in
    let f : k + clocks b + x.clocks ≡ k + (clocks b + x.clocks) = omega arith in
    ap₂ (λ (p q : ℕ). counted p q x.after) e f ∙ sym (ap (added m k) (by-s j b true s))

pub goes_on : (n m k c : ℕ) (b z : CycleBoard) (all : Ran) → m < n → b.visible.s ≡ true → c ≡ clocks b → z ≡ cycled b
    → added m k (ran (n - m) b) ≡ all → added (m + 1) (k + c) (ran (n - (m + 1)) z) ≡ all
goes_on n m k c b z all l s e h q =
    let f : n - m ≡ suc (n - (m + 1)) = omega arith in
    ap₂ (λ (i : ℕ) (x : CycleBoard). added (m + 1) (k + i) (ran (n - (m + 1)) x)) e h
    ∙ one_more (n - (m + 1)) m k b s
    ∙ sym (ap (λ (i : ℕ). added m k (ran i b)) f)
    ∙ q

-- none more
none_more : (m k : ℕ) (b : CycleBoard) (x : Ran) → x ≡ counted 0 0 b → counted m k b ≡ added m k x
none_more m k b x e =
    sym (ap (added m k) e ∙ ap₂ (λ (p q : ℕ). counted p q b) (add-zero m) (add-zero k))

pub stops : (n m k : ℕ) (b : CycleBoard) (all : Ran) → m < n → b.visible.s ≡ false → added m k (ran (n - m) b) ≡ all
    → as_ran (m, k) b ≡ all
stops n m k b all l s q =
    let f : n - m ≡ suc (n - (m + 1)) = omega arith in
    none_more m k b (ran (n - m) b) (ap (λ (i : ℕ). ran i b) f ∙ by-s (n - (m + 1)) b false s) ∙ q

pub ends : (n m k : ℕ) (b : CycleBoard) (all : Ran) → m ≡ n → added m k (ran (n - m) b) ≡ all → as_ran (n, k) b ≡ all
ends n m k b all e q =
    let f : n - m ≡ zero = omega arith in
    let z = none_more m k b (ran (n - m) b) (ap (λ (i : ℕ). ran i b) f) ∙ q in
    subst (λ (i : ℕ). as_ran (i, k) b ≡ all) e z

-- what is known of a run once it is made
module _ (n : ℕ) (b z : CycleBoard) (r : ℕ × ℕ) (e : as_ran r z ≡ ran n b) where
  pub run-made : r.0 ≡ (ran n b).cycles
  run-made = ap (λ (x : Ran). x.cycles) e

  pub run-clocks : r.1 ≡ (ran n b).clocks
  run-clocks = ap (λ (x : Ran). x.clocks) e

  pub run-leaves : z ≡ (ran n b).after
  run-leaves = ap (λ (x : Ran). x.after) e

  pub run-by-cycles : size b.contents ≡ 4096 → CycleByCycle n b (as_ran r z)
  run-by-cycles l = subst (CycleByCycle n b) (sym e) (run-is-cycles n b l)
