-- Lists of calls on the two computers side by side.
use Rattle.std.proofs.Common.{◌≡◌, ℕ, zero, suc, ◌-◌, ◌<◌, Bool, true, false, cond, eqb, ltb, ◌⊎◌, List, [], ◌∷◌, Some, None, Option, sym, refl, ap, ◌∙◌, subst, ap₂, subst₂, inl, inr, true≢false, arith, lit<}
use mathlib.Core.Path.{fun_ext}
use Rattle.std.proofs.lemmas.Bool.{ltb-false, eqb-true}
use Rattle.memory.specs.Contents.{Contents, size, fetched, stored}
use Rattle.memory.proofs.Contents.{size-stored}
use Rattle.line.specs.Rules.{Rule}
use Rattle.machine.specs.declared.call.Call.{Call}
use Rattle.machine.specs.declared.call.Call.TheVariants.{Clock, Start, Aim, Deposit, Examine}
use Rattle.machine.specs.Words.{opcode}
use Rattle.machine.specs.Boards.{ClockBoard, CycleBoard, seen, new_clock_board, new_cycle_board}
use Rattle.machine.specs.Clock.{clocked, clocks_ended, bus_word}
use Rattle.machine.specs.Cycle.{clocks, cycled}
use Rattle.machine.specs.Calls.{Outcome, answered, turned_down, Called, gives, unless, with_panel, clock_granted, on_clocked, cycle_granted, on_cycled}
use Rattle.machine.specs.Lists.{Made, made, after_all, calls_of, step, inside_then, inside_at_end, struck, short_list, short}
use Rattle.machine.specs.Laws.{times, CycleByClocks, Agree, Twins, TwinsAgree}
use Rattle.machine.proofs.Ends.{EndsAfter}
use Rattle.machine.proofs.Cycle.{cycle-agrees, some-clocks}
use Rattle.machine.proofs.Calls.{clock-is-granted}
use Rattle.machine.proofs.Invariant.{next-pc-fits}

-- a clock keeps PC in 12 bits, and the size of the memory
clock-pc : (b : ClockBoard) → b.registers.pc < 4096 → (clocked b).registers.pc < 4096
clock-pc b h = next-pc-fits b.registers (bus_word b.registers.sc (opcode b.registers.ir) b) h

write-size : (w : Bool) (contents : Contents) (a x : ℕ) → size (cond w (stored contents a x) contents) ≡ size contents
write-size w contents a x = grind (arith, size-stored)

pub clock-size : (b : ClockBoard) → size (clocked b).contents ≡ size b.contents
clock-size b = write-size _ b.contents b.registers.ar _

-- what is kept between cycles, and inside one
abbrev Paired : Bool → ClockBoard → CycleBoard → Type 0
Paired false b t = (b.registers.sc ≡ 0) × (b.registers.pc < 4096) × (seen b ≡ t)
Paired true b t =
    (n : ℕ) × EndsAfter n b (clocks t) (cycled t) × (b.registers.pc < 4096) × (b.registers.s ≡ true) × (t.visible.s ≡ true)
    × (size b.contents ≡ 4096) × (size t.contents ≡ 4096)

-- one call: struck out, or made on both with one outcome
abbrev Kept : Bool → Call → ClockBoard → CycleBoard → Type 0
Kept i x b t =
    let o = (on_clocked x b).outcome in
    let b' = (on_clocked x b).after in
    ((struck i x o ≡ true) × Paired (inside_then i (step x o)) b' t)
    ⊎ ((struck i x o ≡ false) × ((on_cycled x t).outcome ≡ o) × Paired (inside_then i (step x o)) b' (on_cycled x t).after)

-- the induction over the list
abbrev Goes : Bool → List Call → ClockBoard → CycleBoard → Type 0
Goes i xs b t =
    (made on_cycled (calls_of (short_list i (made on_clocked xs b))) t ≡ short_list i (made on_clocked xs b))
    × (inside_at_end i (made on_clocked xs b) ≡ false
    → seen (after_all on_clocked xs b) ≡ after_all on_cycled (calls_of (short_list i (made on_clocked xs b))) t)

goes : ((i : Bool) (x : Call) (b : ClockBoard) (t : CycleBoard) → Paired i b t → Kept i x b t)
    → (xs : List Call) (i : Bool) (b : ClockBoard) (t : CycleBoard) → Paired i b t → Goes i xs b t
goes one [] true b t h = (refl, λ e. absurd (true≢false e))
goes one [] false b t h = (refl, λ e. h.2)
goes one (x ∷ xs) i b t h =
    let o = (on_clocked x b).outcome in
    let m : Made = record { call = x; outcome = o } in
    let b' = (on_clocked x b).after in
    let j = inside_then i (step x o) in
    let ms = made on_clocked xs b' in
    elim (one i x b t h) [
      | inl k ↦ rw k.0 (goes one xs j b' t k.1)
      | inr k ↦
          let g = goes one xs j b' (on_cycled x t).after k.2 in
          rw k.0 (λ a. record { call = x; outcome = k.1 a } ∷ g.0 a, g.1)
    ]

-- Between cycles: a call of the panel does the same to both.
abbrev Panel : Option ℕ → ClockBoard → ℕ → ClockBoard → Type 0
Panel o b n b' =
    let u = unless o b (gives n b') in
    let v = unless o (seen b) (gives n (seen b')) in
    (v.outcome ≡ u.outcome) × (seen u.after ≡ v.after) × (b.registers.sc ≡ 0 → b'.registers.sc ≡ 0 → u.after.registers.sc ≡ 0)

panel : (o : Option ℕ) (b : ClockBoard) (n : ℕ) (b' : ClockBoard) → Panel o b n b'
panel None b n b' = (refl, refl, λ p q. q)
panel (Some refusal) b n b' = (refl, refl, λ p q. p)

keeps-pc : (o : Option ℕ) (b : ClockBoard) (n : ℕ) (b' : ClockBoard) → b.registers.pc < 4096 → b'.registers.pc < 4096
    → (unless o b (gives n b')).after.registers.pc < 4096
keeps-pc o b n b' p q = grind arith

aimed-pc : (past s : Bool) (b : ClockBoard) (a : ℕ) → (past ≡ false → a < 4096) → b.registers.pc < 4096
    → (unless (cond past (Some 2) (cond s (Some 4) None)) b (gives {Answer = ℕ} 0 (with_panel a b.registers.s b.contents b))).after.registers.pc < 4096
aimed-pc past s b a p q = grind arith

-- A granted clock, with the end of its cycle n clocks ahead.
abbrev ClockKept : Bool → ℕ → ClockBoard → CycleBoard → Type 0
ClockKept i a b t =
    ((struck i Clock (answered a) ≡ true) × Paired (inside_then i (step Clock (answered a))) (clocked b) t)
    ⊎ ((struck i Clock (answered a) ≡ false) × (◌≡◌ {A = Outcome ℕ} (answered (clocks t)) (answered a))
    × Paired (inside_then i (step Clock (answered a))) (clocked b) (cycled t))

clock-kept : (i : Bool) (n : ℕ) (b : ClockBoard) (t : CycleBoard) → EndsAfter n b (clocks t) (cycled t) → b.registers.pc < 4096
    → t.visible.s ≡ true → size b.contents ≡ 4096 → size t.contents ≡ 4096 → ClockKept i (clocks_ended b.registers) b t
clock-kept i zero b t e h u l k =
    let j = some-clocks t in
    subst (λ (a : ℕ). ClockKept i a b t) (sym (e.0 ∙ j.1)) (inr (refl, ap {B = Outcome ℕ} answered j.1, (e.1, clock-pc b h, e.2)))
clock-kept i (suc n) b t e h u l k =
    subst (λ (a : ℕ). ClockKept i a b t) (sym e.0) (inl (refl, (n, e.2, clock-pc b h, e.1, u, clock-size b ∙ l, k)))

-- a granted clock on both
step_kept : (i : Bool) (n : ℕ) (b : ClockBoard) (t : CycleBoard) → EndsAfter n b (clocks t) (cycled t) → b.registers.pc < 4096
    → b.registers.s ≡ true → t.visible.s ≡ true → size b.contents ≡ 4096 → size t.contents ≡ 4096 → Kept i Clock b t
step_kept i n b t e h s u l k =
    rw (clock-is-granted (size b.contents) b.registers.s l s, clock-is-granted (size t.contents) t.visible.s k u)
    (clock-kept i n b t e h u l k)

-- between cycles
between_step : (b : ClockBoard) → b.registers.sc ≡ 0 → b.registers.pc < 4096 → (z s : Bool) → eqb (size b.contents) 4096 ≡ z
    → b.registers.s ≡ s → Kept false Clock b (seen b)
between_step b p h false s e q =
    let r : turned_down Clock (size b.contents) b.registers.s ≡ Some 1 = rw e in
    rw r (inr (refl, refl, (p, h, refl)))
between_step b p h true false e q =
    let r : turned_down Clock (size b.contents) b.registers.s ≡ Some 3 = rw (e, q) in
    rw r (inr (refl, refl, (p, h, refl)))
between_step b p h true true e q =
    let l = eqb-true (size b.contents) 4096 e in
    step_kept false (clocks (seen b) - 1) b (seen b) (cycle-agrees b p q h) h q q l l

between : (x : Call) (b : ClockBoard) → b.registers.sc ≡ 0 → b.registers.pc < 4096 → Kept false x b (seen b)
between Clock b p h = between_step b p h (eqb (size b.contents) 4096) b.registers.s refl refl
between Start b p h =
    let o = turned_down Start (size b.contents) b.registers.s in
    let b' = with_panel b.registers.pc true b.contents b in
    let k = panel o b 0 b' in
    inr (refl, k.0, (k.2 p p, keeps-pc o b 0 b' h h, k.1))
between (Aim a) b p h =
    let o = turned_down (Aim a) (size b.contents) b.registers.s in
    let k = panel o b 0 (with_panel a b.registers.s b.contents b) in
    inr (refl, k.0, (k.2 p p, aimed-pc (ltb 4095 a) b.registers.s b a (λ e. omega (arith, ltb-false 4095 a e)) h, k.1))
between (Deposit a w) b p h =
    let o = turned_down (Deposit a w) (size b.contents) b.registers.s in
    let b' = with_panel b.registers.pc b.registers.s (stored b.contents a w) b in
    let k = panel o b 0 b' in
    inr (refl, k.0, (k.2 p p, keeps-pc o b 0 b' h h, k.1))
between (Examine a) b p h =
    let o = turned_down (Examine a) (size b.contents) b.registers.s in
    let k = panel o b (fetched b.contents a) b in
    inr (refl, k.0, (k.2 p p, keeps-pc o b (fetched b.contents a) b h h, k.1))

-- Inside a cycle S is up, so that the panel is refused.
abbrev Refuse : Option ℕ → Option ℕ → Called ℕ ClockBoard → Called ℕ CycleBoard → ClockBoard → CycleBoard → Type 0
Refuse o o' g g' b t = ((unless o' t g').outcome ≡ (unless o b g).outcome) × Paired true (unless o b g).after (unless o' t g').after

refuse : (x : Call) (b : ClockBoard) (t : CycleBoard) (g : Called ℕ ClockBoard) (g' : Called ℕ CycleBoard)
    → (refusal : ℕ) × (turned_down x 4096 true ≡ Some refusal) → Paired true b t
    → Refuse (turned_down x (size b.contents) b.registers.s) (turned_down x (size t.contents) t.visible.s) g g' b t
refuse x b t g g' k h =
    subst₂ (λ (o o' : Option ℕ). Refuse o o' g g' b t)
    (sym (ap₂ (turned_down x) h.5 h.3 ∙ k.1)) (sym (ap₂ (turned_down x) h.6 h.4 ∙ k.1))
    (refl, h)

range-or-running : (past : Bool) → (refusal : ℕ) × (cond past (Some 2) (Some 4) ≡ Some refusal)
range-or-running true = (2, refl)
range-or-running false = (4, refl)

examined : (o : Option ℕ) (b : ClockBoard) (n : ℕ) (t : CycleBoard) → Paired true b t → Paired true (unless o b (gives n b)).after t
examined None b n t h = h
examined (Some refusal) b n t h = h

within : (x : Call) (b : ClockBoard) (t : CycleBoard) → Paired true b t → Kept true x b t
within Clock b t h = step_kept true h.0 b t h.1 h.2 h.3 h.4 h.5 h.6
within Start b t h =
    let k = refuse Start b t (clock_granted Start b) (cycle_granted Start t) (4, refl) h in
    inr (refl, k.0, k.1)
within (Aim a) b t h =
    let k = refuse (Aim a) b t (clock_granted (Aim a) b) (cycle_granted (Aim a) t) (range-or-running (ltb 4095 a)) h in
    inr (refl, k.0, k.1)
within (Deposit a w) b t h =
    let k = refuse (Deposit a w) b t (clock_granted (Deposit a w) b) (cycle_granted (Deposit a w) t) (range-or-running (ltb 4095 a)) h in
    inr (refl, k.0, k.1)
within (Examine a) b t h =
    inl (refl, examined (turned_down (Examine a) (size b.contents) b.registers.s) b (fetched b.contents a) t h)

one-call : (i : Bool) (x : Call) (b : ClockBoard) (t : CycleBoard) → Paired i b t → Kept i x b t
one-call true x b t h = within x b t h
one-call false x b t h = subst (λ (u : CycleBoard). Kept false x b u) h.2 (between x b h.0 h.1)

-- the twin of a board between cycles
pub agree : (b : ClockBoard) (t : CycleBoard) → seen b ≡ t → Agree b t
agree b t h = subst (Agree b) h (grind arith)

pub twins : (calls : List Call) (b : ClockBoard) → b.registers.sc ≡ 0 → b.registers.pc < 4096 → Twins calls b (seen b)
twins calls b p h =
    let k = goes one-call calls false b (seen b) (p, h, refl) in
    record { call_by_call = k.0; between_cycles = λ i. agree _ _ (k.1 i) }

pub twins-agree : TwinsAgree
twins-agree contents contents' rule rule' same alike calls =
    let lines : rule ≡ rule' = fun_ext alike in
    subst₂ (λ (c : Contents) (q : Rule). Twins calls (new_clock_board contents rule) (new_cycle_board c q)) same lines
    (twins calls (new_clock_board contents rule) refl (lit< tt))

-- a granted clock, and a granted cycle
pub clock-granted-is : (b : ClockBoard) → size b.contents ≡ 4096 → b.registers.s ≡ true → on_clocked Clock b ≡ clock_granted Clock b
clock-granted-is b l s =
    ap (λ (o : Option ℕ). unless o b (clock_granted Clock b)) (clock-is-granted (size b.contents) b.registers.s l s)

pub cycle-granted-is : (t : CycleBoard) → size t.contents ≡ 4096 → t.visible.s ≡ true → on_cycled Clock t ≡ cycle_granted Clock t
cycle-granted-is t l s =
    ap (λ (o : Option ℕ). unless o t (cycle_granted Clock t)) (clock-is-granted (size t.contents) t.visible.s l s)

-- n clocks and one more, by which a cycle ends
module _ (k : ℕ) (t : CycleBoard) where
  clocks-after : (n : ℕ) (b : ClockBoard) → EndsAfter n b k t → b.registers.s ≡ true → size b.contents ≡ 4096
      → seen (after_all on_clocked (times (suc n)) b) ≡ t
  clocks-after zero b e s l = rw (clock-granted-is b l s, after_all) e.2
  clocks-after (suc n) b e s l =
      rw (clock-granted-is b l s, after_all) (clocks-after n (clocked b) e.2 e.1 (clock-size b ∙ l))

  abbrev one_cycle : ℕ → List Made
  one_cycle n = record { call = Clock; outcome = answered n } ∷ []

  clocks-short : (j : ℕ) → k ≡ suc j → (n : ℕ) (i : Bool) (b : ClockBoard) → EndsAfter n b k t → b.registers.s ≡ true
      → size b.contents ≡ 4096 → short_list i (made on_clocked (times (suc n)) b) ≡ one_cycle k
  clocks-short j q zero i b e s l =
      rw (clock-granted-is b l s, made, e.0 ∙ q) (ap one_cycle (sym q))
  clocks-short j q (suc n) i b e s l =
      rw (clock-granted-is b l s, made, e.0) (clocks-short j q n true (clocked b) e.2 e.1 (clock-size b ∙ l))

pub cycle-by-clocks : CycleByClocks
cycle-by-clocks b p q h l =
    let t = seen b in
    let k = clocks t in
    let j = some-clocks t in
    let one_less : k - 1 ≡ j.0 = omega (arith, j.1) in
    let e : EndsAfter j.0 b k (cycled t) = subst (λ (n : ℕ). EndsAfter n b k (cycled t)) one_less (cycle-agrees b p q h) in
    let g = cycle-granted-is t l q in
    record {
      clocks =
          subst (λ (n : ℕ). short (times n) b ≡ record { call = Clock; outcome = answered k } ∷ []) (sym j.1)
          (clocks-short k (cycled t) j.0 j.1 j.0 false b e q l);
      cycle = ap (λ (x : Called ℕ CycleBoard). x.outcome) g;
      after =
          ap (λ (n : ℕ). seen (after_all on_clocked (times n) b)) j.1
          ∙ clocks-after k (cycled t) j.0 b e q l
          ∙ sym (ap (λ (x : Called ℕ CycleBoard). x.after) g);
    }
