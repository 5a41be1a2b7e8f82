-- Both computers side by side: the first carries out some calls, and its twin their short list.
use Rattle.std.specs.Prelude.{◌≡◌, ℕ, ◌*◌, ◌≤◌, Bool, true, false, cond, List, [], ◌∷◌, ◌++◌, length, Some}
use Rattle.memory.specs.Contents.{Contents}
use Rattle.line.specs.Rules.{Rule, Proper, Alike}
use Rattle.machine.specs.declared.call.Call.{Call}
use Rattle.machine.specs.Beat.{flagged}
use Rattle.machine.specs.Boards.{ClockBoard, CycleBoard, new_clock_board, new_cycle_board, Sound}
use Rattle.machine.specs.Calls.{Outcome, on_clocked, on_cycled}
use Rattle.machine.specs.Lists.{Made, made, after_all, calls_of, outcomes_of, step, inside_then, inside_at_end, struck, short_list, short, clocks_granted, cycles_after}
use Rattle.machine.specs.Laws.{Agree, AllFew, Counted, InterruptNext, brought, NoInputTaken}

-- both boards, whether the first is inside a cycle, and what each has returned so far
pub record Pair : Type 0 where
  pub computer : ClockBoard
  pub twin : CycleBoard
  pub inside : Bool
  pub outcomes : List (Outcome ℕ)
  pub twin_outcomes : List (Outcome ℕ)

abbrev pub new_pair : Contents → Rule → Contents → Rule → Pair
new_pair contents rule contents' rule' = record {
  computer = new_clock_board contents rule;
  twin = new_cycle_board contents' rule';
  inside = false;
  outcomes = [];
  twin_outcomes = [];
}

-- one call of the list: on the first computer, and on its twin unless it is struck out
abbrev pub advanced : Call → Pair → Pair
advanced x p =
    let o = (on_clocked x p.computer).outcome in
    let out = struck p.inside x o in
    record {
      computer = (on_clocked x p.computer).after;
      twin = cond out p.twin (on_cycled x p.twin).after;
      inside = inside_then p.inside (step x o);
      outcomes = p.outcomes ++ (o ∷ []);
      twin_outcomes = cond out p.twin_outcomes (p.twin_outcomes ++ ((on_cycled x p.twin).outcome ∷ []));
    }

abbrev pub all_advanced : List Call → Pair → Pair
all_advanced [] p = p
all_advanced (x ∷ xs) p = all_advanced xs (advanced x p)

-- each call with what it returned
abbrev pub returned : List Call → List (Outcome ℕ) → List Made
returned [] outcomes = []
returned (x ∷ xs) [] = []
returned (x ∷ xs) (o ∷ os) = record { call = x; outcome = o } ∷ returned xs os

-- p is what comes of both runs, from new computers: the calls on the first, their short list on its twin.
pub record Runs (calls : List Call) (contents : Contents) (rule : Rule) (contents' : Contents) (rule' : Rule) (p : Pair) : Type 0 where
  pub computer : p.computer ≡ after_all on_clocked calls (new_clock_board contents rule)
  pub outcomes : p.outcomes ≡ outcomes_of (made on_clocked calls (new_clock_board contents rule))
  pub inside : p.inside ≡ inside_at_end false (made on_clocked calls (new_clock_board contents rule))
  pub twin : p.twin ≡ after_all on_cycled (calls_of (short calls (new_clock_board contents rule))) (new_cycle_board contents' rule')
  pub twin_outcomes :
      p.twin_outcomes ≡ outcomes_of (made on_cycled (calls_of (short calls (new_clock_board contents rule))) (new_cycle_board contents' rule'))

-- the laws of such runs
pub record Lawful (calls : List Call) (contents : Contents) (rule rule' : Rule) (p : Pair) : Type 0 where
  -- the twin returned, call by call, what the originals of its calls returned
  pub call_by_call : p.twin_outcomes ≡ outcomes_of (short_list false (returned calls p.outcomes))
  -- if the first is between cycles at the end, both agree
  pub at_end : inside_at_end false (returned calls p.outcomes) ≡ false → Agree p.computer p.twin
  -- and so they did whenever it was between cycles
  pub between_cycles :
      (before later : List Call) → before ++ later ≡ calls
      → inside_at_end false (made on_clocked before (new_clock_board contents rule)) ≡ false
      → Agree (after_all on_clocked before (new_clock_board contents rule))
      (after_all on_cycled (calls_of (short before (new_clock_board contents rule))) (new_cycle_board contents rule'))
  -- no cycle took more than seven clocks
  pub seven_at_most : AllFew (returned calls p.outcomes)
  -- and each answer is the true number
  pub clocks_counted : Counted (returned calls p.outcomes) 0
  -- from every point on, each seven granted clocks ended a cycle
  pub seven_end_one :
      (before later : List Call) → before ++ later ≡ calls → (k : ℕ)
      → 7 * k ≤ clocks_granted (made on_clocked later (after_all on_clocked before (new_clock_board contents rule)))
      → k ≤ length (cycles_after before later (new_clock_board contents rule))
  -- wherever IEN and a flag are up and R is down, the next cycle to end leaves R up, and the one after it is the interrupt cycle
  pub interrupt_in_time :
      (before later : List Call) → before ++ later ≡ calls
      → let c = (after_all on_clocked before (new_clock_board contents rule)).registers in
      c.ien ≡ true → flagged c.port ≡ true → c.r ≡ false
      → InterruptNext (cycles_after before later (new_clock_board contents rule))
  -- a character that came stays in INPR as long as no clock carries out a word with the INP mark
  pub character_stays :
      (before : List Call) (x : Call) (later rest : List Call) (character : ℕ) → before ++ (x ∷ later) ++ rest ≡ calls
      → let b = after_all on_clocked before (new_clock_board contents rule) in
      brought x b ≡ Some character → NoInputTaken later (on_clocked x b).after
      → (after_all on_clocked (before ++ (x ∷ later)) (new_clock_board contents rule)).registers.port.inpr ≡ character
  -- the first computer keeps the invariant
  pub sound : Sound p.computer.registers

-- From equal contents and lines that reply alike, whatever runs so is lawful.
abbrev pub RunsLawful : Type 0
RunsLawful =
    (calls : List Call) (contents contents' : Contents) (rule rule' : Rule) (p : Pair) → Runs calls contents rule contents' rule' p
    → contents ≡ contents' → Alike rule rule' → Proper rule → Lawful calls contents rule rule' p

-- The calls taken one by one on both boards run so.
abbrev pub SideBySide : Type 0
SideBySide =
    (calls : List Call) (contents : Contents) (rule : Rule) (contents' : Contents) (rule' : Rule)
    → Runs calls contents rule contents' rule' (all_advanced calls (new_pair contents rule contents' rule'))
