-- Lists of calls, each granted or refused on the board left by those before: what they returned, the short list, and the
-- list of cycles that they made.
use Rattle.std.specs.Prelude.{ℕ, zero, suc, Bool, true, false, cond, List, [], ◌∷◌, Some, None, Option}
use Rattle.machine.specs.declared.call.Call.{Call}
use Rattle.machine.specs.declared.call.Call.TheVariants.{Clock, Start, Aim, Deposit, Examine}
use Rattle.machine.specs.Boards.{ClockBoard}
use Rattle.machine.specs.Calls.{Outcome, answered, refused, Called, on_clocked}

-- a call that was made, with what it returned
pub record Made : Type 0 where
  pub call : Call
  pub outcome : Outcome ℕ

module _ {Board : Type 0} (on : Call → Board → Called ℕ Board) where
  -- the calls with what they returned
  abbrev pub made : List Call → Board → List Made
  made [] b = []
  made (x ∷ xs) b = record { call = x; outcome = (on x b).outcome } ∷ made xs (on x b).after

  -- the board after all of them
  abbrev pub after_all : List Call → Board → Board
  after_all [] b = b
  after_all (x ∷ xs) b = after_all xs (on x b).after

abbrev pub calls_of : List Made → List Call
calls_of [] = []
calls_of (m ∷ ms) = m.call ∷ calls_of ms

abbrev pub outcomes_of : List Made → List (Outcome ℕ)
outcomes_of [] = []
outcomes_of (m ∷ ms) = m.outcome ∷ outcomes_of ms

-- What a call was to the cycles: a granted clock that ended none, a granted clock that ended one of so many clocks, or no
-- granted clock at all.
pub data Step : Type 0 where
  on_its_way : Step
  ended : ℕ → Step
  no_clock : Step

abbrev pub step : Call → Outcome ℕ → Step
step Clock (answered zero) = on_its_way
step Clock (answered (suc k)) = ended (suc k)
step Clock (refused refusal) = no_clock
step Start outcome = no_clock
step (Aim a) outcome = no_clock
step (Deposit a w) outcome = no_clock
step (Examine a) outcome = no_clock

-- Inside a cycle or between cycles: inside after a granted clock that ended none, between after one that did, and else as
-- before.
abbrev pub inside_then : Bool → Step → Bool
inside_then inside on_its_way = true
inside_then inside (ended k) = false
inside_then inside no_clock = inside

abbrev pub inside_at_end : Bool → List Made → Bool
inside_at_end inside [] = inside
inside_at_end inside (m ∷ ms) = inside_at_end (inside_then inside (step m.call m.outcome)) ms

-- The short list. Struck out are a granted clock that ended no cycle and an examine made inside a cycle; a clock that is left
-- becomes one cycle, and all else stays as it was made.
abbrev pub struck : Bool → Call → Outcome ℕ → Bool
struck inside Clock (answered zero) = true
struck inside Clock (answered (suc k)) = false
struck inside Clock (refused refusal) = false
struck inside Start outcome = false
struck inside (Aim a) outcome = false
struck inside (Deposit a w) outcome = false
struck inside (Examine a) outcome = inside

abbrev pub short_list : Bool → List Made → List Made
short_list inside [] = []
short_list inside (m ∷ ms) =
    let rest = short_list (inside_then inside (step m.call m.outcome)) ms in
    cond (struck inside m.call m.outcome) rest (m ∷ rest)

-- the short list of some calls made on b, between cycles at first: each call with what its original returned
abbrev pub short : List Call → ClockBoard → List Made
short calls b = short_list false (made on_clocked calls b)

-- how many clocks were granted
abbrev pub counting : Step → ℕ → ℕ
counting on_its_way n = suc n
counting (ended k) n = suc n
counting no_clock n = n

abbrev pub clocks_granted : List Made → ℕ
clocks_granted [] = 0
clocks_granted (m ∷ ms) = counting (step m.call m.outcome) (clocks_granted ms)

-- A cycle that ended: the board on which its first clock was made, the board that it left, and its clocks.
pub record Ended : Type 0 where
  pub began : ClockBoard
  pub left : ClockBoard
  pub clocks : ℕ

-- The cycle under way, by the board on which its first clock was made; none between cycles.
abbrev pub beginning : Option ClockBoard → ClockBoard → ClockBoard
beginning None b = b
beginning (Some began) b = began

-- after a call on b
abbrev pub under_way_then : Option ClockBoard → Step → ClockBoard → Option ClockBoard
under_way_then u on_its_way b = Some (beginning u b)
under_way_then u (ended k) b = None
under_way_then u no_clock b = u

-- the cycle that a call on b ended, if any, and then the others; it left b'
abbrev pub ended_by : Option ClockBoard → Step → ClockBoard → ClockBoard → List Ended → List Ended
ended_by u on_its_way b b' rest = rest
ended_by u (ended k) b b' rest = record { began = beginning u b; left = b'; clocks = k } ∷ rest
ended_by u no_clock b b' rest = rest

-- the cycles that end during some calls, in order, with u under way at first
abbrev pub cycles : Option ClockBoard → List Call → ClockBoard → List Ended
cycles u [] b = []
cycles u (x ∷ xs) b =
    let now = step x (on_clocked x b).outcome in
    let b' = (on_clocked x b).after in
    ended_by u now b b' (cycles (under_way_then u now b) xs b')

-- the cycle under way after some calls
abbrev pub under_way : Option ClockBoard → List Call → ClockBoard → Option ClockBoard
under_way u [] b = u
under_way u (x ∷ xs) b = under_way (under_way_then u (step x (on_clocked x b).outcome) b) xs (on_clocked x b).after

-- the cycles that end during `later`, made after `before`: the first may have begun before
abbrev pub cycles_after : List Call → List Call → ClockBoard → List Ended
cycles_after before later b = cycles (under_way None before b) later (after_all on_clocked before b)
