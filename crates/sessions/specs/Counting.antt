-- What a run made, counted clock by clock or cycle by cycle.
use Rattle.std.specs.Prelude.{ℕ, ◌+◌, min, Bool, cond, ◌||◌, List, [], ◌∷◌, Ok, Err, Result, ◌==◌, nat_le, nat_lt}
use Rattle.machine.specs.declared.refusal.Refusal.{Refusal}
use Rattle.sessions.specs.declared.counts.Counts.{Counts}
use Rattle.sessions.specs.declared.counts.Limit.{Limit}

abbrev pub nothing : Counts
nothing = record { cycles = 0; clocks = 0; interrupts = 0 }

-- so many more, at most as many as 64 bits tell
abbrev pub more : ℕ → ℕ → ℕ
more n k = min (n + k) 18446744073709551615

-- an interrupt cycle is the one of three clocks
abbrev pub interrupt : ℕ → ℕ
interrupt k = cond (k == 3) 1 0

-- one cycle more, of k clocks
abbrev pub cycle_counted : ℕ → Counts → Counts
cycle_counted k c = record {
  cycles = more c.cycles 1;
  clocks = more c.clocks k;
  interrupts = more c.interrupts (interrupt k);
}

-- one clock more, which ended a cycle of k clocks, or none if k is 0
abbrev pub clock_counted : ℕ → Counts → Counts
clock_counted k c = record {
  cycles = more c.cycles (cond (nat_lt 0 k) 1 0);
  clocks = more c.clocks 1;
  interrupts = more c.interrupts (interrupt k);
}

-- a clock by what it returned: a refused one is none
abbrev pub outcome_counted : Result ℕ Refusal → Counts → Counts
outcome_counted (Ok k) c = clock_counted k c
outcome_counted (Err refusal) c = c

-- the clocks that returned this, one after the other
abbrev pub outcomes_counted : Counts → List (Result ℕ Refusal) → Counts
outcomes_counted c [] = c
outcomes_counted c (outcome ∷ outcomes) = outcomes_counted (outcome_counted outcome c) outcomes

-- a limit is reached by as many cycles, or by as many clocks
abbrev pub reached : Limit → Counts → Bool
reached limit c = nat_le limit.cycles c.cycles || nat_le limit.clocks c.clocks
