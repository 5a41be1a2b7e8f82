-- The runs of the co-simulation, and their laws.
use Rattle.std.proofs.Common.{◌≡◌, ℕ, Bool, false, cond, List, [], ◌∷◌, ◌++◌, sym, refl, ap, ◌∙◌, subst, append_assoc, append-nil, arith}
use Rattle.memory.specs.Contents.{Contents}
use Rattle.line.specs.Rules.{Rule, Proper, Alike}
use Rattle.machine.specs.declared.call.Call.{Call}
use Rattle.machine.specs.Boards.{ClockBoard, CycleBoard, new_clock_board}
use Rattle.machine.specs.Calls.{Outcome, on_clocked, on_cycled}
use Rattle.machine.specs.Lists.{Made, made, after_all, calls_of, outcomes_of, step, inside_then, inside_at_end, struck, short_list}
use Rattle.machine.specs.Cosimulation.{Pair, new_pair, advanced, all_advanced, returned, Runs, Lawful, RunsLawful, SideBySide}
use Rattle.machine.proofs.Twins.{twins-agree}
use Rattle.machine.proofs.Seven.{seven_at_most, clocks_counted, seven_end_one}
use Rattle.machine.proofs.Interrupts.{interrupt_in_time}
use Rattle.machine.proofs.Characters.{character_stays}
use Rattle.machine.proofs.Invariant.{invariant-kept}

-- what is left of both runs, from p on
record GoesOn (calls : List Call) (p q : Pair) : Type 0 where
  computer : q.computer ≡ after_all on_clocked calls p.computer
  outcomes : q.outcomes ≡ p.outcomes ++ outcomes_of (made on_clocked calls p.computer)
  inside : q.inside ≡ inside_at_end p.inside (made on_clocked calls p.computer)
  twin : q.twin ≡ after_all on_cycled (calls_of (short_list p.inside (made on_clocked calls p.computer))) p.twin
  twin_outcomes :
      q.twin_outcomes
      ≡ p.twin_outcomes ++ outcomes_of (made on_cycled (calls_of (short_list p.inside (made on_clocked calls p.computer))) p.twin)

-- the twin's part, with what is struck out apart
twin-on : (out : Bool) (m : Made) (ms : List Made) (t : CycleBoard)
    → after_all on_cycled (calls_of ms) (cond out t (on_cycled m.call t).after)
    ≡ after_all on_cycled (calls_of (cond out ms (m ∷ ms))) t
twin-on out m ms t = grind arith

twin-returns : (out : Bool) (m : Made) (ms : List Made) (t : CycleBoard) (os : List (Outcome ℕ))
    → cond out os (os ++ ((on_cycled m.call t).outcome ∷ []))
    ++ outcomes_of (made on_cycled (calls_of ms) (cond out t (on_cycled m.call t).after))
    ≡ os ++ outcomes_of (made on_cycled (calls_of (cond out ms (m ∷ ms))) t)
twin-returns out m ms t os = grind (arith, append_assoc)

goes_on : (calls : List Call) (p : Pair) → GoesOn calls p (all_advanced calls p)
goes_on [] p = record {
  computer = refl;
  outcomes = sym (append-nil p.outcomes);
  inside = refl;
  twin = refl;
  twin_outcomes = sym (append-nil p.twin_outcomes);
}
goes_on (x ∷ xs) p =
    let h = goes_on xs (advanced x p) in
    let o = (on_clocked x p.computer).outcome in
    let out = struck p.inside x o in
    let m : Made = record { call = x; outcome = o } in
    let ms = short_list (inside_then p.inside (step x o)) (made on_clocked xs (on_clocked x p.computer).after) in
    record {
      computer = h.computer;
      outcomes = h.outcomes ∙ append_assoc p.outcomes (o ∷ []) _;
      inside = h.inside;
      twin = h.twin ∙ twin-on out m ms p.twin;
      twin_outcomes = h.twin_outcomes ∙ twin-returns out m ms p.twin p.twin_outcomes;
    }

pub side_by_side : SideBySide
side_by_side calls contents rule contents' rule' =
    let h = goes_on calls (new_pair contents rule contents' rule') in
    record { computer = h.computer; outcomes = h.outcomes; inside = h.inside; twin = h.twin; twin_outcomes = h.twin_outcomes }

-- the calls with what they returned
returned-made : (calls : List Call) (c : ClockBoard) → returned calls (outcomes_of (made on_clocked calls c)) ≡ made on_clocked calls c
returned-made [] c = refl
returned-made (x ∷ xs) c = ap (λ (ms : List Made). record { call = x; outcome = (on_clocked x c).outcome } ∷ ms) (returned-made xs (on_clocked x c).after)

module _ (contents : Contents) (rule rule' : Rule) (alike : Alike rule rule') where
  abbrev c : ClockBoard
  c = new_clock_board contents rule

  lawful : (calls : List Call) (p : Pair) → Runs calls contents rule contents rule' p → Proper rule → Lawful calls contents rule rule' p
  lawful calls p h proper =
      let e : returned calls p.outcomes ≡ made on_clocked calls c = ap (returned calls) h.outcomes ∙ returned-made calls c in
      let k = twins-agree contents contents rule rule' refl alike calls in
      record {
        call_by_call = h.twin_outcomes ∙ ap outcomes_of k.call_by_call ∙ ap (λ (ms : List Made). outcomes_of (short_list false ms)) (sym e);
        at_end = λ i. rw (h.computer, h.twin) (k.between_cycles (ap (inside_at_end false) (sym e) ∙ i));
        between_cycles = λ before later q. (twins-agree contents contents rule rule' refl alike before).between_cycles;
        seven_at_most = rw e (seven_at_most contents rule calls);
        clocks_counted = rw e (clocks_counted contents rule calls);
        seven_end_one = λ before later q. seven_end_one contents rule before later;
        interrupt_in_time = λ before later q. interrupt_in_time contents rule before later;
        character_stays = λ before x later rest ch q. character_stays contents rule proper before x later ch;
        sound = rw h.computer (invariant-kept contents rule calls);
      }

pub runs-lawful : RunsLawful
runs-lawful calls contents contents' rule rule' p h e alike proper =
    lawful contents rule rule' alike calls p (subst (λ (c : Contents). Runs calls contents rule c rule' p) (sym e) h) proper
