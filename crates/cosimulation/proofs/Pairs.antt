-- One more call of a co-simulation.
use Rattle.std.proofs.Common.{◌≡◌, ℕ, suc, ◌+◌, ◌<◌, Bool, cond, List, [], ◌∷◌, ◌++◌, length, get_or, drop, Result, sym, refl, ap, ◌∙◌, add-one, drop-cons}
use lib.Seq.{drop-length}
use Rattle.machine.specs.declared.call.Call.{Call}
use Rattle.machine.specs.declared.refusal.Refusal.{Refusal}
use Rattle.machine.specs.Calls.{Outcome, outcome, on_clocked, on_cycled}
use Rattle.machine.specs.Cosimulation.{Pair, advanced, all_advanced}
use Rattle.machine.specs.Lists.{inside_then, step, struck}
use Rattle.cosimulation.specs.Pairs.{outcomes}

pub one_more : (calls : List Call) (i : ℕ) (d : Call) (p p' q : Pair) → i < length calls → p' ≡ advanced (get_or calls i d) p
    → all_advanced (drop i calls) p ≡ q → all_advanced (drop (i + 1) calls) p' ≡ q
one_more calls i d p p' q h a k =
    ap (λ (n : ℕ). all_advanced (drop n calls) p') (add-one i)
    ∙ ap (all_advanced (drop (suc i) calls)) a
    ∙ ap (λ (xs : List Call). all_advanced xs p) (sym (drop-cons calls i d h))
    ∙ k

pub all_made : (calls : List Call) (i : ℕ) (p q : Pair) → i ≡ length calls → all_advanced (drop i calls) p ≡ q → p ≡ q
all_made calls i p q e k = ap (λ (xs : List Call). all_advanced xs p) (sym (ap (λ (n : ℕ). drop n calls) e ∙ drop-length calls)) ∙ k

-- one more outcome
push-one : (xs : List (Result ℕ Refusal)) (x : Result ℕ Refusal) → outcomes (xs ++ x ∷ []) ≡ outcomes xs ++ outcome x ∷ []
push-one [] x = refl
push-one (y ∷ xs) x = ap (λ os. outcome y ∷ os) (push-one xs x)

pub pushed : (xs ys : List (Result ℕ Refusal)) (x : Result ℕ Refusal) (o : Outcome ℕ) → ys ≡ xs ++ x ∷ [] → outcome x ≡ o → outcomes ys ≡ outcomes xs ++ o ∷ []
pushed xs ys x o e h = ap outcomes e ∙ push-one xs x ∙ ap (λ (p : Outcome ℕ). outcomes xs ++ p ∷ []) h

-- part by part, one call of the list
pub advances : (x : Call) (p p' : Pair) (o : Outcome ℕ) (out : Bool) → o ≡ (on_clocked x p.computer).outcome → out ≡ struck p.inside x o
    → p'.computer ≡ (on_clocked x p.computer).after
    → p'.twin ≡ cond out p.twin (on_cycled x p.twin).after
    → p'.inside ≡ inside_then p.inside (step x o)
    → p'.outcomes ≡ p.outcomes ++ o ∷ []
    → p'.twin_outcomes ≡ cond out p.twin_outcomes (p.twin_outcomes ++ (on_cycled x p.twin).outcome ∷ [])
    → p' ≡ advanced x p
advances x p p' o out e s c t i os ts =
    let out' : out ≡ struck p.inside x (on_clocked x p.computer).outcome = s ∙ ap (struck p.inside x) e in
    λ j. record {
      computer = c j;
      twin = (t ∙ ap (λ (b : Bool). cond b p.twin (on_cycled x p.twin).after) out') j;
      inside = (i ∙ ap (λ (q : Outcome ℕ). inside_then p.inside (step x q)) e) j;
      outcomes = (os ∙ ap (λ (q : Outcome ℕ). p.outcomes ++ q ∷ []) e) j;
      twin_outcomes = (ts ∙ ap (λ (b : Bool). cond b p.twin_outcomes (p.twin_outcomes ++ (on_cycled x p.twin).outcome ∷ [])) out') j;
    }
