-- Results that came out as an answer.
use Rattle.std.proofs.Common.{◌≡◌, Bool, true, false, cond, ◌&&◌, Some, None, Ok, Err, Option, Result, refl}
use Rattle.fields.specs.Outcomes.{and_then, or_fault}

module _ {X E : Type 0} where
  pub clash : (e : E) (x : X) → ◌≡◌ {A = Result X E} (Err e) (Ok x) → ⊥
  clash e x h = cc

  pub ok_same : (x y : X) → ◌≡◌ {A = Result X E} (Ok x) (Ok y) → x ≡ y
  ok_same x y h = cc

  pub ok-then : (b : Bool) (x y : X) (e : E) → ◌≡◌ {A = Result X E} (cond b (Ok x) (Err e)) (Ok y) → x ≡ y
  ok-then true x y e h = cc
  ok-then false x y e h = cc

  pub ok-else : (b : Bool) (r : Result X E) (y : X) (e : E) → cond b (Err e) r ≡ Ok y → (b ≡ false) × (r ≡ Ok y)
  ok-else true r y e h = cc
  ok-else false r y e h = (refl, h)

  pub ok-when : (b : Bool) (r : Result X E) (y : X) (e : E) → cond b r (Err e) ≡ Ok y → (b ≡ true) × (r ≡ Ok y)
  ok-when true r y e h = (refl, h)
  ok-when false r y e h = cc

module _ {X Y E : Type 0} where
  pub ok-both : (r : Result X E) (next : X → Result Y E) (y : Y) → and_then r next ≡ Ok y → (x : X) × (r ≡ Ok x) × (next x ≡ Ok y)
  ok-both (Ok x) next y h = (x, refl, h)
  ok-both (Err e) next y h = cc

  pub ok-some : (o : Option X) (next : X → Result Y E) (y : Y) (e : E) → or_fault e o next ≡ Ok y → (x : X) × (o ≡ Some x) × (next x ≡ Ok y)
  ok-some (Some x) next y e h = (x, refl, h)
  ok-some None next y e h = cc

pub both_true : (a b : Bool) → (a && b) ≡ true → (a ≡ true) × (b ≡ true)
both_true true b h = (refl, h)
both_true false b h = cc
