-- One digit more of a number that is carried from digit to digit.
use Rattle.std.proofs.Common.{◌≡◌, ℕ, zero, suc, ◌+◌, ◌*◌, ◌^◌, ◌<◌, ◌≤◌, List, ◌∷◌, length, get_or, drop, Some, None, Option, sym, refl, ap, ◌∙◌, mul_assoc, add-mul, mul-suc, mul_comm, mul-le-mul_left, zero-mul, mul-one, add-one, arith}
use native.Mathlib.Nat.{pow-zero, pow-succ', pow-le-pow_right}
use Rattle.std.proofs.lemmas.List.{at_drop_more, at_drop_all}
use Rattle.std.proofs.lemmas.Bool.Decides.{nat_tests}
use Rattle.fields.specs.Outcomes.{if_some}
use Rattle.fields.specs.Numbers.{digit_in, digits_in, place_value}

pub digit-below : (radix b d : ℕ) → Some d ≡ digit_in radix b → d < radix
digit-below radix b d e = grind (arith, nat_tests)

-- the value v, carried, and then these digits
abbrev pub carried : ℕ → ℕ → List ℕ → Option ℕ
carried radix v w = if_some (digits_in radix w) (λ ds. Some (v * radix ^ length ds + place_value radix ds))

-- one digit more is the radix times the value, and the digit
shifted : (radix v d : ℕ) (ds : List ℕ) → v * radix ^ length (d ∷ ds) + place_value radix (d ∷ ds) ≡ (v * radix + d) * radix ^ length ds + place_value radix ds
shifted radix v d ds =
    let q = radix ^ length ds in
    let up : v * radix ^ suc (length ds) ≡ v * radix * q = ap (λ n. v * n) (pow-succ' radix (length ds)) ∙ sym (mul_assoc v radix q) in
    omega (arith, up, add-mul (v * radix) d q)

more : (radix v d : ℕ) (ds : Option (List ℕ)) → if_some (if_some ds (λ l. Some (d ∷ l))) (λ l. Some (v * radix ^ length l + place_value radix l)) ≡ if_some ds (λ l. Some ((v * radix + d) * radix ^ length l + place_value radix l))
more radix v d (Some ds) = ap (λ n. Some n) (shifted radix v d ds)
more radix v d None = refl

-- a number that is carried stays below the power of as many digits
pub value-below : (v radix d i : ℕ) → v < radix ^ i → d < radix → v * radix + d < radix ^ (i + 1)
value-below v radix d i h l =
    let k : suc v ≤ radix ^ i = omega arith in
    let p : radix * suc v ≤ radix * radix ^ i = mul-le-mul_left radix k in
    rw (add-one, pow-succ') (omega (arith, p, mul-suc radix v, mul_comm radix v))

power_within : (radix i most : ℕ) → 0 < radix → i ≤ most → radix ^ i ≤ radix ^ most
power_within radix i most h l = pow-le-pow_right h l

pub below_most : (v radix i most : ℕ) → v < radix ^ i → 0 < i → i ≤ most → v < radix ^ most
below_most v zero zero most h p l = absurd (omega arith)
below_most v zero (suc i) most h p l = absurd (omega (arith, pow-succ' 0 i, zero-mul (0 ^ i)))
below_most v (suc r) i most h p l = omega (arith, power_within (suc r) i most (omega arith) l)

pub value-fits : (v radix d i most : ℕ) → v < radix ^ i → d < radix → i < most → v * radix + d < radix ^ most
value-fits v radix d i most h l k = omega (arith, value-below v radix d i h l, power_within radix (i + 1) most (omega arith) (omega arith))

alone : (radix : ℕ) (ds : Option (List ℕ)) → if_some ds (λ l. Some (0 * radix ^ length l + place_value radix l)) ≡ if_some ds (λ l. Some (place_value radix l))
alone radix (Some ds) = ap (λ n. Some n) (omega (arith, zero-mul (radix ^ length ds)))
alone radix None = refl

-- from nothing the digits count alone
pub carried-zero : (radix : ℕ) (w : List ℕ) → carried radix 0 w ≡ if_some (digits_in radix w) (λ ds. Some (place_value radix ds))
carried-zero radix w = alone radix (digits_in radix w)

module _ (w : List ℕ) (radix v i : ℕ) where
  pub value-more : (d : ℕ) → i < length w → Some d ≡ digit_in radix (get_or w i 0) → carried radix v (drop i w) ≡ carried radix (v * radix + d) (drop (i + 1) w)
  value-more d h e = at_drop_more (carried radix v) w i 0 h ∙ rw (← e) (more radix v d (digits_in radix (drop (i + 1) w)))

  pub value-bad : i < length w → None ≡ digit_in radix (get_or w i 0) → carried radix v (drop i w) ≡ None
  value-bad h e = at_drop_more (carried radix v) w i 0 h ∙ rw (← e)

  pub value-all : length w ≤ i → carried radix v (drop i w) ≡ Some v
  value-all h = at_drop_all (carried radix v) w i h ∙ ap (λ n. Some n) (ap (λ n. v * n + 0) (pow-zero radix) ∙ omega (arith, mul-one v))
