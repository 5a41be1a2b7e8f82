-- Numbers, digit by digit: each digit counts itself times its own power of the radix.
use Rattle.std.specs.Prelude.{ℕ, ◌+◌, ◌-◌, ◌*◌, ◌^◌, cond, ◌&&◌, List, [], ◌∷◌, length, Some, None, Option, nat_le, nat_lt}
use Rattle.fields.specs.Outcomes.{if_some}

-- what a digit counts: after 9 come the letters A to F
abbrev pub digit_of : ℕ → Option ℕ
digit_of b = cond (nat_le 48 b && nat_le b 57) (Some (b - 48)) (cond (nat_le 65 b && nat_le b 70) (Some (b - 55)) None)

abbrev pub below : ℕ → ℕ → Option ℕ
below radix d = cond (nat_lt d radix) (Some d) None

abbrev pub digit_in : ℕ → ℕ → Option ℕ
digit_in radix b = if_some (digit_of b) (below radix)

-- the digits of a word, if it has no other bytes
abbrev pub digits_in : ℕ → List ℕ → Option (List ℕ)
digits_in radix [] = Some []
digits_in radix (b ∷ bs) = if_some (digit_in radix b) (λ d. if_some (digits_in radix bs) (λ ds. Some (d ∷ ds)))

abbrev pub place_value : ℕ → List ℕ → ℕ
place_value radix [] = 0
place_value radix (d ∷ ds) = d * radix ^ length ds + place_value radix ds

-- the number of a word of one to `most` digits
abbrev pub number_in : ℕ → ℕ → List ℕ → Option ℕ
number_in radix most word =
    cond (nat_le 1 (length word) && nat_le (length word) most) (if_some (digits_in radix word) (λ ds. Some (place_value radix ds))) None
