-- What a value says, by its bytes.
use Rattle.std.specs.Prelude.{ℕ, suc, ◌+◌, cond, List, [], ◌∷◌, length, take, drop, Some, None, Option, ◌==◌, nat_le}
use Rattle.std.specs.Option.{option_zip}
use Rattle.fields.specs.Outcomes.{if_some}
use Rattle.fields.specs.Numbers.{number_in}

abbrev pub at_most : ℕ → ℕ → Option ℕ
at_most most n = cond (nat_le n most) (Some n) None

-- a number of 1 to 18 decimal digits
abbrev pub number_up_to : ℕ → List ℕ → Option ℕ
number_up_to most w = if_some (number_in 10 18 w) (at_most most)

-- an address of 1 to 4 hexadecimal digits, up to FFF
abbrev pub address_in : List ℕ → Option ℕ
address_in w = if_some (number_in 16 4 w) (at_most 4095)

-- how many bytes come before the first `-`
abbrev pub dash_at : List ℕ → ℕ
dash_at [] = 0
dash_at (b ∷ bs) = cond (b == 45) 0 (suc (dash_at bs))

-- two addresses around a `-`, or one that is both
abbrev pub addresses_at : ℕ → List ℕ → Option (ℕ × ℕ)
addresses_at n w =
    cond (n == length w) (option_zip (address_in w) (address_in w))
    (option_zip (address_in (take n w)) (address_in (drop (n + 1) w)))

abbrev pub addresses_in : List ℕ → Option (ℕ × ℕ)
addresses_in w = addresses_at (dash_at w) w
