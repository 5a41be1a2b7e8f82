-- What a register holds, as hexadecimal digits with capital letters and leading zeros.
use Rattle.std.specs.Prelude.{ltb, Bool, cond, List, [], ◌∷◌, ◌++◌, ℕ, zero, suc, ◌+◌, ◌/◌, ◌%◌}

-- the byte for a number below 16: after 9 come the letters A to F
abbrev pub hex_digit : ℕ → ℕ
hex_digit d = cond (ltb d 10) (48 + d) (55 + d)

-- the last digit of a number
abbrev pub last_digit : ℕ → ℕ
last_digit n = hex_digit (n % 16)

-- the last digits of a number, so many of them
abbrev pub digits : ℕ → ℕ → List ℕ
digits zero n = []
digits (suc count) n = digits count (n / 16) ++ last_digit n ∷ []

abbrev pub flag_digit : Bool → List ℕ
flag_digit up = cond up 49 48 ∷ []

abbrev pub count_digit : ℕ → List ℕ
count_digit n = last_digit n ∷ []

abbrev pub byte_digits : ℕ → List ℕ
byte_digits n = last_digit (n / 16) ∷ last_digit n ∷ []

abbrev pub address_digits : ℕ → List ℕ
address_digits n = last_digit (n / 256) ∷ byte_digits n

abbrev pub word_digits : ℕ → List ℕ
word_digits n = last_digit (n / 4096) ∷ address_digits n
