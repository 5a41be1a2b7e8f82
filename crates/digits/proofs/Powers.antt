-- The digits of an address and of a word, by powers of sixteen.
use Rattle.std.proofs.Common.{◌≡◌, ℕ, ◌/◌, ◌∷◌, ap, ◌∙◌, arith}
use Rattle.digits.specs.Digits.{digits, last_digit, byte_digits, address_digits, word_digits}

pub three_digits : (n : ℕ) → digits 3 n ≡ address_digits n
three_digits n = let e : n / 16 / 16 ≡ n / 256 = omega arith in ap (λ x. last_digit x ∷ byte_digits n) e

pub four_digits : (n : ℕ) → digits 4 n ≡ word_digits n
four_digits n =
    let e : n / 16 / 16 / 16 ≡ n / 4096 = omega arith in
    ap (λ x. last_digit x ∷ digits 3 n) e ∙ ap (λ ds. last_digit (n / 4096) ∷ ds) (three_digits n)
