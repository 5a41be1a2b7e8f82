-- Four digits are read as their number.
use Rattle.std.proofs.Common.{◌≡◌, ℕ, ◌+◌, ◌*◌, ◌/◌, ◌%◌, ◌<◌, true, false, cond, ltb, [], ◌∷◌, Some, ap, ◌∙◌, mod-lt, arith, lit<}
use Rattle.std.proofs.lemmas.Bool.Decides.{nat_tests}
use Rattle.fields.specs.Fields.{plain, ends}
use Rattle.fields.specs.Numbers.{digit_in, number_in}
use Rattle.digits.specs.Digits.{last_digit, word_digits}

module _ (d : ℕ) (small : d < 16) where
  byte-plain : plain (cond (ltb d 10) (48 + d) (55 + d)) ≡ true
  byte-plain = grind (arith, nat_tests)

  byte-inner : ends (cond (ltb d 10) (48 + d) (55 + d)) ≡ false
  byte-inner = grind (arith, nat_tests)

  byte-counts : digit_in 16 (cond (ltb d 10) (48 + d) (55 + d)) ≡ Some d
  byte-counts = grind (arith, nat_tests)

module _ (n : ℕ) where
  small : n % 16 < 16
  small = mod-lt n (lit< tt)

  pub digit-plain : plain (last_digit n) ≡ true
  digit-plain = byte-plain (n % 16) small

  pub digit-inner : ends (last_digit n) ≡ false
  digit-inner = byte-inner (n % 16) small

  digit-counts : digit_in 16 (last_digit n) ≡ Some (n % 16)
  digit-counts = byte-counts (n % 16) small

module _ (a b c d p q r s : ℕ) where
  read : digit_in 16 a ≡ Some p → digit_in 16 b ≡ Some q → digit_in 16 c ≡ Some r → digit_in 16 d ≡ Some s
      → number_in 16 4 (a ∷ b ∷ c ∷ d ∷ []) ≡ Some (p * 4096 + (q * 256 + (r * 16 + (s * 1 + 0))))
  read ea eb ec ed = rw (ea, eb, ec, ed)

value : (n : ℕ) → n < 65536 → n / 4096 % 16 * 4096 + (n / 256 % 16 * 256 + (n / 16 % 16 * 16 + (n % 16 * 1 + 0))) ≡ n
value n h = omega arith

pub number_read : (n : ℕ) → n < 65536 → number_in 16 4 (word_digits n) ≡ Some n
number_read n h =
    read (last_digit (n / 4096)) (last_digit (n / 256)) (last_digit (n / 16)) (last_digit n) (n / 4096 % 16) (n / 256 % 16) (n / 16 % 16) (n % 16)
    (digit-counts (n / 4096)) (digit-counts (n / 256)) (digit-counts (n / 16)) (digit-counts n)
    ∙ ap (λ x. Some x) (value n h)

-- an address begins with the digit 0
pub address-first : (n : ℕ) → n < 4096 → last_digit (n / 4096) ≡ 48
address-first n h = let z : n / 4096 ≡ 0 = omega arith in ap last_digit z
