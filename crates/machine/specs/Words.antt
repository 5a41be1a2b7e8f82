-- Words of 16 bits and their fields.
use Rattle.std.specs.Prelude.{ℕ, ◌+◌, ◌-◌, ◌*◌, ◌/◌, ◌%◌, ◌^◌, Bool, cond, ◌==◌, nat_le}

-- bit i of a word
abbrev pub bit : ℕ → ℕ → Bool
bit i w = w / 2 ^ i % 2 == 1

-- bits 12 to 14
abbrev pub opcode : ℕ → ℕ
opcode w = w / 4096 % 8

-- bits 0 to 11
abbrev pub low12 : ℕ → ℕ
low12 w = w % 4096

-- bits 0 to 7
abbrev pub low8 : ℕ → ℕ
low8 w = w % 256

-- one more, in 12 bits and in 16
abbrev pub up12 : ℕ → ℕ
up12 a = (a + 1) % 4096

abbrev pub up16 : ℕ → ℕ
up16 w = (w + 1) % 65536

-- a sum in 16 bits, and its carry
abbrev pub sum16 : ℕ → ℕ → ℕ
sum16 a b = (a + b) % 65536

abbrev pub carry : ℕ → ℕ → Bool
carry a b = nat_le 65536 (a + b)

-- each bit turned
abbrev pub complement : ℕ → ℕ
complement a = 65535 - a

-- the word a circulated through the bit e: right, e becomes bit 15; left, e becomes bit 0
abbrev pub circulated_right : Bool → ℕ → ℕ
circulated_right e a = a / 2 + cond e 32768 0

abbrev pub circulated_left : Bool → ℕ → ℕ
circulated_left e a = (a * 2) % 65536 + cond e 1 0

-- a character in bits 0 to 7, with bits 8 to 15 kept
abbrev pub with_character : ℕ → ℕ → ℕ
with_character a character = a / 256 * 256 + character
