-- Bytes of any kind as text that prints.
use Rattle.std.specs.Prelude.{◌≡◌, ℕ, ◌<◌, ◌≤◌, Bool, cond, ◌&&◌, List, [], ◌∷◌, codes, ◌==◌, nat_le}
use Rattle.digits.specs.Digits.{byte_digits}
use Rattle.std.specs.List.{flat_map, AllByRecursion}

-- A byte that stands for itself, if it is no backslash.
abbrev pub prints : ℕ → Bool
prints byte = nat_le 32 byte && nat_le byte 126

-- A backslash twice, a line end as \n, a byte that prints as it is, and any other as \xHH.
abbrev pub escaped_byte : ℕ → List ℕ
escaped_byte byte =
    cond (byte == 92) (92 ∷ 92 ∷ []) (cond (byte == 10) (codes "\\n") (cond (prints byte) (byte ∷ []) (92 ∷ 120 ∷ byte_digits byte)))

abbrev pub escaped_of : List ℕ → List ℕ
escaped_of bytes = flat_map escaped_byte bytes

-- Every byte of a text prints.
abbrev pub Printable : List ℕ → Type 0
Printable text = AllByRecursion (λ byte. (32 ≤ byte) × (byte ≤ 126)) text

-- The text tells the bytes: it is the text of no others.
abbrev pub Tells : List ℕ → List ℕ → Type 0
Tells text bytes = (other : List ℕ) → AllByRecursion (λ byte. byte < 256) other → escaped_of other ≡ text → other ≡ bytes
