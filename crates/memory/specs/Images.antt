-- The words of an image: bytes 2i and 2i+1 make word i, the high byte first. An odd last byte is no part of a word.
use Rattle.std.specs.Prelude.{ℕ, ◌+◌, ◌*◌, ◌/◌, ◌%◌, cond, List, [], ◌∷◌, length, nat_lt, slice_set}

abbrev pub words_of : List ℕ → List ℕ
words_of [] = []
words_of (odd ∷ []) = []
words_of (high ∷ low ∷ bytes) = (256 * high + low) ∷ words_of bytes

-- the bytes after a store: the two of one word replaced, every other as it was
abbrev pub stored_bytes : List ℕ → ℕ → ℕ → List ℕ
stored_bytes bytes address word =
    cond (nat_lt (2 * address + 1) (length bytes)) (slice_set (slice_set bytes (2 * address) (word / 256)) (2 * address + 1) (word % 256)) bytes
