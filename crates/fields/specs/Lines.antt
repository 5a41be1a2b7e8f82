-- The lines of a text. Byte 10 ends a line and starts none; the last line may end with the text.
use Rattle.std.specs.Prelude.{◌≡◌, ℕ, suc, ◌<◌, cond, List, [], ◌∷◌, length, take, drop, Some, None, Option, ◌==◌}
use Rattle.std.specs.Borrow.{Bor}

-- a byte before the first line
abbrev pub prepend : ℕ → List (List ℕ) → List (List ℕ)
prepend b [] = (b ∷ []) ∷ []
prepend b (line ∷ lines) = (b ∷ line) ∷ lines

abbrev pub lines_of : List ℕ → List (List ℕ)
lines_of [] = []
lines_of (b ∷ bs) = cond (b == 10) ([] ∷ lines_of bs) (prepend b (lines_of bs))

-- how many bytes come before the first byte 10
abbrev pub line_length : List ℕ → ℕ
line_length [] = 0
line_length (b ∷ bs) = cond (b == 10) 0 (suc (line_length bs))

-- the first line of a text, and the text behind its byte 10
abbrev pub Split : List ℕ → Option (Bor (List ℕ) × Bor (List ℕ)) → Type 0
Split text None = text ≡ []
Split text (Some p) =
    (p.0.now ≡ take (line_length text) text) × (p.1.now ≡ drop (suc (line_length text)) text)

-- they are the first of the lines and the text of the others, which is shorter
abbrev pub Leads : List ℕ → Option (Bor (List ℕ) × Bor (List ℕ)) → Type 0
Leads text None = lines_of text ≡ []
Leads text (Some p) = (lines_of text ≡ p.0.now ∷ lines_of p.1.now) × (length p.1.now < length text)
