-- The sheet of many words.
use Rattle.std.specs.Prelude.{ℕ, List, [], ◌∷◌, ◌++◌}
use Rattle.statements.specs.Letters.{D, E, N}
use Rattle.disassembly.specs.Rows.{disassembled}

abbrev pub ending : List ℕ
ending = E ∷ N ∷ D ∷ []

-- the rows of these words, each a line, and END
abbrev pub sheet_for : List ℕ → List ℕ
sheet_for [] = ending
sheet_for (word ∷ words) = disassembled word ++ 10 ∷ sheet_for words
