-- Rows assemble back to their words.
use Rattle.std.specs.Prelude.{◌≡◌, ℕ, ◌+◌, List, [], ◌∷◌, None, Ok}
use Rattle.statements.specs.declared.statement.Code.{Code}
use Rattle.statements.specs.declared.statement.Statement.TheVariants.{Lays}
use Rattle.statements.specs.Forms.{line_statement}
use Rattle.memory.specs.Contents.{Contents, size}
use Rattle.sheets.specs.declared.label.Label.{Label}
use Rattle.sheets.specs.declared.placed.Cell.{Cell}
use Rattle.sheets.specs.Assembling.{assembling}
use Rattle.sheets.specs.Laying.{code_word}

-- As any line of a sheet the text is a statement with no label, and what it lays is this word, whatever the labels.
pub record AssemblesBack (word : ℕ) (text : List ℕ) : Type 0 where
  pub code : Code
  pub read : (line : ℕ) → line_statement line text ≡ Ok (Lays None code)
  pub laid : (book : List Label) (line : ℕ) → code_word book line code ≡ Ok word

-- words from this address on
abbrev pub cells_from : ℕ → List ℕ → List Cell
cells_from address [] = []
cells_from address (word ∷ words) = record { address = address; word = word } ∷ cells_from (address + 1) words

-- Both passes over the text lay these words from address 0 on, and nothing else.
abbrev pub LaysWords : List ℕ → List ℕ → Type 0
LaysWords words text = (room : ℕ) (memory : Contents) → size memory ≡ 4096 → assembling room memory text ≡ Ok (cells_from 0 words)
