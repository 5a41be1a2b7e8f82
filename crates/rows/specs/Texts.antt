-- How pieces of text are laid out, in columns and in lines.
use Rattle.std.specs.Prelude.{ℕ, ◌-◌, List, [], ◌∷◌, ◌++◌, length, replicate}
use Rattle.std.specs.List.{flat_map}

-- A cell, and spaces up to where the next column begins.
abbrev pub padded : ℕ → List ℕ → List ℕ
padded room cell = cell ++ replicate (room - length cell) 32

-- Cells side by side. Each column but the last has the room from where it begins to where the next one does.
abbrev pub in_columns : List ℕ → List (List ℕ) → List ℕ
in_columns rooms [] = []
in_columns [] (cell ∷ cells) = cell ++ in_columns [] cells
in_columns (room ∷ rooms) (cell ∷ cells) = padded room cell ++ in_columns rooms cells

-- A line: a name, a space and a cell.
abbrev pub named : List ℕ → List ℕ → List ℕ
named name cell = name ++ (32 ∷ (cell ++ 10 ∷ []))

-- Names and cells, a line each.
abbrev pub in_lines : List (List ℕ × List ℕ) → List ℕ
in_lines lines = flat_map (λ line. named line.0 line.1) lines
