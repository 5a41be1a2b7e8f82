-- What a granted taking and a granted laying come to.
use Rattle.std.specs.Prelude.{◌≡◌, ℕ, ◌≤◌, List, [], ◌∷◌, ◌++◌, length, Some, None, Ok, Err, Option, Result, ◌≢◌}
use Rattle.memory.specs.Contents.{Contents, size, fetched}
use Rattle.statements.specs.declared.statement.Name.{Name}
use Rattle.sheets.specs.declared.fault.SheetFault.{SheetFault}
use Rattle.sheets.specs.declared.label.Label.{Label}
use Rattle.sheets.specs.declared.placed.Cell.{Cell}
use Rattle.sheets.specs.Labels.{lookup}
use Rattle.sheets.specs.Laying.{summary}
use Rattle.sheets.specs.Sheets.{Sheet, end, refused, placed}
use Rattle.sheets.specs.Taking.{Taken}

-- The labels of a sheet, each with the address of its statement, in the order of the text.
abbrev pub labelled : Option Name → ℕ → List Label
labelled None address = []
labelled (Some name) address = record { name = name; address = address } ∷ []

abbrev pub labels_of : Sheet → List Label
labels_of end = []
labels_of (refused e) = []
labels_of (placed p rest) = labelled p.label p.address ++ labels_of rest

-- No name stands for two addresses.
abbrev pub Distinct : List Label → Type 0
Distinct [] = Unit {0}
Distinct (label ∷ labels) = (lookup labels label.name ≡ None) × Distinct labels

-- After a granted taking the book holds what it held and then exactly the labels of the sheet. A refused one has entered
-- the first of these.
abbrev pub Grown : List Label → Sheet → Result ℕ SheetFault → List Label → Type 0
Grown held sheet (Ok n) labels = (labels ≡ held ++ labels_of sheet) × (n ≡ length labels)
Grown held sheet (Err e) labels = (others : List Label) × (labels ++ others ≡ held ++ labels_of sheet)

pub record Takes (room : ℕ) (held : List Label) (sheet : Sheet) (taken : Taken) : Type 0 where
  pub grown : Grown held sheet taken.answer taken.labels
  pub fits : length held ≤ room → length taken.labels ≤ room
  pub distinct : Distinct held → Distinct taken.labels

-- No word is laid at this address.
abbrev pub Untouched : ℕ → List Cell → Type 0
Untouched address [] = Unit {0}
Untouched address (c ∷ cs) = (address ≢ c.address) × Untouched address cs

-- Every word is laid between these addresses, ends included.
abbrev pub Between : ℕ → ℕ → List Cell → Type 0
Between low high [] = Unit {0}
Between low high (c ∷ cs) = (low ≤ c.address) × (c.address ≤ high) × Between low high cs

-- The answer for these words: their count, the lowest of their addresses and the highest, or three zeros.
abbrev pub Spans : List Cell → ℕ × ℕ × ℕ → Type 0
Spans [] answer = answer ≡ (0, 0, 0)
Spans (c ∷ cs) answer =
    (answer.0 ≡ length (c ∷ cs))
    × Between answer.1 answer.2 (c ∷ cs)
    × (Untouched answer.1 (c ∷ cs) → ⊥)
    × (Untouched answer.2 (c ∷ cs) → ⊥)

-- After these words are laid, the one laid last at an address stands there, and every other address is as it was.
pub record Lays (before : Contents) (cs : List Cell) (after : Contents) : Type 0 where
  pub sized : size after ≡ size before
  pub last : (front back : List Cell) (c : Cell) → cs ≡ front ++ c ∷ back → Untouched c.address back → fetched after c.address ≡ c.word
  pub others : (address : ℕ) → Untouched address cs → fetched after address ≡ fetched before address
  pub spans : Spans cs (summary cs)
