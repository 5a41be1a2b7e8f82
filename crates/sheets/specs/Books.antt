-- The labels of a book.
use Rattle.std.specs.Prelude.{ℕ, List, length, take}
use Rattle.sheets.specs.declared.book.ClosedBook.{ClosedBook}
use Rattle.sheets.specs.declared.book.OpenBook.{OpenBook}
use Rattle.sheets.specs.declared.label.Label.{Label}
use Rattle.sheets.specs.Sheets.{sheet_of}
use Rattle.sheets.specs.Taking.{Taken, taking}

-- the records that an open book stands over
abbrev pub records_of : OpenBook → List Label
records_of b = b.records.now

abbrev pub open_labels : OpenBook → List Label
open_labels b = take b.count (records_of b)

abbrev pub closed_labels : ClosedBook → List Label
closed_labels b = b.labels.now

-- the taking of a text into an open book
abbrev pub taking_into : OpenBook → List ℕ → Taken
taking_into b text = taking (length (records_of b)) (open_labels b) (sheet_of text)
