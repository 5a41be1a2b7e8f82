-- Taking the names of a sheet.
use Rattle.std.specs.Prelude.{ℕ, cond, List, [], ◌∷◌, ◌++◌, length, is_some, Some, None, Ok, Err, Option, Result, nat_le}
use Rattle.statements.specs.declared.statement.Name.{Name}
use Rattle.sheets.specs.declared.fault.SheetFault.{SheetFault}
use Rattle.sheets.specs.declared.fault.SheetFault.TheVariants.{LabelTaken, BookFull, PastMemory}
use Rattle.sheets.specs.declared.label.Label.{Label}
use Rattle.sheets.specs.declared.placed.Placed.{Placed}
use Rattle.sheets.specs.Labels.{lookup, over}
use Rattle.sheets.specs.Sheets.{Sheet, end, refused, placed}

-- a word laid at address 4096 is refused
abbrev pub placing : Placed → List Label → Result (List Label) SheetFault
placing p labels = cond (nat_le p.address 4095) (Ok labels) (Err (PastMemory p.line))

-- the labels of a book of that room with one statement more, or the refusal of that statement
abbrev pub labelling : ℕ → List Label → Placed → Option Name → Result (List Label) SheetFault
labelling room held p None = placing p held
labelling room held p (Some name) =
    cond (is_some (lookup held name)) (Err (LabelTaken p.line))
    (cond (nat_le room (length held)) (Err (BookFull p.line))
    (placing p (held ++ record { name = name; address = p.address } ∷ [])))

abbrev pub entering : ℕ → List Label → Placed → Result (List Label) SheetFault
entering room held p = labelling room held p p.label

-- the labels entered when a taking ends, and its answer: their count, or the first refusal
pub record Taken : Type 0 where
  pub labels : List Label
  pub answer : Result ℕ SheetFault

abbrev pub go_on : Result (List Label) SheetFault → List Label → (List Label → Taken) → Taken
go_on (Ok more) held next = next more
go_on (Err e) held next = record { labels = held; answer = Err e }

-- the statements of a sheet one after the other
abbrev pub taking : ℕ → List Label → Sheet → Taken
taking room held end = record { labels = held; answer = Ok (length held) }
taking room held (refused e) = record { labels = held; answer = Err e }
taking room held (placed p rest) = go_on (entering room held p) held (λ more. taking room more rest)

-- the labels that a book holds after a taking: a refusal leaves its count as it was
abbrev pub kept : Result ℕ SheetFault → List Label → List Label → List Label
kept (Ok n) labels held = labels
kept (Err e) labels held = held

-- what entering one statement answers, and the records after it
abbrev pub entered : Result (List Label) SheetFault → Result ℕ SheetFault
entered (Ok more) = Ok (length more)
entered (Err e) = Err e

abbrev pub records_after : Result (List Label) SheetFault → List Label → List Label
records_after (Ok more) records = over more records
records_after (Err e) records = records
