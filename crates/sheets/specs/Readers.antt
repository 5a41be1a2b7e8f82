-- What a reader of a sheet has still to give.
use Rattle.std.specs.Prelude.{◌≡◌, ℕ, suc, length, Some, None, Ok, Err, Option, Result}
use Rattle.sheets.specs.declared.fault.SheetFault.{SheetFault}
use Rattle.sheets.specs.declared.placed.Placed.{Placed}
use Rattle.sheets.specs.declared.reader.SheetReader.{SheetReader}
use Rattle.sheets.specs.declared.walk.Walk.{Walk}
use Rattle.sheets.specs.Sheets.{Sheet, end, refused, placed}
use Rattle.sheets.specs.Walks.{ahead}

abbrev pub sheet_ahead : Option Walk → Sheet
sheet_ahead None = end
sheet_ahead (Some walk) = ahead walk

abbrev pub sheet_left : SheetReader → Sheet
sheet_left r = sheet_ahead r.walk

-- how many items may come: at most one for each byte, and a refusal at the end
abbrev pub most_ahead : Option Walk → ℕ
most_ahead None = 0
most_ahead (Some walk) = suc (length walk.rest.now)

abbrev pub most_left : SheetReader → ℕ
most_left r = most_ahead r.walk

-- the next statement that lays a word, or a refusal, which is the last; nothing at the end and after it
abbrev pub Gives : SheetReader → Option (Result Placed SheetFault) → SheetReader → Type 0
Gives before None after = (sheet_left before ≡ end) × (sheet_left after ≡ end)
Gives before (Some (Ok p)) after = sheet_left before ≡ placed p (sheet_left after)
Gives before (Some (Err e)) after = (sheet_left before ≡ refused e) × (sheet_left after ≡ end)
