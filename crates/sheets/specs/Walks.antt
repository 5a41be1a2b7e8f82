-- What a walk through a sheet has still to read.
use Rattle.std.specs.Prelude.{◌≡◌, Ok, Err, Result}
use Rattle.fields.specs.Lines.{lines_of}
use Rattle.sheets.specs.declared.fault.SheetFault.{SheetFault}
use Rattle.sheets.specs.declared.placed.Step.{Step}
use Rattle.sheets.specs.declared.placed.Step.TheVariants as step
use Rattle.sheets.specs.declared.walk.Walk.{Walk}
use Rattle.sheets.specs.Sheets.{Sheet, end, refused, placed, read_from}

abbrev pub ahead : Walk → Sheet
ahead w = read_from w.lines w.address (lines_of w.rest.now)

-- one line more leads from the sheet `before` to the sheet `after`
abbrev pub Leads : Sheet → Result Step SheetFault → Sheet → Type 0
Leads before (Err e) after = before ≡ refused e
Leads before (Ok step.Nothing) after = before ≡ after
Leads before (Ok step.End) after = before ≡ end
Leads before (Ok (step.Lays p)) after = before ≡ placed p after
