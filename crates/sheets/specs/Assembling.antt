-- Both passes over one text, with an empty book of some room.
use Rattle.std.specs.Prelude.{ℕ, List, [], Result}
use Rattle.fields.specs.Outcomes.{lifted}
use Rattle.memory.specs.Contents.{Contents}
use Rattle.sheets.specs.declared.fault.LayingFault.{LayingFault}
use Rattle.sheets.specs.declared.fault.LayingFault.TheVariants.{Sheet}
use Rattle.sheets.specs.declared.placed.Cell.{Cell}
use Rattle.sheets.specs.Laying.{laying}
use Rattle.sheets.specs.Sheets.{sheet_of}
use Rattle.sheets.specs.Taking.{Taken, taking}

-- the names of a text
abbrev pub named : ℕ → List ℕ → Taken
named room text = taking room [] (sheet_of text)

-- the words that a text lays with its own names
abbrev pub assembling : ℕ → Contents → List ℕ → Result (List Cell) LayingFault
assembling room memory text = lifted Sheet (named room text).answer (λ _. laying (named room text).labels memory text)
