-- The number, line and layer of what the third layer refuses, or a layer below it, and what it means.
use Rattle.std.specs.Prelude.{ℕ, List, codes}
use Rattle.fields.specs.declared.report.Report.{Report}
use Rattle.statements.specs.Faults as statements
use Rattle.sheets.specs.declared.fault.SheetFault.{SheetFault}
use Rattle.sheets.specs.declared.fault.SheetFault.TheVariants.{Statement, TextTooLong, LabelTaken, BookFull, PastMemory, LabelUnknown, NoEnd}
use Rattle.sheets.specs.declared.fault.LayingFault.{LayingFault}
use Rattle.sheets.specs.declared.fault.LayingFault.TheVariants.{MemorySize, Sheet}

abbrev pub reported : SheetFault → Report
reported (Statement fault) = statements.reported fault
reported TextTooLong = record { number = 5; line = 0; layer = 3 }
reported (LabelTaken line) = record { number = 9; line = line; layer = 3 }
reported (BookFull line) = record { number = 10; line = line; layer = 3 }
reported (PastMemory line) = record { number = 11; line = line; layer = 3 }
reported (LabelUnknown line) = record { number = 12; line = line; layer = 3 }
reported (NoEnd line) = record { number = 13; line = line; layer = 3 }

-- a memory of the wrong size has a number, and neither line nor layer
abbrev pub number_of : LayingFault → ℕ
number_of MemorySize = 1
number_of (Sheet fault) = (reported fault).number

-- in words
abbrev pub meaning : SheetFault → List ℕ
meaning (Statement fault) = statements.meaning fault
meaning TextTooLong = codes "the text has more than 65,535 bytes"
meaning (LabelTaken line) = codes "a label that stands before an earlier statement too"
meaning (BookFull line) = codes "a label for which the book has no room"
meaning (PastMemory line) = codes "a word past address FFF"
meaning (LabelUnknown line) = codes "a label that stands before no statement"
meaning (NoEnd line) = codes "the sheet has no END"

abbrev pub laying_meaning : LayingFault → List ℕ
laying_meaning MemorySize = codes "the memory has not 4096 words"
laying_meaning (Sheet fault) = meaning fault
