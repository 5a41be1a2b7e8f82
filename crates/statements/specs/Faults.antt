-- The number, line and layer of what the second layer refuses, or the layer below it, and what it means.
use Rattle.std.specs.Prelude.{ℕ, List, codes}
use Rattle.fields.specs.declared.report.Report.{Report}
use Rattle.fields.specs.Faults as fields
use Rattle.statements.specs.declared.fault.StatementFault.{StatementFault}
use Rattle.statements.specs.declared.fault.StatementFault.TheVariants.{Field, NoForm, OutOfRange}

abbrev pub reported : StatementFault → Report
reported (Field fault) = fields.reported fault
reported (NoForm line) = record { number = 7; line = line; layer = 2 }
reported (OutOfRange line) = record { number = 8; line = line; layer = 2 }

-- in words
abbrev pub meaning : StatementFault → List ℕ
meaning (Field fault) = fields.meaning fault
meaning (NoForm line) = codes "a statement of no form"
meaning (OutOfRange line) = codes "a number out of its range"
