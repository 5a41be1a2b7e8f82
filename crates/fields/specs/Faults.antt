-- The number, line and layer of what the first layer refuses, and what it means.
use Rattle.std.specs.Prelude.{ℕ, List, codes}
use Rattle.fields.specs.declared.report.Report.{Report}
use Rattle.fields.specs.declared.fault.FieldFault.{FieldFault}
use Rattle.fields.specs.declared.fault.FieldFault.TheVariants.{BadByte}

abbrev pub reported : FieldFault → Report
reported (BadByte line) = record { number = 6; line = line; layer = 1 }

-- in words
abbrev pub meaning : FieldFault → List ℕ
meaning (BadByte line) = codes "a byte that may not stand in a sheet: only 32 to 126 may"
