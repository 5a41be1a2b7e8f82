-- What a report prints.
use Rattle.std.specs.Prelude.{ℕ, List, ◌++◌, codes}
use Rattle.std.specs.Fmt.{decimal}
use Rattle.fields.specs.declared.report.Report.{Report}

abbrev pub report_text : Report → List ℕ
report_text r = decimal r.number ++ (codes " on line " ++ (decimal r.line ++ (codes ", layer " ++ decimal r.layer)))
