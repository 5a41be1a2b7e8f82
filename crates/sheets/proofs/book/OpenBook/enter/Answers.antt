use Rattle.std.proofs.Common.{arith, rules}
use Rattle.sheets.specs.declared.label.Label.{Label}
use Rattle.sheets.proofs.Labels.{over-more}
use Rattle.sheets.proofs.book.OpenBook.enter.Goals as goal

pub returns-clause-records : goal.returns-clause-records
returns-clause-records c =
    let l : Label = record { name = c.in-Some.name; address = c.args.placed.address } in
    let o = over-more c.args.n c.args.self.now.records.now l (omega arith) in
    search rules
