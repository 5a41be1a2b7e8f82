use Rattle.std.proofs.Common.{◌≡◌}
use Rattle.sheets.specs.Laying.{cells_of, checked}
use Rattle.sheets.specs.Readers.{sheet_left}
use Rattle.sheets.specs.Sheets.{sheet_of}
use Rattle.sheets.proofs.book.ClosedBook.check.Given as goal

-- the statements left decide
abbrev pub invariant-loop-placed : goal.invariant-loop-placed
invariant-loop-placed l =
    (goal.iterator-loop-placed).can_next l.placed-iterator
    × (goal.iterator-loop-placed).is_finite l.placed-iterator
    × (checked (cells_of l.self.labels.now (sheet_of l.text)) ≡ checked (cells_of l.self.labels.now (sheet_left l.placed-iterator)))
