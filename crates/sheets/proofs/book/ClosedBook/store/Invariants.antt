use Rattle.std.proofs.Common.{◌≡◌, ◌+◌, ◌≤◌, Ok}
use Rattle.sheets.specs.Laying.{cells_of, cells, checked, stored_all, summary, summary_from}
use Rattle.sheets.specs.Readers.{sheet_left, most_left}
use Rattle.sheets.specs.Sheets.{sheet_of}
use Rattle.sheets.proofs.book.ClosedBook.store.Given as goal

-- the statements left can be laid, and lead on from the words laid so far as the whole text does
abbrev pub invariant-loop-placed : goal.invariant-loop-placed
invariant-loop-placed g l =
    (goal.iterator-loop-placed g).can_next l.placed-iterator
    × (goal.iterator-loop-placed g).is_finite l.placed-iterator
    × (checked (cells_of l.self.labels.now (sheet_left l.placed-iterator)) ≡ Ok tt)
    × (summary (cells (cells_of l.self.labels.now (sheet_of l.text))) ≡ summary_from l.laid (cells (cells_of l.self.labels.now (sheet_left l.placed-iterator))))
    × (stored_all (g.M.Memory.contents l.initial.memory) (cells (cells_of l.self.labels.now (sheet_of l.text)))
    ≡ stored_all (g.M.Memory.contents l.memory) (cells (cells_of l.self.labels.now (sheet_left l.placed-iterator))))
    × (l.laid.0 + most_left l.placed-iterator ≤ 65536)
