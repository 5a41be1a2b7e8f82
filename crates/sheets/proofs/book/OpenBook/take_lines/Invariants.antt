use Rattle.std.proofs.Common.{◌≡◌, ◌≤◌, length, take}
use Rattle.sheets.specs.Books.{open_labels}
use Rattle.sheets.specs.Labels.{over}
use Rattle.sheets.specs.Readers.{sheet_left}
use Rattle.sheets.specs.Sheets.{sheet_of}
use Rattle.sheets.specs.Taking.{taking}
use Rattle.sheets.proofs.book.OpenBook.take_lines.Given as goal

-- the labels so far stand at the front of the records, and the statements left lead on from them as the whole text does
abbrev pub invariant-loop-placed : goal.invariant-loop-placed
invariant-loop-placed l =
    (goal.iterator-loop-placed).can_next l.placed-iterator
    × (goal.iterator-loop-placed).is_finite l.placed-iterator
    × (taking (length l.initial.self.records.now) (take l.initial.self.count l.initial.self.records.now) (sheet_of l.text)
    ≡ taking (length l.initial.self.records.now) (take l.n l.self.records.now) (sheet_left l.placed-iterator))
    × (over (take l.n l.self.records.now) l.initial.self.records.now ≡ l.self.records.now)
    × (length l.self.records.now ≡ length l.initial.self.records.now)
    × (l.n ≤ length l.self.records.now)
    × (l.self.count ≤ l.n)
    × (open_labels l.self ≡ open_labels l.initial.self)
    × (l.self.count ≡ l.initial.self.count)
    × (l.self.records.ghost_name ≡ l.initial.self.records.ghost_name)
