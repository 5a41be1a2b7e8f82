use Rattle.std.proofs.Common.{◌≡◌, ◌≤◌, length, None}
use Rattle.sheets.specs.Walks.{ahead}
use Rattle.sheets.proofs.reader.SheetReaderIterator.next.Given as goal

-- the lines passed over lay nothing
abbrev pub invariant-loop-placed : goal.invariant-loop-placed
invariant-loop-placed l = (ahead l.initial.walk ≡ ahead l.walk) × (length l.walk.rest.now ≤ length l.initial.walk.rest.now) × (l.self.walk ≡ None)

abbrev pub decreases-loop-placed : goal.decreases-loop-placed
decreases-loop-placed l = length l.walk.rest.now
