use Rattle.std.proofs.Common.{rules}
use Rattle.sheets.proofs.Laws.{lays-after}
use Rattle.sheets.proofs.book.ClosedBook.lay.Goals as goal

pub returns-clause-law : goal.returns-clause-law
returns-clause-law g c = lays-after _ _ _ c.args.text.now (search rules)
