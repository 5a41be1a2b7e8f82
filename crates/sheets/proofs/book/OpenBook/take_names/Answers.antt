use Rattle.sheets.proofs.Laws.{takes}
use Rattle.sheets.proofs.book.OpenBook.take_names.Goals as goal

pub returns-clause-law : goal.returns-clause-law
returns-clause-law c = takes _ _ _
