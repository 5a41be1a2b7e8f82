use Rattle.std.proofs.Common.{vec_items, rules}
use Rattle.memory.specs.Contents.{holding}
use Rattle.sheets.proofs.Laws.{well-sized}
use Rattle.lanesheet.proofs.main.Goals as goal

-- the memory has 4096 words
pub unreachable-requires : goal.unreachable-requires
unreachable-requires c = well-sized 512 (holding (vec_items c.new-memory.result.words)) c.as_slice.result.now (search rules) (search rules)
