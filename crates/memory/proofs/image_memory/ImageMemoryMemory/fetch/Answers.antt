use Rattle.std.proofs.Common.{rules}
use Rattle.memory.proofs.Images.{word_at, word-past}
use Rattle.memory.proofs.image_memory.ImageMemoryMemory.fetch.Goals as goal

pub returns-then-i-len : goal.returns-then-i-len
returns-then-i-len c = search (rules, word_at)

pub returns-else-i-len : goal.returns-else-i-len
returns-else-i-len c = search (rules, word-past)
