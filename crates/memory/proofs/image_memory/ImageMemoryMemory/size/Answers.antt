use Rattle.std.proofs.Common.{rules}
use Rattle.memory.proofs.Images.{length-words}
use Rattle.memory.proofs.image_memory.ImageMemoryMemory.size.Goals as goal

pub returns : goal.returns
returns c = search (rules, length-words)
