use Rattle.std.proofs.Common.{ap, ◌∙◌}
use Rattle.memory.specs.Contents.{holding}
use Rattle.memory.specs.Images.{words_of}
use Rattle.memory.proofs.Contents.{replaces}
use Rattle.memory.proofs.Images.{stored-words}
use Rattle.memory.proofs.image_memory.ImageMemoryMemory.store.Goals as goal

pub returns : goal.returns
returns c =
    let e = ap holding (ap words_of c.put.ensures ∙ stored-words _ c.args.address c.args.word) in
    record { contents = e; replaced = replaces _ _ c.args.address c.args.word e; bytes = c.put.ensures }
