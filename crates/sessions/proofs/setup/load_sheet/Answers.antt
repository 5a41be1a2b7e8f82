use Rattle.std.proofs.Common.{◌≡◌, length, Err, vec_items, sym, ◌∙◌, arith, rules}
use Rattle.memory.specs.Contents.{holding}
use Rattle.memory.specs.Images.{words_of}
use Rattle.memory.proofs.Images.{length-words}
use Rattle.sheets.proofs.Laws.{well-sized}
use Rattle.sheets.specs.declared.fault.LayingFault.TheVariants.{MemorySize}
use Rattle.sessions.proofs.setup.load_sheet.Goals as goal

-- the image has 8192 bytes, so the memory has 4096 words
pub unreachable-requires : goal.unreachable-requires
unreachable-requires c =
    let bytes : length (vec_items c.new-memory.result.bytes) ≡ 8192 = search rules in
    let sized : length (words_of (vec_items c.new-memory.result.bytes)) ≡ 4096 = omega (arith, length-words (vec_items c.new-memory.result.bytes)) in
    let refused : c.in_ok-count.field-0 ≡ Err MemorySize = search rules in
    well-sized 512 (holding (words_of (vec_items c.new-memory.result.bytes))) c.as_slice.result.now sized (sym c.in_ok-count.ensures.answer ∙ refused)
