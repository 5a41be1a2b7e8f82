use Rattle.std.proofs.Common.{◌+◌, drop, arith}
use Rattle.std.proofs.lemmas.List.{take_rest}
use Rattle.fields.proofs.Fields.{word-counted}
use Rattle.fields.proofs.cursor.Cursor.take_word.Goals as goal

pub returns-clause-place : goal.returns-clause-place
returns-clause-place c =
    let n = simp take_rest at c.word_length.ensures.count in
    omega (arith, n, word-counted (drop (c.args.self.now.at + 1) c.args.self.now.line.now))
