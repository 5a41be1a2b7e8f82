use Rattle.std.proofs.Common.{◌∙◌}
use Rattle.statements.proofs.Grammar.{line-form, line_read}
use Rattle.statements.proofs.line.read_line.Goals as goal

pub returns : goal.returns
returns c = record {
  statement = c.read_checked.ensures;
  form = line-form c.args.line c.args.text.now c.read_checked.result c.read_checked.ensures;
  each = λ s p f. c.read_checked.ensures ∙ line_read c.args.line c.args.text.now s p f;
}
