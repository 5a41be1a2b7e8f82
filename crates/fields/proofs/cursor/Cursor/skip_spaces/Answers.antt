use borrow.Author.Tests.{eqb-false}
use Rattle.std.proofs.lemmas.List.{take_rest}
use Rattle.fields.proofs.Fields.{past_spaces, no_space}
use Rattle.fields.proofs.cursor.Cursor.skip_spaces.Goals as goal

pub returns-clause-left : goal.returns-clause-left
returns-clause-left c = past_spaces c.args.self.now.line.now c.args.self.now.at c.spaces.result (simp take_rest at c.spaces.ensures.count)

pub returns-clause-stops : goal.returns-clause-stops
returns-clause-stops c h = eqb-false _ _ (no_space c.args.self.now.line.now c.args.self.now.at c.spaces.result (simp take_rest at c.spaces.ensures.count) h)
