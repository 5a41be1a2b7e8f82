use Rattle.std.proofs.Common.{◌∙◌}
use Rattle.options.specs.Reading.{bytes_of}
use Rattle.options.proofs.Grammar.{each}
use Rattle.options.proofs.Laws.{form, within}
use Rattle.options.proofs.reading.read_options.Goals as goal

pub returns-clause-form : goal.returns-clause-form
returns-clause-form c = form (bytes_of c.args.words.now) c.read_all.result c.read_all.ensures

pub returns-clause-each : goal.returns-clause-each
returns-clause-each c o a = c.read_all.ensures ∙ each (bytes_of c.args.words.now) o a

pub returns-clause-within : goal.returns-clause-within
returns-clause-within c = within c.args.words.now c.read_all.result c.read_all.ensures
