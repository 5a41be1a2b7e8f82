use Rattle.line.specs.Owed.{script-proper}
use Rattle.line.specs.Script.{script_of, script_replies}
use Rattle.line.proofs.Laws.{hands-over-in-order, prints-on-paper}
use Rattle.line.proofs.Rules.{each-reply}
use Rattle.line.proofs.script_line.beat.ScriptLineLine.beat.Goals as goal

pub returns-clause-each : goal.returns-clause-each
returns-clause-each c = let before = script_of c.args.self.now in each-reply (script_replies before) (script-proper before)

pub returns-clause-in_order : goal.returns-clause-in_order
returns-clause-in_order c = hands-over-in-order (script_of c.args.self.now)

pub returns-clause-on_paper : goal.returns-clause-on_paper
returns-clause-on_paper c = prints-on-paper (script_of c.args.self.now)
