use Rattle.line.specs.Owed.{quiet-proper}
use Rattle.line.specs.Quiet.{quiet_replies}
use Rattle.line.proofs.Rules.{each-reply}
use Rattle.line.proofs.quiet_line.QuietLineLine.beat.Goals as goal

pub returns-clause-each : goal.returns-clause-each
returns-clause-each c = each-reply quiet_replies quiet-proper
