use Rattle.machine.specs.Beat.{connected}
use Rattle.machine.proofs.Beat.{beat-is}
use Rattle.machine.proofs.registers.Port.beat.Goals as goal

pub returns : goal.returns
returns g c =
    let before = connected c.args.self.now (g.L.Line.replies c.args.line.now) in
    let e = beat-is before c.beat-reply.result (g.L.Line.replies c.beat-reply.new.self) (simp c.status.ensures at c.beat-reply.ensures.rule) in
    cc
