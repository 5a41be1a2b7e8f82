use Rattle.std.proofs.Common.{◌≡◌}
use Rattle.machine.specs.Beat.{connected, beats}
use Rattle.machine.proofs.registers.Port.beats.Given as goal

abbrev pub invariant-loop : goal.invariant-loop
invariant-loop g l =
    connected l.self (g.L.Line.replies l.line)
    ≡ beats l.counter (connected l.initial.self (g.L.Line.replies l.initial.line))
