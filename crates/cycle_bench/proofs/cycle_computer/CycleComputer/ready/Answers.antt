use Rattle.std.proofs.Common.{ap, ◌∙◌}
use Rattle.cycle_bench.specs.CycleComputers.{stepped}
use Rattle.cycle_bench.proofs.cycle_computer.CycleComputer.ready.Goals as goal

pub returns : goal.returns
returns g c = λ words. c.step.ensures words (g.L.Line.replies c.beats.new.line) ∙ ap stepped (c.beats.ensures words)
