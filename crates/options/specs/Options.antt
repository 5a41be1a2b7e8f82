-- What no words ask for.
use Rattle.std.specs.Prelude.{false, None}
use Rattle.options.specs.declared.options.Options.{Options}

abbrev pub defaults : Options
defaults = record {
  sheet = None;
  image = None;
  save = None;
  script = None;
  input = None;
  clock = false;
  both = false;
  trace = false;
  time = false;
  help = false;
  from = None;
  cycles = None;
  clocks = None;
  wait = 0;
  paper = 4096;
  examine = None;
}
