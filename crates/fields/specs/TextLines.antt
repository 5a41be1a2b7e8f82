-- The lines of a text that are still to be read.
use Rattle.std.specs.Prelude.{ℕ, List}
use Rattle.fields.specs.Lines.{lines_of}
use Rattle.fields.specs.declared.lines.Lines.{Lines}

abbrev pub lines_left : Lines → List (List ℕ)
lines_left l = lines_of l.rest.now
