use Rattle.std.proofs.Common.{◌≡◌, drop}
use Rattle.options.specs.Reading.{read_on, start, bytes_of}
use Rattle.options.proofs.reading.read_all.Given as goal

abbrev pub invariant-loop-place : goal.invariant-loop-place
invariant-loop-place l = read_on 0 (bytes_of l.words) start ≡ read_on l.place (bytes_of (drop l.place l.words)) l.reading
