use Rattle.std.proofs.Common.{◌≡◌, ◌++◌, drop, length}
use Rattle.digits.specs.Digits.{digits}
use Rattle.digits.proofs.hexadecimal.Given as goal

-- the digits that are left to write, and those that are written
abbrev pub invariant-loop-place : goal.invariant-loop-place
invariant-loop-place g l = record {
  long : length l.digits ≡ g.row.N;
  whole : digits l.place l.rest ++ drop l.place l.digits ≡ digits g.row.N l.fn.number;
}
