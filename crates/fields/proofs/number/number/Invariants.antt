use Rattle.std.proofs.Common.{◌≡◌, ◌^◌, ◌<◌, drop}
use Rattle.fields.proofs.Numbers.{carried}
use Rattle.fields.proofs.number.number.Given as goal

abbrev pub invariant-loop-b : goal.invariant-loop-b
invariant-loop-b l = (l.value < l.radix ^ l.b-index) × (carried l.radix 0 l.word ≡ carried l.radix l.value (drop l.b-index l.word))
