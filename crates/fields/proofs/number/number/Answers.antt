use Rattle.std.proofs.Common.{◌+◌, ◌*◌, ◌^◌, ◌<◌, get_or, sym, ◌∙◌, arith, rules}
use Rattle.fields.proofs.Numbers.{digit-below, value-below, value-fits, value-more, value-bad, value-all, carried-zero, below_most}
use Rattle.fields.proofs.number.number.Goals as goal
use Rattle.fields.proofs.number.number.Goals.{In_ok-d}

small : (c : In_ok-d) → c.in_ok-d.d < c.args.radix
small c = digit-below c.args.radix (get_or c.args.word.now c.loop-b.b-index 0) c.in_ok-d.d c.in_ok-d.ensures

fits : (c : In_ok-d) → c.loop-b.value * c.args.radix + c.in_ok-d.d < c.args.radix ^ c.args.most
fits c = value-fits c.loop-b.value c.args.radix c.in_ok-d.d c.loop-b.b-index c.args.most c.loop-b.invariant.0 (small c) (omega arith)

pub returns-in_err-d : goal.returns-in_err-d
returns-in_err-d c =
    let e = sym (carried-zero c.args.radix c.args.word.now) ∙ c.loop-b.invariant.1 ∙ value-bad c.args.word.now c.args.radix c.loop-b.value c.loop-b.b-index (omega arith) c.in_err-d.ensures in
    record { value = search rules; below = search rules }

pub overflow_mul-value : goal.overflow_mul-value
overflow_mul-value c = omega (arith, fits c)

pub overflow_add-value : goal.overflow_add-value
overflow_add-value c = omega (arith, fits c)

pub loop-b-preserved : goal.loop-b-preserved
loop-b-preserved c = (
  value-below c.loop-b.value c.args.radix c.in_ok-d.d c.loop-b.b-index c.loop-b.invariant.0 (small c),
  c.loop-b.invariant.1 ∙ value-more c.args.word.now c.args.radix c.loop-b.value c.loop-b.b-index c.in_ok-d.d (omega arith) c.in_ok-d.ensures,
)

pub returns-clause-value : goal.returns-clause-value
returns-clause-value c =
    let e = sym (carried-zero c.args.radix c.args.word.now) ∙ c.loop-b.invariant.1 ∙ value-all c.args.word.now c.args.radix c.loop-b.value c.loop-b.b-index (omega arith) in
    search rules

pub returns-clause-below : goal.returns-clause-below
returns-clause-below c = below_most c.loop-b.value c.args.radix c.loop-b.b-index c.args.most c.loop-b.invariant.0 (search rules) (omega arith)
