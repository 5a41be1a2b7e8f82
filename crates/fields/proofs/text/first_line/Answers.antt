use Rattle.std.proofs.Common.{◌+◌, ◌<◌, length, sym, refl, arith, rules}
use Rattle.std.proofs.lemmas.List.{take_rest}
use Rattle.fields.proofs.LineLemmas.{split, leads, line_at, last}
use Rattle.fields.proofs.text.first_line.Goals as goal

pub returns-in-Some : goal.returns-in-Some
returns-in-Some c =
    let is = line_at c.args.text.now c.in-Some.n (sym c.in-Some.ensures) in
    let some : 0 < length c.args.text.now = omega (arith, is.1) in
    let rest = take_rest c.args.text.now (c.in-Some.n + 1) in
    record {
      split = split c.args.text.now c.in-Some.n is.0 some _ _ refl rest;
      leads = leads c.args.text.now c.in-Some.n is.0 some _ _ refl rest;
    }

pub returns-in-None-2 : goal.returns-in-None-2
returns-in-None-2 c =
    let l = last c.args.text.now (sym c.in-None.ensures) (search rules) in
    record { split = l.0; leads = l.1 }
