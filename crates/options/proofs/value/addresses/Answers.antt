use Rattle.std.proofs.Common.{◌+◌, sym}
use Rattle.std.proofs.lemmas.List.{take_rest}
use Rattle.options.proofs.Dashes.{around, alone}
use Rattle.options.proofs.value.addresses.Goals as goal

pub returns-in-Some : goal.returns-in-Some
returns-in-Some c =
    let e = around c.args.word.now c.in-Some.n (sym c.in-Some.ensures) in
    let behind = take_rest c.args.word.now (c.in-Some.n + 1) in
    cc

pub returns-in-None : goal.returns-in-None
returns-in-None c = let e = alone c.args.word.now (sym c.in-None.ensures) in cc
