use Rattle.std.proofs.Common.{◌+◌, vec_items, refl, arith}
use Rattle.std.proofs.lemmas.List.{drop_more, drop-set-lt, take_more_set}
use Rattle.line.proofs.paper.Paper.print.Goals as goal

pub returns : goal.returns
returns c =
    let bytes = vec_items c.args.self.now.bytes in
    let written = c.args.self.now.written in
    let rest = drop_more bytes written 0 (omega arith) in
    rw (c.write.ensures.bytes, c.write.ensures.written, rest, c.if-status.false) (record {
      reply_is = refl;
      printed_is = take_more_set bytes written c.args.status.outr (omega arith);
      blank_is = drop-set-lt (written + 1) bytes written c.args.status.outr (omega arith);
    })
