use Rattle.std.proofs.Common.{◌++◌, vec_items, ap, ◌∙◌}
use Rattle.rows.proofs.piece.joined.Goals as goal
use Rattle.rows.proofs.Pieces.{piece-more, piece-all}

pub loop-piece-preserved : goal.loop-piece-preserved
loop-piece-preserved g c =
    let wrote = c.in_ok-push_to.ensures ∙ ap (λ piece. vec_items c.loop-piece.text ++ g.P.Piece.written piece) c.piece-item.is in
    piece-more g.P.Piece.written _ _ _ _ _ _ c.loop-piece-test.true c.loop-piece.invariant wrote

pub returns : goal.returns
returns g c = piece-all g.P.Piece.written _ _ _ _ c.loop-piece-test.false c.loop-piece.invariant
