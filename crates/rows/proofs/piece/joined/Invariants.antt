use Rattle.std.proofs.Common.{◌≡◌, ◌++◌, drop, vec_items}
use Rattle.rows.proofs.piece.joined.Given as goal
use Rattle.std.specs.List.{flat_map}

abbrev pub invariant-loop-piece : goal.invariant-loop-piece
invariant-loop-piece g l = vec_items l.text ++ flat_map g.P.Piece.written (drop l.piece-index l.pieces) ≡ flat_map g.P.Piece.written l.pieces
