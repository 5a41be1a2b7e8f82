-- What is found by a name has that name.
use Rattle.std.proofs.Common.{◌≡◌, ℕ, List, [], ◌∷◌, Some, arith}
use Rattle.std.proofs.lemmas.Slice.Eq.{bytes_eq-Decides}
use Rattle.options.specs.Names.{named}

pub found : {X : Type 0} (name : X → List ℕ) (xs : List X) (w : List ℕ) (x : X) → named name xs w ≡ Some x → w ≡ name x
found name [] w x h = cc
found name (y ∷ ys) w x h = grind (arith, bytes_eq-Decides, found name ys w x)
