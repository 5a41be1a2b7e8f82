-- A text that a loop writes piece by piece.
use Rattle.std.proofs.Common.{◌≡◌, ℕ, ◌+◌, ◌<◌, ◌≤◌, List, ◌++◌, length, get_or, drop, sym, ap, ◌∙◌, append_assoc, append-nil}
use Rattle.std.proofs.lemmas.List.{at_drop_more, at_drop_all}
use Rattle.std.specs.List.{flat_map}

-- One piece on: what was written and what is left still make the whole.
pub piece-more : {X : Type 0} (f : X → List ℕ) (xs : List X) (i : ℕ) (d : X) (before after whole : List ℕ) → i < length xs → before ++ flat_map f (drop i xs) ≡ whole → after ≡ before ++ f (get_or xs i d) → after ++ flat_map f (drop (i + 1) xs) ≡ whole
piece-more f xs i d before after whole within left wrote =
    ap (λ (l : List ℕ). l ++ flat_map f (drop (i + 1) xs)) wrote
    ∙ append_assoc before (f (get_or xs i d)) (flat_map f (drop (i + 1) xs))
    ∙ ap (λ (l : List ℕ). before ++ l) (sym (at_drop_more (flat_map f) xs i d within))
    ∙ left

-- At the end nothing is left.
pub piece-all : {X : Type 0} (f : X → List ℕ) (xs : List X) (i : ℕ) (before whole : List ℕ) → length xs ≤ i → before ++ flat_map f (drop i xs) ≡ whole → before ≡ whole
piece-all f xs i before whole past left =
    sym (append-nil before) ∙ ap (λ (l : List ℕ). before ++ l) (sym (at_drop_all (flat_map f) xs i past)) ∙ left
