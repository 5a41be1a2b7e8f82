-- Where the first line of a text ends.
use Rattle.std.proofs.Common.{◌≡◌, ℕ, suc, ◌+◌, ◌<◌, true, false, cond, eqb, List, [], ◌∷◌, length, take, drop, refl, ap, ◌∙◌, add-one, arith, sym, length-drop, Some, None}
use Rattle.std.specs.List.{position, position_or_len}
use Rattle.std.proofs.lemmas.Bool.Decides.{nat_tests}
use Rattle.std.proofs.lemmas.List.Sums.{prefix_len-le-length}
use Rattle.std.proofs.lemmas.List.{take_all, drop_all}
use Rattle.fields.proofs.Fields.{counted}
use Rattle.fields.specs.Lines.{prepend, lines_of, line_length}

abbrev First : List ℕ → Type 0
First xs = lines_of xs ≡ take (line_length xs) xs ∷ lines_of (drop (suc (line_length xs)) xs)

glued : (x : ℕ) (xs : List ℕ) → (0 < length xs → First xs) → prepend x (lines_of xs) ≡ (x ∷ take (line_length xs) xs) ∷ lines_of (drop (suc (line_length xs)) xs)
glued x [] h = refl
glued x (y ∷ ys) h = ap (prepend x) (h (omega arith))

-- the first line, and the lines behind its byte 10
pub first : (xs : List ℕ) → 0 < length xs → First xs
first [] h = absurd (omega arith)
first (x ∷ xs) h =
    elim (eqb x 10) as (λ t. cond t ([] ∷ lines_of xs) (prepend x (lines_of xs)) ≡ take (cond t 0 (suc (line_length xs))) (x ∷ xs) ∷ lines_of (drop (suc (cond t 0 (suc (line_length xs)))) (x ∷ xs))) [
      | true ↦ refl
      | false ↦ glued x xs (λ k. first xs k)
    ]

-- a line and the text behind it, cut at n
module _ (xs : List ℕ) (n : ℕ) (is : n ≡ line_length xs) (some : 0 < length xs) where
  pub split : (line rest : List ℕ) → line ≡ take n xs → rest ≡ drop (n + 1) xs → (line ≡ take (line_length xs) xs) × (rest ≡ drop (suc (line_length xs)) xs)
  split line rest e f = (rw (← is) e, rw (← is, ← add-one) f)

  pub leads : (line rest : List ℕ) → line ≡ take n xs → rest ≡ drop (n + 1) xs → (lines_of xs ≡ line ∷ lines_of rest) × (length rest < length xs)
  leads line rest e f =
      let s = split line rest e f in
      (first xs some ∙ rw (← s.0, ← s.1), rw (f, length-drop) (omega arith))

-- where the first byte 10 stands
module _ (xs : List ℕ) where
  counted-line : line_length xs ≡ position_or_len (λ b. eqb b 10) xs
  counted-line = counted line_length (λ b. eqb b 10) refl (λ b bs. refl) xs

  pub line_at : (n : ℕ) → position (λ b. eqb b 10) xs ≡ Some n → (n ≡ line_length xs) × (n < length xs)
  line_at n h = grind (arith, counted-line, nat_tests)

  line-all : position (λ b. eqb b 10) xs ≡ None → line_length xs ≡ length xs
  line-all h = grind (arith, counted-line, nat_tests, prefix_len-le-length)

  -- a text with no byte 10 is one line
  pub last : position (λ b. eqb b 10) xs ≡ None → 0 < length xs
      → ((xs ≡ take (line_length xs) xs) × ([] ≡ drop (suc (line_length xs)) xs)) × ((lines_of xs ≡ xs ∷ []) × (0 < length xs))
  last h some =
      let all = line-all h in
      let t : take (line_length xs) xs ≡ xs = rw all (take_all (length xs) xs (omega arith)) in
      let d : drop (suc (line_length xs)) xs ≡ [] = drop_all (suc (line_length xs)) xs (omega arith) in
      ((sym t, sym d), (first xs some ∙ rw (t, d), some))
