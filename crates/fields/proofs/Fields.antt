-- The fields of a line, one byte and one field at a time.
use Rattle.std.proofs.Common.{◌≡◌, ◌≢◌, ne_eqb, le-leb, ℕ, zero, suc, ◌+◌, ◌-◌, ◌<◌, ◌≤◌, Bool, true, false, cond, not, eqb, List, [], ◌∷◌, length, get_or, take, drop, sym, refl, ap, ◌∙◌, add-zero, length-drop, arith}
use Rattle.std.specs.List.{position_or_len, prefix_len}
use Rattle.std.proofs.Math.Numerals.{one-add}
use Rattle.std.proofs.lemmas.List.Sums.{prefix_len_stops}
use Rattle.std.proofs.lemmas.List.{at_drop_more, drop_more, drop-drop, get_or-drop}
use Rattle.fields.specs.Fields.{name, number, letter, word, ends, word_length, fields, fields_from}

-- how many bytes come before the first that stops, counted byte by byte
module _ (count : List ℕ → ℕ) (stops : ℕ → Bool) (nothing : count [] ≡ 0) (one : (b : ℕ) (bs : List ℕ) → count (b ∷ bs) ≡ cond (stops b) 0 (suc (count bs))) where
  by-first : (n p : ℕ) (t : Bool) → n ≡ p → cond t 0 (suc n) ≡ cond (not t) (1 + p) 0
  by-first n p true e = refl
  by-first n p false e = omega arith

  pub counted : (bs : List ℕ) → count bs ≡ position_or_len stops bs
  counted [] = nothing
  counted (b ∷ bs) = one b bs ∙ by-first (count bs) (position_or_len stops bs) (stops b) (counted bs)

pub word-counted : (bs : List ℕ) → word_length bs ≡ position_or_len ends bs
word-counted bs = counted word_length ends refl (λ b bs. refl) bs

-- spaces are passed over
abbrev pub spaces : List ℕ → ℕ
spaces bs = prefix_len (λ b. eqb b 32) bs

space_or_not : (at b : ℕ) (bs : List ℕ) (t : Bool) → eqb b 32 ≡ t → fields 0 (at + 1) bs ≡ fields 0 (at + 1 + spaces bs) (drop (spaces bs) bs)
    → fields 0 at (b ∷ bs) ≡ fields 0 (at + cond t (1 + spaces bs) 0) (drop (cond t (1 + spaces bs) 0) (b ∷ bs))
space_or_not at b bs true e ih = rw (e, one-add) (ih ∙ ap (λ n. fields 0 n (drop (spaces bs) bs)) (omega arith))
space_or_not at b bs false e ih = rw add-zero

passed_spaces : (at : ℕ) (bs : List ℕ) → fields 0 at bs ≡ fields 0 (at + spaces bs) (drop (spaces bs) bs)
passed_spaces at [] = refl
passed_spaces at (b ∷ bs) = space_or_not at b bs (eqb b 32) refl (passed_spaces (at + 1) bs)

module _ (xs : List ℕ) (i n : ℕ) (is : n ≡ spaces (drop i xs)) where
  pub past_spaces : fields_from xs (i + n) ≡ fields_from xs i
  past_spaces = sym (passed_spaces i (drop i xs) ∙ rw (← is) (ap (λ l. fields 0 (i + n) l) (drop-drop n i xs)))

  pub no_space : i + n < length xs → eqb (get_or xs (i + n) 0) 32 ≡ false
  no_space h =
      let k : prefix_len (λ b. eqb b 32) (drop i xs) < length (drop i xs) = rw length-drop (omega arith) in
      let s = prefix_len_stops (λ b. eqb b 32) (drop i xs) 0 k in
      rw (← get_or-drop i xs n 0) (rw (← is) at s)

-- k bytes of a word that is told already are passed over
passed : (k at : ℕ) (bs : List ℕ) → fields k at bs ≡ fields 0 (at + k) (drop k bs)
passed zero at [] = refl
passed (suc k) at [] = refl
passed zero at (b ∷ bs) = rw add-zero
passed (suc k) at (b ∷ bs) = passed k (at + 1) bs ∙ ap (λ n. fields 0 n (drop k bs)) (omega arith)

-- a word: its bytes, and the fields behind it
module _ (xs after bytes : List ℕ) (i end b : ℕ) (h : i < length xs) (here : get_or xs i 0 ≡ b) (s : b ≢ 32) (is : end ≡ i + 1 + word_length (drop (i + 1) xs)) (same : after ≡ xs) (spelled : bytes ≡ take (end - i) (drop i xs)) where
  word-here : eqb b 47 ≡ false → eqb b 44 ≡ false → fields_from xs i ≡ word b bytes i ∷ fields_from after end
  word-here e f =
      let n = word_length (drop (i + 1) xs) in
      let long : suc n ≡ end - i = omega arith in
      let front : b ∷ take n (drop (i + 1) xs) ≡ bytes =
      rw (← here) (ap (λ l. take (suc n) l) (sym (drop_more xs i 0 h)) ∙ ap (λ k. take k (drop i xs)) long ∙ sym spelled) in
      let others : fields n (i + 1) (drop (i + 1) xs) ≡ fields_from after end =
      passed n (i + 1) (drop (i + 1) xs) ∙ ap (λ l. fields 0 (i + 1 + n) l) (drop-drop n (i + 1) xs) ∙ ap (λ k. fields_from xs k) (sym is) ∙ ap (λ l. fields_from l end) (sym same) in
      at_drop_more (fields 0 i) xs i 0 h ∙ rw (here, ne_eqb b 32 s, e, f) (λ j. word b (front j) i ∷ others j)

  pub name-here : 65 ≤ b → b ≤ 90 → fields_from xs i ≡ name bytes i ∷ fields_from after end
  name-here l u = word-here (ne_eqb b 47 (λ e. omega arith)) (ne_eqb b 44 (λ e. omega arith)) ∙ rw (le-leb 65 b l, le-leb b 90 u)

  pub number-here : eqb b 47 ≡ false → eqb b 44 ≡ false → letter b ≡ false → fields_from xs i ≡ number bytes i ∷ fields_from after end
  number-here e f l = word-here e f ∙ rw l
