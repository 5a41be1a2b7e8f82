-- The words of an image after a read and a write of two of its bytes.
use Rattle.std.proofs.Common.{◌≡◌, ℕ, zero, suc, ◌+◌, ◌*◌, ◌/◌, ◌%◌, ◌<◌, ◌≤◌, List, [], ◌∷◌, length, get_or, set, sym, refl, ap, ◌∙◌, inl, inr, add-one, arith, le-ltb, lt-ltb}
use Rattle.std.proofs.lemmas.List.{set_past, get_or_past}
use Rattle.std.proofs.lemmas.Bool.{cases_lt}
use Rattle.memory.specs.Images.{words_of, stored_bytes}

pub length-words : (bytes : List ℕ) → length (words_of bytes) ≡ length bytes / 2
length-words [] = refl
length-words (odd ∷ []) = refl
length-words (high ∷ low ∷ bytes) = let e = length-words bytes in omega arith

-- j is where the word's high byte lies
at-step : (bytes : List ℕ) (i j : ℕ) → j ≡ 2 * i → suc j < length bytes → get_or (words_of bytes) i 0 ≡ 256 * get_or bytes j 0 + get_or bytes (suc j) 0
at-step [] i j e h = absurd (omega arith)
at-step (odd ∷ []) i j e h = absurd (omega arith)
at-step (high ∷ low ∷ bytes) zero zero e h = refl
at-step (high ∷ low ∷ bytes) zero (suc j) e h = absurd (omega arith)
at-step (high ∷ low ∷ bytes) (suc i) zero e h = absurd (omega arith)
at-step (high ∷ low ∷ bytes) (suc i) (suc zero) e h = absurd (omega arith)
at-step (high ∷ low ∷ bytes) (suc i) (suc (suc j)) e h = at-step bytes i j (omega arith) (omega arith)

set-step : (bytes : List ℕ) (i j high low : ℕ) → j ≡ 2 * i → suc j < length bytes → words_of (set (set bytes j high) (suc j) low) ≡ set (words_of bytes) i (256 * high + low)
set-step [] i j h l e lt = absurd (omega arith)
set-step (odd ∷ []) i j h l e lt = absurd (omega arith)
set-step (high ∷ low ∷ bytes) zero zero h l e lt = refl
set-step (high ∷ low ∷ bytes) zero (suc j) h l e lt = absurd (omega arith)
set-step (high ∷ low ∷ bytes) (suc i) zero h l e lt = absurd (omega arith)
set-step (high ∷ low ∷ bytes) (suc i) (suc zero) h l e lt = absurd (omega arith)
set-step (high ∷ low ∷ bytes) (suc i) (suc (suc j)) h l e lt = ap (λ ws. (256 * high + low) ∷ ws) (set-step bytes i j h l (omega arith) (omega arith))

pub word_at : (bytes : List ℕ) (i : ℕ) → 2 * i + 1 < length bytes → get_or (words_of bytes) i 0 ≡ 256 * get_or bytes (2 * i) 0 + get_or bytes (2 * i + 1) 0
word_at bytes i h = rw add-one (at-step bytes i (2 * i) refl (omega arith))

pub word-past : (bytes : List ℕ) (i : ℕ) → length bytes ≤ 2 * i + 1 → get_or (words_of bytes) i 0 ≡ 0
word-past bytes i h = let n = length-words bytes in get_or_past (words_of bytes) i 0 (omega arith)

words-set : (bytes : List ℕ) (i word : ℕ) → 2 * i + 1 < length bytes → words_of (set (set bytes (2 * i) (word / 256)) (2 * i + 1) (word % 256)) ≡ set (words_of bytes) i word
words-set bytes i word h =
    let joined : 256 * (word / 256) + word % 256 ≡ word = omega arith in
    rw add-one (set-step bytes i (2 * i) (word / 256) (word % 256) refl (omega arith) ∙ ap (λ w. set (words_of bytes) i w) joined)

-- the words after a store
pub stored-words : (bytes : List ℕ) (i word : ℕ) → words_of (stored_bytes bytes i word) ≡ set (words_of bytes) i word
stored-words bytes i word = elim (cases_lt (2 * i + 1) (length bytes)) [
  | inl h ↦ rw (lt-ltb (2 * i + 1) (length bytes) h) (words-set bytes i word h)
  | inr h ↦ (
      let n = length-words bytes in
      rw (le-ltb (2 * i + 1) (length bytes) h) (sym (set_past (words_of bytes) i word (omega arith)))
      )
]
