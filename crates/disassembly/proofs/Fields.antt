-- The fields of a row.
use Rattle.std.proofs.Common.{◌≡◌, ℕ, ◌+◌, true, false, eqb, List, [], ◌∷◌, take, ◌∙◌, arith}
use Rattle.std.proofs.lemmas.Bool.{or_parts}
use Rattle.std.proofs.lemmas.Bool.Decides.{nat_tests}
use Rattle.fields.specs.Fields.{name, plain, ends, letter, word, word_length, fields}

pub letter-plain : (b : ℕ) → letter b ≡ true → plain b ≡ true
letter-plain b h = grind (arith, nat_tests)

pub letter-inner : (b : ℕ) → letter b ≡ true → ends b ≡ false
letter-inner b h = grind (arith, nat_tests)

-- a byte that ends no word begins one
begun : (b at : ℕ) (bs : List ℕ) → ends b ≡ false → fields 0 at (b ∷ bs) ≡ word b (b ∷ take (word_length bs) bs) at ∷ fields (word_length bs) (at + 1) bs
begun b at bs h =
    let p = or_parts (eqb b 32) _ h in
    let q = or_parts (eqb b 44) _ p.1 in
    rw (p.0, q.1, q.0)

-- three letters and a space
pub name-field : (a b c : ℕ) (rest : List ℕ) → letter a ≡ true → letter b ≡ true → letter c ≡ true
    → fields 0 0 (a ∷ b ∷ c ∷ 32 ∷ rest) ≡ name (a ∷ b ∷ c ∷ []) 0 ∷ fields 0 4 rest
name-field a b c rest la lb lc =
    begun a 0 (b ∷ c ∷ 32 ∷ rest) (letter-inner a la) ∙ rw (letter-inner b lb, letter-inner c lc, la)

-- four digits and a space
pub number-field : (a b c d : ℕ) (rest : List ℕ) → ends a ≡ false → ends b ≡ false → ends c ≡ false → ends d ≡ false
    → fields 0 4 (a ∷ b ∷ c ∷ d ∷ 32 ∷ rest) ≡ word a (a ∷ b ∷ c ∷ d ∷ []) 4 ∷ fields 0 9 rest
number-field a b c d rest ia ib ic id = begun a 4 (b ∷ c ∷ d ∷ 32 ∷ rest) ia ∙ rw (ib, ic, id)
