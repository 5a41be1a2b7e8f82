-- The row of a word begins with HEX if and only if the word is not listed.
use Rattle.std.proofs.Common.{◌≡◌, ℕ, false, not, ◌||◌, ltb, List, [], ◌∷◌, ◌++◌, is_some, Some, None, Option, refl, ap, ◌∙◌, arith}
use Rattle.std.proofs.lemmas.Bool.Decides.{nat_tests}
use Rattle.statements.proofs.Words.{not-spelled}
use Rattle.statements.specs.Letters.{E, H, X}
use Rattle.statements.specs.Words.{operation_of, plain_word}
use Rattle.disassembly.specs.Names.{listed, opcode_in, operation_name, plain_name}
use Rattle.disassembly.specs.Rows.{begins_with_hex, disassembled, row_by}
use Rattle.disassembly.proofs.Names.{Letters, letters, operation-found, plain-found}

-- each opcode below 7 has a name
named : (n : ℕ) → is_some (operation_name n) ≡ ltb n 7
named n = grind (arith, nat_tests)

-- the name of an instruction is not HEX
module _ {T : Type 0} (table : List ℕ → Option T) (t : T) (unknown : table (H ∷ E ∷ X ∷ []) ≡ None) where
  other : (w rest : List ℕ) → Letters w → table w ≡ Some t → begins_with_hex (w ++ rest) ≡ false
  other _ rest (letters a b c la lb lc) h = not-spelled table (a ∷ b ∷ c ∷ []) t h H E X unknown

by_names : (word : ℕ) (o p : Option (List ℕ)) → operation_name (opcode_in word) ≡ o → plain_name word ≡ p
    → begins_with_hex (row_by word o p) ≡ not (is_some o || is_some p)
by_names word (Some w) p eo ep = let f = operation-found (opcode_in word) w eo in other operation_of f.1.0 refl w _ f.0 f.1.1
by_names word None (Some w) eo ep = let f = plain-found word w ep in other plain_word word refl w _ f.0 f.1
by_names word None None eo ep = refl

pub hex-or-listed : (word : ℕ) → begins_with_hex (disassembled word) ≡ not (listed word)
hex-or-listed word =
    by_names word (operation_name (opcode_in word)) (plain_name word) refl refl
    ∙ ap (λ b. not (b || is_some (plain_name word))) (named (opcode_in word))
