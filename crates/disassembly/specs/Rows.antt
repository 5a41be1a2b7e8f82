-- The row of a word: ten bytes in the form of a sheet.
use Rattle.std.specs.Prelude.{ℕ, ◌%◌, Bool, cond, List, [], ◌∷◌, ◌++◌, take, replicate, Some, None, Option, nat_le}
use Rattle.statements.specs.Letters.{E, H, I, X}
use Rattle.statements.specs.Words.{spells}
use Rattle.digits.specs.Digits.{word_digits}
use Rattle.disassembly.specs.Names.{opcode_in, operation_name, plain_name}

abbrev pub spaces : ℕ → List ℕ
spaces n = replicate n 32

-- three letters of a name, a space, four bytes of a number and two of a mark
abbrev pub row : List ℕ → List ℕ → List ℕ → List ℕ
row name number mark = name ++ (32 ∷ number ++ mark)

-- bit 15 is I
abbrev pub mark_of : ℕ → List ℕ
mark_of word = cond (nat_le 32768 word) (32 ∷ I ∷ []) (spaces 2)

-- a memory-reference instruction with its address, an instruction that stands alone, or HEX and the word
abbrev pub row_by : ℕ → Option (List ℕ) → Option (List ℕ) → List ℕ
row_by word (Some operation) plain = row operation (word_digits (word % 4096)) (mark_of word)
row_by word None (Some plain) = row plain (spaces 4) (spaces 2)
row_by word None None = row (H ∷ E ∷ X ∷ []) (word_digits word) (spaces 2)

abbrev pub disassembled : ℕ → List ℕ
disassembled word = row_by word (operation_name (opcode_in word)) (plain_name word)

abbrev pub begins_with_hex : List ℕ → Bool
begins_with_hex text = spells (take 3 text) H E X
