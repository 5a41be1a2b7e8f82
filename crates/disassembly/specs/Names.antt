-- The names of the instructions, each found by what the assembler reads it as.
use Rattle.std.specs.Prelude.{ℕ, ◌/◌, ◌%◌, Bool, false, cond, ◌||◌, List, [], ◌∷◌, is_some, Some, None, Option, ◌==◌, nat_lt}
use Rattle.fields.specs.Outcomes.{if_some}
use Rattle.statements.specs.Letters.{A, B, C, D, E, F, H, I, K, L, M, N, O, P, R, S, T, U, Z}
use Rattle.statements.specs.Words.{operation_of, plain_word}
use Rattle.sheets.specs.Laying.{opcode}

-- the memory-reference instructions
abbrev pub operation_names : List (List ℕ)
operation_names =
    (A ∷ N ∷ D ∷ []) ∷ (A ∷ D ∷ D ∷ []) ∷ (L ∷ D ∷ A ∷ []) ∷ (S ∷ T ∷ A ∷ [])
    ∷ (B ∷ U ∷ N ∷ []) ∷ (B ∷ S ∷ A ∷ []) ∷ (I ∷ S ∷ Z ∷ []) ∷ []

-- the register-reference and input-output instructions
abbrev pub plain_names : List (List ℕ)
plain_names =
    (C ∷ L ∷ A ∷ []) ∷ (C ∷ L ∷ E ∷ []) ∷ (C ∷ M ∷ A ∷ []) ∷ (C ∷ M ∷ E ∷ []) ∷ (C ∷ I ∷ R ∷ []) ∷ (C ∷ I ∷ L ∷ [])
    ∷ (I ∷ N ∷ C ∷ []) ∷ (S ∷ P ∷ A ∷ []) ∷ (S ∷ N ∷ A ∷ []) ∷ (S ∷ Z ∷ A ∷ []) ∷ (S ∷ Z ∷ E ∷ []) ∷ (H ∷ L ∷ T ∷ [])
    ∷ (I ∷ N ∷ P ∷ []) ∷ (O ∷ U ∷ T ∷ []) ∷ (S ∷ K ∷ I ∷ []) ∷ (S ∷ K ∷ O ∷ []) ∷ (I ∷ O ∷ N ∷ []) ∷ (I ∷ O ∷ F ∷ []) ∷ []

abbrev pub is_number : ℕ → Option ℕ → Bool
is_number n None = false
is_number n (Some m) = n == m

-- the first of these names that is read as this number
abbrev pub name_for : (List ℕ → Option ℕ) → ℕ → List (List ℕ) → Option (List ℕ)
name_for reads n [] = None
name_for reads n (name ∷ names) = cond (is_number n (reads name)) (Some name) (name_for reads n names)

-- the opcode that the name of a memory-reference instruction is read as
abbrev pub opcode_of : List ℕ → Option ℕ
opcode_of name = if_some (operation_of name) (λ op. Some (opcode op))

abbrev pub operation_name : ℕ → Option (List ℕ)
operation_name code = name_for opcode_of code operation_names

abbrev pub plain_name : ℕ → Option (List ℕ)
plain_name word = name_for plain_word word plain_names

-- bits 12 to 14
abbrev pub opcode_in : ℕ → ℕ
opcode_in word = word / 4096 % 8

-- the words that are instructions: each with an opcode below 7, and of the others those that have a name
abbrev pub listed : ℕ → Bool
listed word = nat_lt (opcode_in word) 7 || is_some (plain_name word)
