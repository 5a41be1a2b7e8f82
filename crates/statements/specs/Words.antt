-- What the words of a statement stand for.
use Rattle.std.specs.Prelude.{ℕ, Bool, cond, not, ◌&&◌, ◌||◌, List, length, Some, None, Option, ◌==◌, nat_le, slice_index}
use Rattle.fields.specs.Fields.{letter}
use Rattle.statements.specs.declared.statement.Name.{Name}
use Rattle.statements.specs.declared.statement.Operation.{Operation}
use Rattle.statements.specs.declared.word.Radix.{Radix}
use Rattle.statements.specs.declared.word.Radix.TheVariants.{Decimal, Hexadecimal}
use Rattle.statements.specs.declared.statement.Operation.TheVariants.{And, Add, Lda, Sta, Bun, Bsa, Isz}
use Rattle.statements.specs.Letters.{A, B, C, D, E, F, H, I, K, L, M, N, O, P, R, S, T, U, X, Z}

abbrev pub digit : ℕ → Bool
digit b = nat_le 48 b && nat_le b 57

abbrev pub letter_or_digit : ℕ → Bool
letter_or_digit b = letter b || digit b

-- one letter, then at most two letters or digits; spaces fill up
abbrev pub label_name : List ℕ → Option Name
label_name w =
    cond (not (letter (slice_index w 0))) None
    (cond (length w == 1) (Some (record { first = slice_index w 0; second = 32; third = 32 }))
    (cond (length w == 2)
    (cond (letter_or_digit (slice_index w 1)) (Some (record { first = slice_index w 0; second = slice_index w 1; third = 32 })) None)
    (cond (length w == 3)
    (cond (letter_or_digit (slice_index w 1) && letter_or_digit (slice_index w 2))
    (Some (record { first = slice_index w 0; second = slice_index w 1; third = slice_index w 2 })) None)
    None)))

-- the word has these three letters
abbrev pub spells : List ℕ → ℕ → ℕ → ℕ → Bool
spells w a b c = length w == 3 && (slice_index w 0 == a && (slice_index w 1 == b && slice_index w 2 == c))

-- the words before a number
abbrev pub radix_of : List ℕ → Option Radix
radix_of w = cond (spells w D E C) (Some Decimal) (cond (spells w H E X) (Some Hexadecimal) None)

-- the memory-reference instructions
abbrev pub operation_of : List ℕ → Option Operation
operation_of w =
    cond (spells w A N D) (Some And)
    (cond (spells w A D D) (Some Add)
    (cond (spells w L D A) (Some Lda)
    (cond (spells w S T A) (Some Sta)
    (cond (spells w B U N) (Some Bun)
    (cond (spells w B S A) (Some Bsa)
    (cond (spells w I S Z) (Some Isz)
    None))))))

-- the register-reference and input-output instructions, each with its word
abbrev pub plain_word : List ℕ → Option ℕ
plain_word w =
    cond (spells w C L A) (Some 0x7800)
    (cond (spells w C L E) (Some 0x7400)
    (cond (spells w C M A) (Some 0x7200)
    (cond (spells w C M E) (Some 0x7100)
    (cond (spells w C I R) (Some 0x7080)
    (cond (spells w C I L) (Some 0x7040)
    (cond (spells w I N C) (Some 0x7020)
    (cond (spells w S P A) (Some 0x7010)
    (cond (spells w S N A) (Some 0x7008)
    (cond (spells w S Z A) (Some 0x7004)
    (cond (spells w S Z E) (Some 0x7002)
    (cond (spells w H L T) (Some 0x7001)
    (cond (spells w I N P) (Some 0xF800)
    (cond (spells w O U T) (Some 0xF400)
    (cond (spells w S K I) (Some 0xF200)
    (cond (spells w S K O) (Some 0xF100)
    (cond (spells w I O N) (Some 0xF080)
    (cond (spells w I O F) (Some 0xF040)
    None)))))))))))))))))
