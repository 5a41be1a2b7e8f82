-- Each row assembles back to its word.
use Rattle.std.proofs.Common.{◌≡◌, ℕ, ◌+◌, ◌*◌, ◌/◌, ◌%◌, ◌<◌, Bool, true, false, cond, leb, List, [], ◌∷◌, length, Some, None, Ok, Option, sym, refl, ap, ◌∙◌, subst, mod-lt, arith, lit<, length-append, leb-false, leb-true}
use Rattle.fields.specs.Fields.{Field, name, number, letter, all_plain, fields_of}
use Rattle.fields.specs.Fields as field
use Rattle.statements.proofs.Grammar.{line_read}
use Rattle.statements.specs.declared.statement.Code.{Code}
use Rattle.statements.specs.declared.statement.Code.TheVariants.{Reference, Word}
use Rattle.statements.specs.declared.statement.Operand.TheVariants.{Address}
use Rattle.statements.specs.declared.statement.Operation.{Operation}
use Rattle.statements.specs.declared.statement.Statement.TheVariants.{Lays}
use Rattle.statements.specs.Grammar.{nothing, Spelled, by_name, by_number, Indirect, direct, indirect, Points, address, Codes, reference, plain, hexadecimal, Form, unlabelled}
use Rattle.statements.specs.Letters.{E, H, I, X}
use Rattle.statements.specs.Words.{operation_of, plain_word}
use Rattle.sheets.specs.declared.label.Label.{Label}
use Rattle.sheets.specs.Laying.{code_word, opcode}
use Rattle.digits.specs.Digits.{last_digit, word_digits}
use Rattle.disassembly.specs.Laws.{AssemblesBack}
use Rattle.disassembly.specs.Names.{opcode_in, operation_name, plain_name}
use Rattle.disassembly.specs.Rows.{disassembled, mark_of, row, row_by, spaces}
use Rattle.disassembly.proofs.Digits.{address-first, digit-inner, digit-plain, number_read}
use Rattle.disassembly.proofs.Fields.{letter-plain, name-field, number-field}
use Rattle.disassembly.proofs.Names.{Letters, letters, operation-found, plain-found}

-- a text with a form that lays this word
back : (word : ℕ) (text : List ℕ) (code : Code) → all_plain text ≡ true → Form (fields_of text) (Lays None code)
    → ((book : List Label) (line : ℕ) → code_word book line code ≡ Ok word) → AssemblesBack word text
back word text code p f l = record { code = code; read = λ line. line_read line text (Lays None code) p f; laid = l }

-- the word of an instruction with its parts
joined : (word code : ℕ) (m : Bool) → word < 65536 → code ≡ opcode_in word → leb 32768 word ≡ m → cond m 32768 0 + code * 4096 + word % 4096 % 4096 ≡ word
joined word code true h e is = omega (arith, leb-true 32768 word is)
joined word code false h e is = omega (arith, leb-false 32768 word is)

spelled_by : (t : Bool) (v : List ℕ) (at : ℕ) → Spelled (cond t (name v at) (number v at)) v
spelled_by true v at = by_name
spelled_by false v at = by_number

module _ (a b c : ℕ) (la : letter a ≡ true) (lb : letter b ≡ true) (lc : letter c ≡ true) where
  abbrev letter_word : List ℕ
  letter_word = a ∷ b ∷ c ∷ []

  -- an instruction that stands alone
  plain_back : (word : ℕ) → plain_word letter_word ≡ Some word → AssemblesBack word (row letter_word (spaces 4) (spaces 2))
  plain_back word e =
      back word (row letter_word (spaces 4) (spaces 2)) (Word word)
      (rw (letter-plain a la, letter-plain b lb, letter-plain c lc))
      (rw (name-field a b c (spaces 6) la lb lc) (unlabelled (plain e nothing)))
      (λ book line. refl)

  -- a number behind the name
  module _ (n i : ℕ) where
    abbrev numbered : List ℕ
    numbered = row letter_word (word_digits n) (32 ∷ i ∷ [])

    numbered-plain : field.plain i ≡ true → all_plain numbered ≡ true
    numbered-plain pi = rw (
      letter-plain a la,
      letter-plain b lb,
      letter-plain c lc,
      digit-plain (n / 4096),
      digit-plain (n / 256),
      digit-plain (n / 16),
      digit-plain n,
      pi,
    )

    numbered-fields : fields_of numbered ≡ name letter_word 0 ∷ field.word (last_digit (n / 4096)) (word_digits n) 4 ∷ field.fields 0 9 (i ∷ [])
    numbered-fields =
        name-field a b c (last_digit (n / 4096) ∷ last_digit (n / 256) ∷ last_digit (n / 16) ∷ last_digit n ∷ 32 ∷ i ∷ []) la lb lc
        ∙ ap (λ fs. name letter_word 0 ∷ fs)
        (number-field (last_digit (n / 4096)) (last_digit (n / 256)) (last_digit (n / 16)) (last_digit n) (i ∷ [])
        (digit-inner (n / 4096)) (digit-inner (n / 256)) (digit-inner (n / 16)) (digit-inner n))

    numbered-form : (code : Code) → Codes letter_word (field.word (last_digit (n / 4096)) (word_digits n) 4 ∷ field.fields 0 9 (i ∷ [])) code
        → Form (fields_of numbered) (Lays None code)
    numbered-form code k = subst (λ (fs : List Field). Form fs (Lays None code)) (sym numbered-fields) (unlabelled k)

  -- a memory-reference instruction
  module _ (word : ℕ) (op : Operation) (fits : word < 65536) (is : operation_of letter_word ≡ Some op) (same : opcode op ≡ opcode_in word) where
    points : Points (field.word (last_digit (word % 4096 / 4096)) (word_digits (word % 4096)) 4) (Address (word % 4096))
    points =
        let h : word % 4096 < 4096 = mod-lt word (lit< tt) in
        let z : letter (last_digit (word % 4096 / 4096)) ≡ false = ap letter (address-first (word % 4096) h) in
        rw z (address (number_read (word % 4096) (omega arith)) (omega arith))

    marked : (m : Bool) (i : ℕ) → leb 32768 word ≡ m → field.plain i ≡ true → Indirect (field.fields 0 9 (i ∷ [])) m → AssemblesBack word (numbered (word % 4096) i)
    marked m i up pi k =
        back word (numbered (word % 4096) i) (Reference op (Address (word % 4096)) m)
        (numbered-plain (word % 4096) i pi)
        (numbered-form (word % 4096) i (Reference op (Address (word % 4096)) m) (reference is points k))
        (λ book line. ap (λ x. Ok x) (joined word (opcode op) m fits same up))

    reference-by : (m : Bool) → leb 32768 word ≡ m → AssemblesBack word (row letter_word (word_digits (word % 4096)) (cond m (32 ∷ I ∷ []) (spaces 2)))
    reference-by true up = marked true I up refl (indirect refl nothing)
    reference-by false up = marked false 32 up refl (direct nothing)

    reference-back : AssemblesBack word (row letter_word (word_digits (word % 4096)) (mark_of word))
    reference-back = reference-by (leb 32768 word) refl

-- HEX and the word
hex-back : (word : ℕ) → word < 65536 → AssemblesBack word (row (H ∷ E ∷ X ∷ []) (word_digits word) (spaces 2))
hex-back word h =
    back word (row (H ∷ E ∷ X ∷ []) (word_digits word) (spaces 2)) (Word word)
    (numbered-plain H E X refl refl refl word 32 refl)
    (numbered-form H E X refl refl refl word 32 (Word word)
    (hexadecimal refl (spelled_by (letter (last_digit (word / 4096))) (word_digits word) 4) (number_read word h) nothing))
    (λ book line. refl)

-- names that were found
operation-by : (word : ℕ) (w : List ℕ) → word < 65536 → Letters w × ((op : Operation) × (operation_of w ≡ Some op) × (opcode op ≡ opcode_in word))
    → AssemblesBack word (row w (word_digits (word % 4096)) (mark_of word))
operation-by word _ h (letters a b c la lb lc, f) = reference-back a b c la lb lc word f.0 h f.1 f.2

plain_by : (word : ℕ) (w : List ℕ) → Letters w × (plain_word w ≡ Some word) → AssemblesBack word (row w (spaces 4) (spaces 2))
plain_by word _ (letters a b c la lb lc, e) = plain_back a b c la lb lc word e

-- every word
by_names : (word : ℕ) (o p : Option (List ℕ)) → word < 65536 → operation_name (opcode_in word) ≡ o → plain_name word ≡ p → AssemblesBack word (row_by word o p)
by_names word (Some w) p h eo ep = operation-by word w h (operation-found (opcode_in word) w eo)
by_names word None (Some w) h eo ep = plain_by word w (plain-found word w ep)
by_names word None None h eo ep = hex-back word h

pub assembles-back : (word : ℕ) → word < 65536 → AssemblesBack word (disassembled word)
assembles-back word h = by_names word (operation_name (opcode_in word)) (plain_name word) h refl refl

-- a row has ten bytes
letters-length : (w : List ℕ) → Letters w → length w ≡ 3
letters-length _ (letters a b c la lb lc) = refl

mark-length : (word : ℕ) → length (mark_of word) ≡ 2
mark-length word = elim (leb 32768 word) as (λ m. length (cond m (32 ∷ I ∷ []) (spaces 2)) ≡ 2) [ true ↦ refl | false ↦ refl ]

length-by : (word : ℕ) (o p : Option (List ℕ)) → operation_name (opcode_in word) ≡ o → plain_name word ≡ p → length (row_by word o p) ≡ 10
length-by word (Some w) p eo ep =
    simp length-append (omega (arith, letters-length w (operation-found (opcode_in word) w eo).0, mark-length word))
length-by word None (Some w) eo ep = simp length-append (omega (arith, letters-length w (plain-found word w ep).0))
length-by word None None eo ep = refl

pub row-length : (word : ℕ) → length (disassembled word) ≡ 10
row-length word = length-by word (operation_name (opcode_in word)) (plain_name word) refl refl
