-- The forms of a statement, by the fields of its line.
use Rattle.std.specs.Prelude.{ℕ, ◌+◌, ◌-◌, ◌%◌, Bool, true, false, cond, ◌&&◌, List, [], ◌∷◌, length, drop, Some, None, Ok, Err, Option, Result, ◌==◌, nat_le, slice_index}
use Rattle.fields.specs.Fields.{Field, name, number, comma, comment, checked, fields_of}
use Rattle.fields.specs.Numbers.{number_in}
use Rattle.fields.specs.Outcomes.{and_then, lifted, or_fault}
use Rattle.statements.specs.declared.fault.StatementFault.{StatementFault}
use Rattle.statements.specs.declared.fault.StatementFault.TheVariants.{NoForm, OutOfRange}
use Rattle.statements.specs.declared.fault.StatementFault.TheVariants as fault
use Rattle.statements.specs.declared.statement.Code.{Code}
use Rattle.statements.specs.declared.statement.Code.TheVariants.{Reference, Word}
use Rattle.statements.specs.declared.statement.Operand.{Operand}
use Rattle.statements.specs.declared.statement.Operand.TheVariants.{Label, Address}
use Rattle.statements.specs.declared.statement.Operation.{Operation}
use Rattle.statements.specs.declared.statement.Statement.{Statement}
use Rattle.statements.specs.declared.statement.Statement.TheVariants.{Blank, Origin, End, Lays}
use Rattle.statements.specs.declared.word.Radix.{Radix}
use Rattle.statements.specs.declared.word.Radix.TheVariants.{Decimal, Hexadecimal}
use Rattle.statements.specs.Letters.{D, E, G, I, N, O, R}
use Rattle.statements.specs.Words.{label_name, operation_of, plain_word, radix_of, spells}

-- refusals name the line
module _ (line : ℕ) where
  -- nothing but a comment may follow
  abbrev pub ended : List Field → Result (Unit {0}) StatementFault
  ended [] = Ok tt
  ended (comment w at ∷ fs) = Ok tt
  ended (name w at ∷ fs) = Err (NoForm line)
  ended (number w at ∷ fs) = Err (NoForm line)
  ended (comma at ∷ fs) = Err (NoForm line)

  -- perhaps I, and nothing more
  abbrev pub indirect_of : List Field → Result Bool StatementFault
  indirect_of [] = Ok false
  indirect_of (comment w at ∷ fs) = Ok false
  indirect_of (name w at ∷ fs) = cond (length w == 1 && slice_index w 0 == I) (and_then (ended fs) (λ _. Ok true)) (Err (NoForm line))
  indirect_of (number w at ∷ fs) = Err (NoForm line)
  indirect_of (comma at ∷ fs) = Err (NoForm line)

  -- one to four hexadecimal digits, up to 4095
  abbrev pub address_of : List ℕ → Result ℕ StatementFault
  address_of w = or_fault (NoForm line) (number_in 16 4 w) (λ n. cond (nat_le n 4095) (Ok n) (Err (OutOfRange line)))

  -- a label, or an address that begins with a digit
  abbrev pub operand_of : Field → Result Operand StatementFault
  operand_of (name w at) = or_fault (NoForm line) (label_name w) (λ l. Ok (Label l))
  operand_of (number w at) = and_then (address_of w) (λ a. Ok (Address a))
  operand_of (comma at) = Err (NoForm line)
  operand_of (comment w at) = Err (NoForm line)

  -- an operand and perhaps I
  abbrev pub reference_of : Operation → List Field → Result Code StatementFault
  reference_of op [] = Err (NoForm line)
  reference_of op (f ∷ fs) = and_then (indirect_of fs) (λ indirect. and_then (operand_of f) (λ operand. Ok (Reference op operand indirect)))

  -- one word, and nothing more
  abbrev pub only_word : List Field → Result (List ℕ) StatementFault
  only_word [] = Err (NoForm line)
  only_word (name w at ∷ fs) = and_then (ended fs) (λ _. Ok w)
  only_word (number w at ∷ fs) = and_then (ended fs) (λ _. Ok w)
  only_word (comma at ∷ fs) = Err (NoForm line)
  only_word (comment w at ∷ fs) = Err (NoForm line)

  -- one to five decimal digits, up to `most`
  abbrev pub decimal_up_to : ℕ → List ℕ → Result ℕ StatementFault
  decimal_up_to most w = or_fault (NoForm line) (number_in 10 5 w) (λ n. cond (nat_le n most) (Ok n) (Err (OutOfRange line)))

  -- one to five decimal digits, perhaps behind a minus: -32768 to 32767, in two's complement
  abbrev pub decimal_word : List ℕ → Result ℕ StatementFault
  decimal_word w =
      cond (slice_index w 0 == 45)
      (or_fault (NoForm line) (number_in 10 5 (drop 1 w)) (λ n. cond (nat_le n 32768) (Ok ((65536 - n) % 65536)) (Err (OutOfRange line))))
      (or_fault (NoForm line) (number_in 10 5 w) (λ n. cond (nat_le n 32767) (Ok n) (Err (OutOfRange line))))

  -- DEC number
  abbrev pub decimal_of : List Field → Result Code StatementFault
  decimal_of fs = and_then (only_word fs) (λ w. and_then (decimal_word w) (λ n. Ok (Word n)))

  -- HEX number
  abbrev pub hexadecimal_of : List Field → Result Code StatementFault
  hexadecimal_of fs = and_then (only_word fs) (λ w. or_fault (NoForm line) (number_in 16 4 w) (λ n. Ok (Word n)))

  -- a number, an operation with its operand, or an instruction that stands alone
  abbrev pub code_by : Option Radix → Option Operation → Option ℕ → List Field → Result Code StatementFault
  code_by (Some Decimal) op plain fs = decimal_of fs
  code_by (Some Hexadecimal) op plain fs = hexadecimal_of fs
  code_by None (Some op) plain fs = reference_of op fs
  code_by None None plain fs = or_fault (NoForm line) plain (λ n. and_then (ended fs) (λ _. Ok (Word n)))

  -- what a statement lays, by its first word
  abbrev pub code_of : List ℕ → List Field → Result Code StatementFault
  code_of w fs = code_by (radix_of w) (operation_of w) (plain_word w) fs

  -- ORG number
  abbrev pub origin_of : List Field → Result Statement StatementFault
  origin_of fs = and_then (only_word fs) (λ w. and_then (address_of w) (λ n. Ok (Origin n)))

  -- a statement with no label, by its first word
  abbrev pub unlabelled_of : List ℕ → List Field → Result Statement StatementFault
  unlabelled_of w fs =
      cond (spells w O R G) (origin_of fs)
      (cond (spells w E N D) (and_then (ended fs) (λ _. Ok End))
      (and_then (code_of w fs) (λ code. Ok (Lays None code))))

  -- a statement behind the label `w`: ORG and END have none
  abbrev pub labelled_of : List ℕ → List Field → Result Statement StatementFault
  labelled_of w [] = Err (NoForm line)
  labelled_of w (name v at ∷ fs) = or_fault (NoForm line) (label_name w) (λ l. and_then (code_of v fs) (λ code. Ok (Lays (Some l) code)))
  labelled_of w (number v at ∷ fs) = Err (NoForm line)
  labelled_of w (comma at ∷ fs) = Err (NoForm line)
  labelled_of w (comment v at ∷ fs) = Err (NoForm line)

  -- the fields behind a comma that stands at this place
  abbrev pub behind_comma : ℕ → List Field → Option (List Field)
  behind_comma place [] = None
  behind_comma place (name w at ∷ fs) = None
  behind_comma place (number w at ∷ fs) = None
  behind_comma place (comma at ∷ fs) = cond (at == place) (Some fs) None
  behind_comma place (comment w at ∷ fs) = None

  -- a statement that begins with the word `w`, which is a label if a comma follows directly
  abbrev pub named_of : List ℕ → List Field → Option (List Field) → Result Statement StatementFault
  named_of w fs None = unlabelled_of w fs
  named_of w fs (Some behind) = labelled_of w behind

  abbrev pub statement_of : List Field → Result Statement StatementFault
  statement_of [] = Ok Blank
  statement_of (comment w at ∷ fs) = Ok Blank
  statement_of (name w at ∷ fs) = named_of w fs (behind_comma (at + length w) fs)
  statement_of (number w at ∷ fs) = Err (NoForm line)
  statement_of (comma at ∷ fs) = Err (NoForm line)

  -- the statement of a line: its bytes first, then its form, then its numbers
  abbrev pub line_statement : List ℕ → Result Statement StatementFault
  line_statement bytes = lifted fault.Field (checked line bytes) (λ _. statement_of (fields_of bytes))
