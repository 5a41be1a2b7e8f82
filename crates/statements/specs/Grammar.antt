-- The forms of a statement as a grammar: which fields say which statement.
use Rattle.std.specs.Prelude.{◌≡◌, ℕ, ◌+◌, ◌-◌, ◌%◌, ◌≤◌, Bool, true, false, List, [], ◌∷◌, length, drop, Some, None, ◌≢◌, slice_index}
use Rattle.fields.specs.Fields.{Field, name, number, comma, comment}
use Rattle.fields.specs.Numbers.{number_in}
use Rattle.statements.specs.declared.statement.Code.{Code}
use Rattle.statements.specs.declared.statement.Code.TheVariants.{Reference, Word}
use Rattle.statements.specs.declared.statement.Name.{Name}
use Rattle.statements.specs.declared.statement.Operand.{Operand}
use Rattle.statements.specs.declared.statement.Operand.TheVariants.{Label, Address}
use Rattle.statements.specs.declared.statement.Operation.{Operation}
use Rattle.statements.specs.declared.statement.Statement.{Statement}
use Rattle.statements.specs.declared.statement.Statement.TheVariants.{Blank, Origin, End, Lays}
use Rattle.statements.specs.Letters.{C, D, E, G, H, I, N, O, R, X}
use Rattle.statements.specs.Words.{label_name, operation_of, plain_word, spells}

-- nothing more, or a comment
pub data Ended : List Field → Type 0 where
  nothing : Ended []
  commented : {w : List ℕ} {at : ℕ} {fs : List Field} → Ended (comment w at ∷ fs)

-- a word: a name or a number
pub data Spelled : Field → List ℕ → Type 0 where
  by_name : {w : List ℕ} {at : ℕ} → Spelled (name w at) w
  by_number : {w : List ℕ} {at : ℕ} → Spelled (number w at) w

-- perhaps I
pub data Indirect : List Field → Bool → Type 0 where
  direct : {fs : List Field} → Ended fs → Indirect fs false
  indirect : {w : List ℕ} {at : ℕ} {fs : List Field} → w ≡ I ∷ [] → Ended fs → Indirect (name w at ∷ fs) true

-- an address: a label, or a number up to 4095 that begins with a digit
pub data Points : Field → Operand → Type 0 where
  label : {w : List ℕ} {at : ℕ} {l : Name} → label_name w ≡ Some l → Points (name w at) (Label l)
  address : {w : List ℕ} {at n : ℕ} → number_in 16 4 w ≡ Some n → n ≤ 4095 → Points (number w at) (Address n)

-- a decimal number as a word, in two's complement
pub data Decimal : List ℕ → ℕ → Type 0 where
  positive : {w : List ℕ} {n : ℕ} → (slice_index w 0 ≢ 45) → number_in 10 5 w ≡ Some n → n ≤ 32767 → Decimal w n
  negative : {w : List ℕ} {n : ℕ} → slice_index w 0 ≡ 45 → number_in 10 5 (drop 1 w) ≡ Some n → n ≤ 32768 → Decimal w ((65536 - n) % 65536)

-- what a statement lays, by its first word and the fields behind it
pub data Codes : List ℕ → List Field → Code → Type 0 where
  reference : {w : List ℕ} {f : Field} {fs : List Field} {op : Operation} {o : Operand} {i : Bool}
      → operation_of w ≡ Some op → Points f o → Indirect fs i → Codes w (f ∷ fs) (Reference op o i)
  plain : {w : List ℕ} {fs : List Field} {n : ℕ} → plain_word w ≡ Some n → Ended fs → Codes w fs (Word n)
  decimal : {w v : List ℕ} {f : Field} {fs : List Field} {n : ℕ}
      → spells w D E C ≡ true → Spelled f v → Decimal v n → Ended fs → Codes w (f ∷ fs) (Word n)
  hexadecimal : {w v : List ℕ} {f : Field} {fs : List Field} {n : ℕ}
      → spells w H E X ≡ true → Spelled f v → number_in 16 4 v ≡ Some n → Ended fs → Codes w (f ∷ fs) (Word n)

-- a line: blank; ORG number; END; and with or without a label what lays a word
pub data Form : List Field → Statement → Type 0 where
  blank : {fs : List Field} → Ended fs → Form fs Blank
  origin : {w v : List ℕ} {at n : ℕ} {f : Field} {fs : List Field}
      → spells w O R G ≡ true → Spelled f v → number_in 16 4 v ≡ Some n → n ≤ 4095 → Ended fs → Form (name w at ∷ f ∷ fs) (Origin n)
  end : {w : List ℕ} {at : ℕ} {fs : List Field} → spells w E N D ≡ true → Ended fs → Form (name w at ∷ fs) End
  unlabelled : {w : List ℕ} {at : ℕ} {fs : List Field} {code : Code} → Codes w fs code → Form (name w at ∷ fs) (Lays None code)
  labelled : {v w : List ℕ} {at place : ℕ} {l : Name} {fs : List Field} {code : Code}
      → label_name v ≡ Some l → Codes w fs code → Form (name v at ∷ comma (at + length v) ∷ name w place ∷ fs) (Lays (Some l) code)
