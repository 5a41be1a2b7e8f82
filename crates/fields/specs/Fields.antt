-- The fields of a line, each with the place of its first byte.
use Rattle.std.specs.Prelude.{◌≡◌, ℕ, zero, suc, ◌+◌, Bool, cond, ◌&&◌, ◌||◌, List, [], ◌∷◌, length, take, drop, Some, None, Ok, Err, Option, Result, ◌==◌, nat_le, slice_index}
use Rattle.std.specs.List.{list_all}
use Rattle.fields.specs.declared.fault.FieldFault.{FieldFault}
use Rattle.fields.specs.declared.fault.FieldFault.TheVariants.{BadByte}
use Rattle.fields.specs.declared.token.Token.{Token}
use Rattle.fields.specs.declared.token.Token.TheVariants.{Name, Number, Comma, Comment}

-- bytes 32 to 126 may stand in a line
abbrev pub plain : ℕ → Bool
plain b = nat_le 32 b && nat_le b 126

abbrev pub all_plain : List ℕ → Bool
all_plain bs = list_all plain bs

-- the refusal of a line under its number, if a byte may not stand in it
abbrev pub checked : ℕ → List ℕ → Result (Unit {0}) FieldFault
checked number line = cond (all_plain line) (Ok tt) (Err (BadByte number))

abbrev pub letter : ℕ → Bool
letter b = nat_le 65 b && nat_le b 90

-- a field: its bytes and its place
pub data Field : Type 0 where
  name : List ℕ → ℕ → Field
  number : List ℕ → ℕ → Field
  comma : ℕ → Field
  comment : List ℕ → ℕ → Field

-- the field that a token stands for
abbrev pub field_of : Token → Field
field_of (Name bytes at) = name bytes.now at
field_of (Number bytes at) = number bytes.now at
field_of (Comma at) = comma at
field_of (Comment bytes at) = comment bytes.now at

-- a space, a comma or a slash ends a word
abbrev pub ends : ℕ → Bool
ends b = b == 32 || (b == 44 || b == 47)

-- how many bytes at the front belong to one word
abbrev pub word_length : List ℕ → ℕ
word_length [] = 0
word_length (b ∷ bs) = cond (ends b) 0 (suc (word_length bs))

-- a word that begins with a letter is a name, any other a number
abbrev pub word : ℕ → List ℕ → ℕ → Field
word first bytes at = cond (letter first) (name bytes at) (number bytes at)

-- The fields of the bytes from the place `at` on, of which the first `k` belong to a word that is told already:
-- spaces are passed over, a slash begins a comment, a comma is a field of its own, anything else begins a word.
abbrev pub fields : ℕ → ℕ → List ℕ → List Field
fields k at [] = []
fields (suc k) at (b ∷ bs) = fields k (at + 1) bs
fields zero at (b ∷ bs) =
    cond (b == 32) (fields 0 (at + 1) bs)
    (cond (b == 47) (comment (b ∷ bs) at ∷ [])
    (cond (b == 44) (comma at ∷ fields 0 (at + 1) bs)
    (word b (b ∷ take (word_length bs) bs) at ∷ fields (word_length bs) (at + 1) bs)))

abbrev pub fields_from : List ℕ → ℕ → List Field
fields_from line at = fields 0 at (drop at line)

abbrev pub fields_of : List ℕ → List Field
fields_of line = fields_from line 0

-- the next token is the first of the fields `before`, and `after` are the others
abbrev pub Next : List Field → Option Token → List Field → Type 0
Next before None after = (before ≡ []) × (after ≡ [])
Next before (Some t) after = before ≡ field_of t ∷ after

-- a field is a part of its line, at its place
abbrev pub Part : List ℕ → Field → Type 0
Part line (name bytes at) = bytes ≡ take (length bytes) (drop at line)
Part line (number bytes at) = bytes ≡ take (length bytes) (drop at line)
Part line (comma at) = slice_index line at ≡ 44
Part line (comment bytes at) = bytes ≡ drop at line

abbrev pub PartIfAny : List ℕ → Option Token → Type 0
PartIfAny line None = Unit {0}
PartIfAny line (Some t) = Part line (field_of t)
