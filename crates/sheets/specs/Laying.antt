-- Laying the words of a sheet into a memory.
use Rattle.std.specs.Prelude.{ℕ, ◌+◌, ◌*◌, ◌%◌, min, max, Bool, cond, List, [], ◌∷◌, Ok, Err, Result, ◌==◌, nat_le}
use Rattle.fields.specs.Outcomes.{and_then, lifted, or_fault}
use Rattle.memory.specs.Contents.{Contents, size, stored}
use Rattle.statements.specs.declared.statement.Code.{Code}
use Rattle.statements.specs.declared.statement.Code.TheVariants.{Reference, Word}
use Rattle.statements.specs.declared.statement.Operand.{Operand}
use Rattle.statements.specs.declared.statement.Operand.TheVariants as operand
use Rattle.statements.specs.declared.statement.Operation.{Operation}
use Rattle.statements.specs.declared.statement.Operation.TheVariants.{And, Add, Lda, Sta, Bun, Bsa, Isz}
use Rattle.sheets.specs.declared.fault.LayingFault.{LayingFault}
use Rattle.sheets.specs.declared.fault.LayingFault.TheVariants.{MemorySize}
use Rattle.sheets.specs.declared.fault.LayingFault.TheVariants as fault
use Rattle.sheets.specs.declared.fault.SheetFault.{SheetFault}
use Rattle.sheets.specs.declared.fault.SheetFault.TheVariants.{LabelUnknown, PastMemory}
use Rattle.sheets.specs.declared.label.Label.{Label}
use Rattle.sheets.specs.declared.placed.Cell.{Cell}
use Rattle.sheets.specs.declared.placed.Placed.{Placed}
use Rattle.sheets.specs.Labels.{lookup}
use Rattle.sheets.specs.Sheets.{Sheet, end, refused, placed, sheet_of}

abbrev pub opcode : Operation → ℕ
opcode And = 0
opcode Add = 1
opcode Lda = 2
opcode Sta = 3
opcode Bun = 4
opcode Bsa = 5
opcode Isz = 6

-- bit 15 is I, bits 12 to 14 are the opcode, the others the address
abbrev pub encoded : Operation → ℕ → Bool → ℕ
encoded op address indirect = cond indirect 32768 0 + opcode op * 4096 + address % 4096

abbrev pub operand_address : List Label → ℕ → Operand → Result ℕ SheetFault
operand_address book line (operand.Address a) = Ok a
operand_address book line (operand.Label name) = or_fault (LabelUnknown line) (lookup book name) (λ a. Ok a)

abbrev pub code_word : List Label → ℕ → Code → Result ℕ SheetFault
code_word book line (Word n) = Ok n
code_word book line (Reference op o indirect) = and_then (operand_address book line o) (λ a. Ok (encoded op a indirect))

-- the word of a statement, at its address: one at address 4096 is refused before a label that the book lacks
abbrev pub cell_of : List Label → Placed → Result Cell SheetFault
cell_of book p =
    cond (nat_le p.address 4095)
    (and_then (code_word book p.line p.code) (λ word. Ok (record { address = p.address; word = word })))
    (Err (PastMemory p.line))

-- the words that a sheet lays, in order, or its first refusal
abbrev pub cells_of : List Label → Sheet → Result (List Cell) SheetFault
cells_of book end = Ok []
cells_of book (refused e) = Err e
cells_of book (placed p rest) =
    and_then (cell_of book p) (λ c. and_then (cells_of book rest) (λ cs. Ok (c ∷ cs)))

-- the words that a text lays with a book into a memory: its size is tried first, and then the whole text
abbrev pub laying : List Label → Contents → List ℕ → Result (List Cell) LayingFault
laying book memory text = cond (size memory == 4096) (lifted fault.Sheet (cells_of book (sheet_of text)) (λ cs. Ok cs)) (Err MemorySize)

-- whether a sheet can be laid, and what it then lays
abbrev pub checked : Result (List Cell) SheetFault → Result (Unit {0}) SheetFault
checked (Ok cs) = Ok tt
checked (Err e) = Err e

abbrev pub cells : Result (List Cell) SheetFault → List Cell
cells (Ok cs) = cs
cells (Err e) = []

-- a memory after these words are stored, one after the other
abbrev pub stored_all : Contents → List Cell → Contents
stored_all memory [] = memory
stored_all memory (c ∷ cs) = stored_all (stored memory c.address c.word) cs

-- how many words, the lowest address and the highest; three zeros for none
abbrev pub one_word_more : ℕ × ℕ × ℕ → ℕ → ℕ × ℕ × ℕ
one_word_more t a = cond (t.0 == 0) (1, a, a) (t.0 + 1, min t.1 a, max t.2 a)

abbrev pub summary_from : ℕ × ℕ × ℕ → List Cell → ℕ × ℕ × ℕ
summary_from t [] = t
summary_from t (c ∷ cs) = summary_from (one_word_more t c.address) cs

abbrev pub summary : List Cell → ℕ × ℕ × ℕ
summary cs = summary_from (0, 0, 0) cs

-- what a laying answers, and the memory after it
abbrev pub answered : Result (List Cell) LayingFault → Result (ℕ × ℕ × ℕ) LayingFault
answered (Ok cs) = Ok (summary cs)
answered (Err e) = Err e

abbrev pub memory_after : Result (List Cell) LayingFault → Contents → Contents
memory_after (Ok cs) memory = stored_all memory cs
memory_after (Err e) memory = memory
