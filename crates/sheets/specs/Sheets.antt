-- A sheet as it is read, line by line. Both passes go by this one reading.
use Rattle.std.specs.Prelude.{ℕ, ◌+◌, cond, List, [], ◌∷◌, length, Ok, Err, Result, nat_le}
use Rattle.fields.specs.Lines.{lines_of}
use Rattle.statements.specs.declared.fault.StatementFault.{StatementFault}
use Rattle.statements.specs.declared.statement.Statement.{Statement}
use Rattle.statements.specs.declared.statement.Statement.TheVariants.{Blank, Origin, End, Lays}
use Rattle.statements.specs.Forms.{line_statement}
use Rattle.sheets.specs.declared.fault.SheetFault.{SheetFault}
use Rattle.sheets.specs.declared.fault.SheetFault.TheVariants as fault
use Rattle.sheets.specs.declared.placed.Placed.{Placed}

-- The statements that lay a word, each with its line and its address, up to END or the first refusal.
pub data Sheet : Type 0 where
  end : Sheet
  refused : SheetFault → Sheet
  placed : Placed → Sheet → Sheet

-- ORG sets the address counter, and a word raises it
abbrev pub on_statement : ℕ → ℕ → Statement → (ℕ → Sheet) → Sheet
on_statement line address Blank rest = rest address
on_statement line address (Origin n) rest = rest n
on_statement line address End rest = end
on_statement line address (Lays label code) rest =
    placed (record { line = line; address = address; label = label; code = code }) (rest (address + 1))

abbrev pub on_line : ℕ → ℕ → Result Statement StatementFault → (ℕ → Sheet) → Sheet
on_line line address (Ok statement) rest = on_statement line address statement rest
on_line line address (Err e) rest = refused (fault.Statement e)

-- these lines, after k others and from this address on; without END the last line is refused
abbrev pub read_from : ℕ → ℕ → List (List ℕ) → Sheet
read_from k address [] = refused (fault.NoEnd k)
read_from k address (line ∷ lines) = on_line (k + 1) address (line_statement (k + 1) line) (λ a. read_from (k + 1) a lines)

-- the sheet of a text of at most 65,535 bytes
abbrev pub sheet_of : List ℕ → Sheet
sheet_of text = cond (nat_le (length text) 65535) (read_from 0 0 (lines_of text)) (refused fault.TextTooLong)
