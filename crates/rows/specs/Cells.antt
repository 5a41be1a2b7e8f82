-- What stands in one place of a row or a line, and the rows and lines that are made of such.
use Rattle.std.specs.Borrow.{Bor}
use Rattle.std.specs.Prelude.{ℕ, List}
use Rattle.rows.specs.declared.cell.Cell.{Cell}
use Rattle.rows.specs.declared.cell.Cell.TheVariants.{Flag, Count, Byte, Address, Word, Instruction}
use Rattle.digits.specs.Digits.{flag_digit, count_digit, byte_digits, address_digits, word_digits}
use Rattle.rows.specs.Texts.{padded, named}

abbrev pub cell_text : Cell → List ℕ
cell_text (Flag up) = flag_digit up
cell_text (Count n) = count_digit n
cell_text (Byte n) = byte_digits n
cell_text (Address n) = address_digits n
cell_text (Word n) = word_digits n
cell_text (Instruction bytes) = bytes

abbrev pub column_text : ℕ × Cell → List ℕ
column_text column = padded column.0 (cell_text column.1)

abbrev pub line_text : Bor (List ℕ) × Cell → List ℕ
line_text line = named line.0.now (cell_text line.1)
