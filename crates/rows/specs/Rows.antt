-- The rows with their headings, cell by cell, and the lines.
use Rattle.std.specs.Prelude.{ℕ, List, [], ◌∷◌, codes}
use Rattle.machine.specs.declared.registers.Registers.{Registers}
use Rattle.machine.specs.declared.registers.Visible.{Visible}
use Rattle.rows.specs.declared.clock.ClockRow.{ClockRow}
use Rattle.rows.specs.declared.cycle.CycleRow.{CycleRow}
use Rattle.digits.specs.Digits.{flag_digit, count_digit, byte_digits, address_digits, word_digits}
use Rattle.rows.specs.Texts.{in_columns, in_lines}

-- Where the columns of a cycle row begin: each one's distance to the next.
abbrev pub cycle_columns : List ℕ
cycle_columns = 4 ∷ 5 ∷ 12 ∷ 4 ∷ 5 ∷ 2 ∷ 4 ∷ 2 ∷ 2 ∷ 4 ∷ 4 ∷ 5 ∷ []

abbrev pub cycle_heading : List ℕ
cycle_heading = in_columns cycle_columns (
    codes "AT"
    ∷ codes "WORD"
    ∷ codes "INSTRUCTION"
    ∷ codes "PC"
    ∷ codes "AC"
    ∷ codes "E"
    ∷ codes "IEN"
    ∷ codes "R"
    ∷ codes "S"
    ∷ codes "FGI"
    ∷ codes "FGO"
    ∷ codes "INPR"
    ∷ codes "OUTR"
    ∷ [])

abbrev pub cycle_row : CycleRow → List ℕ
cycle_row row = in_columns cycle_columns (
    address_digits row.at
    ∷ word_digits row.word
    ∷ row.instruction
    ∷ address_digits row.after.pc
    ∷ word_digits row.after.ac
    ∷ flag_digit row.after.e
    ∷ flag_digit row.after.ien
    ∷ flag_digit row.after.r
    ∷ flag_digit row.after.s
    ∷ flag_digit row.after.port.fgi
    ∷ flag_digit row.after.port.fgo
    ∷ byte_digits row.after.port.inpr
    ∷ byte_digits row.after.port.outr
    ∷ [])

-- Where the columns of a clock row begin: each one's distance to the next.
abbrev pub clock_columns : List ℕ
clock_columns = 2 ∷ 12 ∷ 3 ∷ 4 ∷ 4 ∷ 5 ∷ 5 ∷ 5 ∷ 5 ∷ 2 ∷ 2 ∷ 4 ∷ 2 ∷ 2 ∷ 4 ∷ 4 ∷ 5 ∷ []

abbrev pub clock_heading : List ℕ
clock_heading = in_columns clock_columns (
    codes "T"
    ∷ codes "INSTRUCTION"
    ∷ codes "SC"
    ∷ codes "AR"
    ∷ codes "PC"
    ∷ codes "DR"
    ∷ codes "AC"
    ∷ codes "IR"
    ∷ codes "TR"
    ∷ codes "I"
    ∷ codes "E"
    ∷ codes "IEN"
    ∷ codes "R"
    ∷ codes "S"
    ∷ codes "FGI"
    ∷ codes "FGO"
    ∷ codes "INPR"
    ∷ codes "OUTR"
    ∷ [])

abbrev pub clock_row : ClockRow → List ℕ
clock_row row = in_columns clock_columns (
    count_digit row.time
    ∷ row.instruction
    ∷ count_digit row.after.sc
    ∷ address_digits row.after.ar
    ∷ address_digits row.after.pc
    ∷ word_digits row.after.dr
    ∷ word_digits row.after.ac
    ∷ word_digits row.after.ir
    ∷ word_digits row.after.tr
    ∷ flag_digit row.after.i
    ∷ flag_digit row.after.e
    ∷ flag_digit row.after.ien
    ∷ flag_digit row.after.r
    ∷ flag_digit row.after.s
    ∷ flag_digit row.after.port.fgi
    ∷ flag_digit row.after.port.fgo
    ∷ byte_digits row.after.port.inpr
    ∷ byte_digits row.after.port.outr
    ∷ [])

-- An address and the word that stands there.
abbrev pub word_row : ℕ → ℕ → List ℕ
word_row address word = in_columns (4 ∷ []) (address_digits address ∷ word_digits word ∷ [])

-- The registers that a program can see.
abbrev pub visible_lines : Visible → List ℕ
visible_lines v = in_lines (
    (codes "PC", address_digits v.pc)
    ∷ (codes "AC", word_digits v.ac)
    ∷ (codes "E", flag_digit v.e)
    ∷ (codes "IEN", flag_digit v.ien)
    ∷ (codes "R", flag_digit v.r)
    ∷ (codes "S", flag_digit v.s)
    ∷ (codes "FGI", flag_digit v.port.fgi)
    ∷ (codes "FGO", flag_digit v.port.fgo)
    ∷ (codes "INPR", byte_digits v.port.inpr)
    ∷ (codes "OUTR", byte_digits v.port.outr)
    ∷ [])

-- The registers that no program can see.
abbrev pub hidden_lines : Registers → List ℕ
hidden_lines r = in_lines (
    (codes "AR", address_digits r.ar)
    ∷ (codes "DR", word_digits r.dr)
    ∷ (codes "IR", word_digits r.ir)
    ∷ (codes "TR", word_digits r.tr)
    ∷ (codes "I", flag_digit r.i)
    ∷ (codes "SC", count_digit r.sc)
    ∷ [])
