-- A sheet of rows lays their words.
use Rattle.std.proofs.Common.{◌≡◌, ℕ, ◌+◌, ◌*◌, ◌<◌, ◌≤◌, Bool, true, false, cond, eqb, List, [], ◌∷◌, ◌++◌, length, None, Ok, Err, Result, refl, ap, ◌∙◌, arith, length-append, eq-eqb, le-leb}
use Rattle.std.proofs.lemmas.Bool.Decides.{nat_tests}
use Rattle.std.specs.List.{AllByRecursion}
use Rattle.fields.proofs.Outcomes.{both_true, clash}
use Rattle.fields.specs.declared.fault.FieldFault.TheVariants.{BadByte}
use Rattle.fields.specs.Fields.{all_plain, fields_of, plain}
use Rattle.fields.specs.Lines.{lines_of}
use Rattle.fields.specs.Outcomes.{lifted}
use Rattle.memory.specs.Contents.{Contents, size}
use Rattle.statements.specs.declared.fault.StatementFault.TheVariants.{Field}
use Rattle.statements.specs.declared.statement.Statement.{Statement}
use Rattle.statements.specs.declared.statement.Statement.TheVariants.{Lays}
use Rattle.statements.specs.Forms.{line_statement, statement_of}
use Rattle.sheets.specs.declared.fault.LayingFault.{LayingFault}
use Rattle.sheets.specs.declared.fault.LayingFault.TheVariants.{MemorySize, Sheet}
use Rattle.sheets.specs.declared.label.Label.{Label}
use Rattle.sheets.specs.declared.placed.Cell.{Cell}
use Rattle.sheets.specs.Laying.{cells_of}
use Rattle.sheets.specs.Sheets.{read_from, sheet_of}
use Rattle.sheets.specs.Sheets as sheets
use Rattle.sheets.specs.Taking.{taking}
use Rattle.disassembly.specs.Laws.{LaysWords, cells_from}
use Rattle.disassembly.specs.Rows.{disassembled}
use Rattle.disassembly.specs.Sheets.{ending, sheet_for}
use Rattle.disassembly.proofs.Rows.{assembles-back, row-length}

not-ten : (b : ℕ) → plain b ≡ true → eqb b 10 ≡ false
not-ten b h = grind (arith, nat_tests)

-- a line that may stand in a sheet ends at the byte 10 behind it
first-line : (text rest : List ℕ) → all_plain text ≡ true → lines_of (text ++ 10 ∷ rest) ≡ text ∷ lines_of rest
first-line [] rest h = refl
first-line (b ∷ bs) rest h =
    let p = both_true (plain b) (all_plain bs) h in
    rw (not-ten b p.0, first-line bs rest p.1)

plain_by : (line : ℕ) (text : List ℕ) (s : Statement) (t : Bool)
    → lifted {X = Unit {0}} Field (cond t (Ok tt) (Err (BadByte line))) (λ u. statement_of line (fields_of text)) ≡ Ok s → t ≡ true
plain_by line text s true h = refl
plain_by line text s false h = absurd (clash (Field (BadByte line)) s h)

-- a line that is read may stand in a sheet
read_plain : (line : ℕ) (text : List ℕ) (s : Statement) → line_statement line text ≡ Ok s → all_plain text ≡ true
read_plain line text s h = plain_by line text s (all_plain text) h

abbrev pub Words : List ℕ → Type 0
Words words = AllByRecursion (λ word. word < 65536) words

-- the first line of a sheet of rows
row_first : (word : ℕ) (rest : List ℕ) → word < 65536 → lines_of (disassembled word ++ 10 ∷ rest) ≡ disassembled word ∷ lines_of rest
row_first word rest h =
    let back = assembles-back word h in
    first-line (disassembled word) rest (read_plain 1 (disassembled word) (Lays None back.code) (back.read 1))

-- the lines of a sheet of rows
abbrev lines_for : List ℕ → List (List ℕ)
lines_for [] = ending ∷ []
lines_for (word ∷ words) = disassembled word ∷ lines_for words

lines-for : (words : List ℕ) → Words words → lines_of (sheet_for words) ≡ lines_for words
lines-for [] h = refl
lines-for (word ∷ words) h = row_first word (sheet_for words) h.0 ∙ ap (λ ls. disassembled word ∷ ls) (lines-for words h.1)

-- the second pass lays the words
cells-laid : (book : List Label) (k address : ℕ) (words : List ℕ) → Words words → address + length words ≤ 4096
    → cells_of book (read_from k address (lines_for words)) ≡ Ok (cells_from address words)
cells-laid book k address [] h fits = refl
cells-laid book k address (word ∷ words) h fits =
    let back = assembles-back word h.0 in
    rw (
      back.read (k + 1),
      le-leb address 4095 (omega arith),
      back.laid book (k + 1),
      cells-laid book (k + 1) (address + 1) words h.1 (omega arith),
    )

-- the first pass finds no label
names-taken : (room : ℕ) (held : List Label) (k address : ℕ) (words : List ℕ) → Words words → address + length words ≤ 4096
    → taking room held (read_from k address (lines_for words)) ≡ record { labels = held; answer = Ok (length held) }
names-taken room held k address [] h fits = refl
names-taken room held k address (word ∷ words) h fits =
    let back = assembles-back word h.0 in
    rw (back.read (k + 1), le-leb address 4095 (omega arith)) (names-taken room held (k + 1) (address + 1) words h.1 (omega arith))

sheet-length : (words : List ℕ) → length (sheet_for words) ≡ 11 * length words + 3
sheet-length [] = refl
sheet-length (word ∷ words) = simp length-append (omega (arith, row-length word, sheet-length words))

-- both passes
abbrev passes : ℕ → Contents → sheets.Sheet → Result (List Cell) LayingFault
passes room memory sheet =
    lifted Sheet (taking room [] sheet).answer
    (λ u. cond (eqb (size memory) 4096) (lifted Sheet (cells_of (taking room [] sheet).labels sheet) (λ cs. Ok cs)) (Err MemorySize))

pub lays-words : (words : List ℕ) → Words words → length words ≤ 4096 → LaysWords words (sheet_for words)
lays-words words h fits room memory sized =
    let short : length (sheet_for words) ≤ 65535 = omega (arith, sheet-length words) in
    let is : sheet_of (sheet_for words) ≡ read_from 0 0 (lines_for words) = rw (le-leb (length (sheet_for words)) 65535 short, lines-for words h) in
    ap (passes room memory) is
    ∙ rw (names-taken room [] 0 0 words h (omega arith), eq-eqb (size memory) 4096 sized, cells-laid [] 0 0 words h (omega arith))
