-- Words stored one after the other.
use Rattle.std.proofs.Common.{◌≡◌, ℕ, ◌<◌, ◌≤◌, eqb, leb, List, [], ◌∷◌, ◌++◌, Ok, Err, Result, refl, ap, ◌∙◌, subst, arith, eqb-true, leb-true}
use Rattle.fields.specs.Outcomes.{and_then, lifted}
use Rattle.fields.proofs.Outcomes.{ok-both, ok_same, ok-when}
use Rattle.memory.specs.Contents.{Contents, size, fetched, stored}
use Rattle.memory.proofs.Contents.{size-stored, fetched-here, fetched-elsewhere}
use Rattle.sheets.specs.declared.fault.LayingFault.TheVariants as fault
use Rattle.sheets.specs.declared.fault.SheetFault.{SheetFault}
use Rattle.sheets.specs.declared.fault.SheetFault.TheVariants.{PastMemory}
use Rattle.sheets.specs.declared.label.Label.{Label}
use Rattle.sheets.specs.declared.placed.Cell.{Cell}
use Rattle.sheets.specs.declared.placed.Placed.{Placed}
use Rattle.sheets.specs.Laws.{Untouched}
use Rattle.sheets.specs.Laying.{cell_of, cells_of, code_word, laying, stored_all}
use Rattle.sheets.specs.Sheets.{Sheet, end, refused, placed, sheet_of}

pub size-all : (m : Contents) (cs : List Cell) → size (stored_all m cs) ≡ size m
size-all m [] = refl
size-all m (c ∷ cs) = size-all (stored m c.address c.word) cs ∙ size-stored m c.address c.word

pub fetched-others : (m : Contents) (cs : List Cell) (a : ℕ) → Untouched a cs → fetched (stored_all m cs) a ≡ fetched m a
fetched-others m [] a u = refl
fetched-others m (c ∷ cs) a u = fetched-others (stored m c.address c.word) cs a u.1 ∙ fetched-elsewhere m c.address c.word a u.0

pub fetched-last : (m : Contents) (front back : List Cell) (c : Cell) → c.address < size m → Untouched c.address back → fetched (stored_all m (front ++ c ∷ back)) c.address ≡ c.word
fetched-last m [] back c h u = fetched-others (stored m c.address c.word) back c.address u ∙ fetched-here m c.address c.word h
fetched-last m (x ∷ front) back c h u =
    let k = size-stored m x.address x.word in
    fetched-last (stored m x.address x.word) front back c (omega arith) u

-- every word of a sheet lies within the memory
abbrev pub Inside : List Cell → Type 0
Inside [] = Unit {0}
Inside (c ∷ cs) = (c.address ≤ 4095) × Inside cs

abbrev cell_at : Placed → ℕ → Result Cell SheetFault
cell_at p word = Ok (record { address = p.address; word = word })

cell-inside : (book : List Label) (p : Placed) (c : Cell) → cell_of book p ≡ Ok c → c.address ≤ 4095
cell-inside book p c h =
    let k = ok-when (leb p.address 4095) (and_then (code_word book p.line p.code) (cell_at p)) c (PastMemory p.line) h in
    let b = ok-both (code_word book p.line p.code) (cell_at p) c k.1 in
    let e : record { address = p.address; word = b.0 } ≡ c = ok_same _ c b.2 in
    let a : p.address ≡ c.address = ap (λ x. x.address) e in
    omega (arith, leb-true p.address 4095 k.0)

pub inside : (book : List Label) (sheet : Sheet) (cs : List Cell) → cells_of book sheet ≡ Ok cs → Inside cs
inside book end cs h = subst Inside (ok_same [] cs h) tt
inside book (refused e) cs h = cc
inside book (placed p rest) cs h =
    let b = ok-both (cell_of book p) (λ c. and_then (cells_of book rest) (λ others. Ok (c ∷ others))) cs h in
    let r = ok-both (cells_of book rest) (λ others. Ok (b.0 ∷ others)) cs b.2 in
    subst Inside (ok_same (b.0 ∷ r.0) cs r.2) (cell-inside book p b.0 b.1, inside book rest r.0 r.1)

unlifted : (r : Result (List Cell) SheetFault) (cs : List Cell) → lifted fault.Sheet r (λ l. Ok l) ≡ Ok cs → r ≡ Ok cs
unlifted (Ok l) cs h = ap {B = Result (List Cell) SheetFault} (λ x. Ok x) (ok_same l cs h)
unlifted (Err e) cs h = cc

-- a granted laying is one of a sheet, into a memory of 4096 words
pub granted : (book : List Label) (m : Contents) (text : List ℕ) (cs : List Cell) → laying book m text ≡ Ok cs → (size m ≡ 4096) × (cells_of book (sheet_of text) ≡ Ok cs)
granted book m text cs h =
    let k = ok-when (eqb (size m) 4096) (lifted fault.Sheet (cells_of book (sheet_of text)) (λ l. Ok l)) cs fault.MemorySize h in
    (eqb-true (size m) 4096 k.0, unlifted (cells_of book (sheet_of text)) cs k.1)

pub inside-at : (front back : List Cell) (c : Cell) → Inside (front ++ c ∷ back) → c.address ≤ 4095
inside-at [] back c h = h.0
inside-at (x ∷ front) back c h = inside-at front back c h.1
