-- One statement more of a taking.
use Rattle.std.proofs.Common.{◌≡◌, ℕ, false, leb, List, ◌++◌, length, is_some, Some, None, Ok, Option, sym, ◌∙◌, append-nil}
use Rattle.fields.proofs.Outcomes.{ok-then, ok-else}
use Rattle.statements.specs.declared.statement.Name.{Name}
use Rattle.sheets.specs.declared.fault.SheetFault.TheVariants.{LabelTaken, BookFull, PastMemory}
use Rattle.sheets.specs.declared.label.Label.{Label}
use Rattle.sheets.specs.declared.placed.Placed.{Placed}
use Rattle.sheets.specs.Labels.{lookup}
use Rattle.sheets.specs.Laws.{labelled}
use Rattle.sheets.specs.Taking.{labelling}

-- a granted statement with a label: the name is new, there is room, and its word lies within the memory
pub new-label : (room : ℕ) (held more : List Label) (p : Placed) (name : Name) → labelling room held p (Some name) ≡ Ok more
    → (is_some (lookup held name) ≡ false) × (leb room (length held) ≡ false) × (more ≡ held ++ labelled (Some name) p.address)
new-label room held more p name h =
    let a = ok-else (is_some (lookup held name)) _ more (LabelTaken p.line) h in
    let b = ok-else (leb room (length held)) _ more (BookFull p.line) a.1 in
    (a.0, b.0, sym (ok-then (leb p.address 4095) _ more (PastMemory p.line) b.1))

pub no_label : (room : ℕ) (held more : List Label) (p : Placed) → labelling room held p None ≡ Ok more → more ≡ held
no_label room held more p h = sym (ok-then (leb p.address 4095) held more (PastMemory p.line) h)

-- a granted statement adds its label, if it has one
pub adds : (room : ℕ) (held more : List Label) (p : Placed) (label : Option Name) → labelling room held p label ≡ Ok more → more ≡ held ++ labelled label p.address
adds room held more p None h = no_label room held more p h ∙ sym (append-nil held)
adds room held more p (Some name) h = (new-label room held more p name h).2
