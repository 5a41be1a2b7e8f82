-- What a granted taking and a granted laying come to.
use Rattle.std.proofs.Common.{◌≡◌, ℕ, suc, ◌+◌, ◌≤◌, min, max, Bool, true, false, cond, eqb, List, [], ◌∷◌, ◌++◌, length, is_some, Some, None, Ok, Err, Option, Result, sym, refl, ap, ◌∙◌, subst, append_assoc, append-nil, add-one, arith, length-append, eq-eqb, ne_eqb, eqb-true, leb-false}
use borrow.Author.Tests.{eqb-false}
use Rattle.fields.specs.Outcomes.{lifted}
use Rattle.memory.specs.Contents.{Contents, size}
use Rattle.statements.specs.declared.statement.Name.{Name}
use Rattle.sheets.specs.declared.fault.LayingFault.{LayingFault}
use Rattle.sheets.specs.declared.fault.LayingFault.TheVariants as fault
use Rattle.sheets.specs.declared.fault.SheetFault.{SheetFault}
use Rattle.sheets.specs.declared.label.Label.{Label}
use Rattle.sheets.specs.declared.placed.Cell.{Cell}
use Rattle.sheets.specs.declared.placed.Placed.{Placed}
use Rattle.sheets.specs.Assembling.{assembling, named}
use Rattle.sheets.specs.Labels.{lookup, same_name}
use Rattle.sheets.specs.Laws.{labelled, labels_of, Distinct, Grown, Takes, Untouched, Between, Spans, Lays}
use Rattle.sheets.specs.Laying.{answered, cells_of, laying, memory_after, stored_all, summary, summary_from}
use Rattle.sheets.specs.Sheets.{Sheet, end, refused, placed, sheet_of}
use Rattle.sheets.specs.Taking.{entering, go_on, labelling, taking}
use Rattle.sheets.proofs.Laying.{Inside, fetched-last, fetched-others, granted, inside, inside-at, size-all}
use Rattle.sheets.proofs.Taking.{adds, new-label, no_label}

-- a granted statement has room for its label
fits_one : (room : ℕ) (held more : List Label) (p : Placed) (label : Option Name) → labelling room held p label ≡ Ok more → length held ≤ room → length more ≤ room
fits_one room held more p None h l = rw (no_label room held more p h) l
fits_one room held more p (Some name) h l =
    let n = new-label room held more p name h in
    rw (n.2, length-append) (omega (arith, leb-false room (length held) n.1))

-- equal names are the same either way round
flip : (a b : ℕ) (t : Bool) → eqb a b ≡ t → eqb b a ≡ t
flip a b true e = eq-eqb b a (sym (eqb-true a b e))
flip a b false e = ne_eqb b a (λ k. eqb-false a b e (sym k))

same-sym : (a b : Name) → same_name a b ≡ false → same_name b a ≡ false
same-sym a b h = rw (flip a.first b.first _ refl, flip a.second b.second _ refl, flip a.third b.third _ refl) h

-- a name that is not found
none-else : (b : Bool) (a : ℕ) (o : Option ℕ) → cond b (Some a) o ≡ None → (b ≡ false) × (o ≡ None)
none-else true a o h = cc
none-else false a o h = (refl, h)

not_found : (o : Option ℕ) → is_some o ≡ false → o ≡ None
not_found None h = refl
not_found (Some a) h = cc

lookup-more : (held : List Label) (l : Label) (name : Name) → lookup held name ≡ None → same_name l.name name ≡ false → lookup (held ++ l ∷ []) name ≡ None
lookup-more [] l name n s = rw s
lookup-more (x ∷ held) l name n s =
    let e = none-else (same_name x.name name) x.address (lookup held name) n in
    rw e.0 (lookup-more held l name e.1 s)

distinct_more : (held : List Label) (l : Label) → Distinct held → lookup held l.name ≡ None → Distinct (held ++ l ∷ [])
distinct_more [] l d n = (refl, tt)
distinct_more (x ∷ held) l d n =
    let e = none-else (same_name x.name l.name) x.address (lookup held l.name) n in
    (lookup-more held l x.name d.0 (same-sym x.name l.name e.0), distinct_more held l d.1 e.1)

distinct-one : (room : ℕ) (held more : List Label) (p : Placed) (label : Option Name) → labelling room held p label ≡ Ok more → Distinct held → Distinct more
distinct-one room held more p None h d = subst Distinct (sym (no_label room held more p h)) d
distinct-one room held more p (Some name) h d =
    let n = new-label room held more p name h in
    subst Distinct (sym n.2) (distinct_more held (record { name = name; address = p.address }) d (not_found (lookup held name) n.0))

-- labels that lead on from others
regrown : (held more labels : List Label) (whole rest : Sheet) (answer : Result ℕ SheetFault) → more ++ labels_of rest ≡ held ++ labels_of whole → Grown more rest answer labels → Grown held whole answer labels
regrown held more labels whole rest (Ok n) e g = (g.0 ∙ e, g.1)
regrown held more labels whole rest (Err f) e g = (g.0, g.1 ∙ e)

-- one statement, and then the rest of the sheet
takes_one : (room : ℕ) (held : List Label) (p : Placed) (rest : Sheet) (r : Result (List Label) SheetFault) → entering room held p ≡ r
    → ((more : List Label) → Takes room more rest (taking room more rest)) → Takes room held (placed p rest) (go_on r held (λ more. taking room more rest))
takes_one room held p rest (Err e) is ih = record { grown = (labels_of (placed p rest), refl); fits = λ h. h; distinct = λ d. d }
takes_one room held p rest (Ok more) is ih =
    let joined : more ++ labels_of rest ≡ held ++ labels_of (placed p rest) =
    ap (λ l. l ++ labels_of rest) (adds room held more p p.label is) ∙ append_assoc held (labelled p.label p.address) (labels_of rest) in
    record {
      grown = regrown held more _ (placed p rest) rest _ joined (ih more).grown;
      fits = λ h. (ih more).fits (fits_one room held more p p.label is h);
      distinct = λ d. (ih more).distinct (distinct-one room held more p p.label is d);
    }

pub takes : (room : ℕ) (held : List Label) (sheet : Sheet) → Takes room held sheet (taking room held sheet)
takes room held end = record { grown = (sym (append-nil held), refl); fits = λ h. h; distinct = λ d. d }
takes room held (refused e) = record { grown = ([], refl); fits = λ h. h; distinct = λ d. d }
takes room held (placed p rest) = takes_one room held p rest (entering room held p) refl (λ more. takes room more rest)

-- what these words make of a count above zero, a lowest address and a highest
pub record From (k low high : ℕ) (cs : List Cell) (answer : ℕ × ℕ × ℕ) : Type 0 where
  pub count : answer.0 ≡ suc k + length cs
  pub down : answer.1 ≤ low
  pub up : high ≤ answer.2
  pub between : Between answer.1 answer.2 cs
  pub lowest : Untouched answer.1 cs → answer.1 ≡ low
  pub highest : Untouched answer.2 cs → answer.2 ≡ high

from : (k low high : ℕ) (cs : List Cell) → From k low high cs (summary_from (suc k, low, high) cs)
from k low high [] = record { count = omega arith; down = omega arith; up = omega arith; between = tt; lowest = λ u. refl; highest = λ u. refl }
from k low high (c ∷ cs) =
    let f = from (suc k) (min low c.address) (max high c.address) cs in
    let one : summary_from (suc k, low, high) (c ∷ cs) ≡ summary_from (suc (suc k), min low c.address, max high c.address) cs =
    rw (ne_eqb (suc k) 0 (λ e. omega arith), add-one) in
    subst (λ (t : ℕ × ℕ × ℕ). From k low high (c ∷ cs) t) (sym one) (record {
      count = omega (arith, f.count);
      down = omega (arith, f.down);
      up = omega (arith, f.up);
      between = (omega (arith, f.down), omega (arith, f.up), f.between);
      lowest = λ u. let e = f.lowest u.1 in let ne = u.0 in omega (arith, e, ne);
      highest = λ u. let e = f.highest u.1 in let ne = u.0 in omega (arith, e, ne);
    })

spans : (cs : List Cell) → Spans cs (summary cs)
spans [] = refl
spans (c ∷ cs) =
    let f = from 0 c.address c.address cs in
    (omega (arith, f.count), (f.down, f.up, f.between), (λ u. u.0 (f.lowest u.1)), (λ u. u.0 (f.highest u.1)))

lays : (book : List Label) (m : Contents) (text : List ℕ) (cs : List Cell) → laying book m text ≡ Ok cs → Lays m cs (stored_all m cs)
lays book m text cs h =
    let g = granted book m text cs h in
    let all = inside book (sheet_of text) cs g.1 in
    record {
      sized = size-all m cs;
      last = λ front back c e u. rw e (fetched-last m front back c (omega (arith, inside-at front back c (subst Inside e all), g.0)) u);
      others = λ a u. fetched-others m cs a u;
      spans = spans cs;
    }

-- the same of the memory that a laying left
pub lays-after : (book : List Label) (m after : Contents) (text : List ℕ) → after ≡ memory_after (laying book m text) m
    → (cs : List Cell) → laying book m text ≡ Ok cs → Lays m cs after
lays-after book m after text e cs h = subst (λ (x : Contents). Lays m cs x) (sym (e ∙ ap (λ r. memory_after r m) h)) (lays book m text cs h)

-- and of both passes
named-then : (answer : Result ℕ SheetFault) (laid : Result (List Cell) LayingFault) (cs : List Cell) → lifted fault.Sheet answer (λ n. laid) ≡ Ok cs → laid ≡ Ok cs
named-then (Ok n) laid cs h = h
named-then (Err e) laid cs h = cc

pub assembles-after : (room : ℕ) (m after : Contents) (text : List ℕ) → after ≡ memory_after (assembling room m text) m
    → (cs : List Cell) → assembling room m text ≡ Ok cs → Lays m cs after
assembles-after room m after text e cs h =
    let l = named-then (named room text).answer (laying (named room text).labels m text) cs h in
    subst (λ (x : Contents). Lays m cs x) (sym (e ∙ ap (λ r. memory_after r m) h)) (lays (named room text).labels m text cs l)

-- a memory of 4096 words is never refused for its size
unsized : (book : List Label) (m : Contents) (r : Result (List Cell) SheetFault) → size m ≡ 4096
    → answered (cond (eqb (size m) 4096) (lifted fault.Sheet r (λ cs. Ok cs)) (Err fault.MemorySize)) ≡ Err fault.MemorySize → ⊥
unsized book m (Ok cs) e = rw (eq-eqb (size m) 4096 e) (λ h. cc)
unsized book m (Err f) e = rw (eq-eqb (size m) 4096 e) (λ h. cc)

pub well-sized : (room : ℕ) (m : Contents) (text : List ℕ) → size m ≡ 4096 → answered (assembling room m text) ≡ Err fault.MemorySize → ⊥
well-sized room m text e = elim (named room text).answer as (λ a. answered (lifted fault.Sheet a (λ n. laying (named room text).labels m text)) ≡ Err fault.MemorySize → ⊥) [
  | Ok n ↦ unsized (named room text).labels m (cells_of (named room text).labels (sheet_of text)) e
  | Err f ↦ (λ h. cc)
]
