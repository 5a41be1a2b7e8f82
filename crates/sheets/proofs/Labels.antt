-- Labels at the front of the records.
use Rattle.std.proofs.Common.{◌≡◌, ℕ, true, false, cond, Some, suc, ◌<◌, ◌≤◌, List, [], ◌∷◌, ◌++◌, length, take, drop, set, sym, refl, ap, ◌∙◌, append_assoc, arith, length-append, length-take}
use Rattle.std.specs.List.{find}
use Rattle.std.specs.Option.{option_map}
use Rattle.statements.specs.declared.statement.Name.{Name}
use lib.Seq.{set_split}
use Rattle.sheets.specs.declared.label.Label.{Label}
use Rattle.sheets.specs.Labels.{lookup, over, same_name}

pub length-held : (n : ℕ) (records : List Label) → n ≤ length records → length (take n records) ≡ n
length-held n records h = simp length-take (omega arith)

-- one label more
pub length_more : (n : ℕ) (records : List Label) (l : Label) → n ≤ length records → length (take n records ++ l ∷ []) ≡ suc n
length_more n records l h = simp length-append (omega (arith, length-held n records h))

pub over-more : (n : ℕ) (records : List Label) (l : Label) → n < length records → over (take n records ++ l ∷ []) records ≡ set records n l
over-more n records l h =
    ap (λ k. (take n records ++ l ∷ []) ++ drop k records) (length_more n records l (omega arith))
    ∙ append_assoc (take n records) (l ∷ []) (drop (suc n) records)
    ∙ sym (set_split records n l h)

-- looking up a name is finding its first label
pub looked-up : (labels : List Label) (name : Name) → lookup labels name ≡ option_map (λ l. l.address) (find (λ l. same_name l.name name) labels)
looked-up [] name = refl
looked-up (l ∷ labels) name =
    elim (same_name l.name name) as (λ t. cond t (Some l.address) (lookup labels name) ≡ option_map (λ x. x.address) (cond t (Some l) (find (λ x. same_name x.name name) labels))) [
      | true ↦ refl
      | false ↦ looked-up labels name
    ]
