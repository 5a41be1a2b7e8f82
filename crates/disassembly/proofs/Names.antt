-- A name that is found has three letters, and is read as the number that it is found for.
use Rattle.std.proofs.Common.{◌≡◌, ℕ, Bool, true, false, cond, ◌&&◌, eqb, List, [], ◌∷◌, length, get_or, Some, None, Option, refl, subst, arith, eqb-true}
use Rattle.fields.proofs.Outcomes.{both_true}
use Rattle.fields.specs.Fields.{letter}
use Rattle.fields.specs.Outcomes.{if_some}
use Rattle.statements.specs.declared.statement.Operation.{Operation}
use Rattle.statements.specs.Words.{operation_of, plain_word}
use Rattle.sheets.specs.Laying.{opcode}
use Rattle.disassembly.specs.Names.{is_number, name_for, opcode_of, operation_name, operation_names, plain_name, plain_names}

-- three letters, as a test and as a fact
abbrev lettered : List ℕ → Bool
lettered w = eqb (length w) 3 && (letter (get_or w 0 0) && (letter (get_or w 1 0) && letter (get_or w 2 0)))

abbrev all_lettered : List (List ℕ) → Bool
all_lettered [] = true
all_lettered (w ∷ ws) = lettered w && all_lettered ws

pub data Letters : List ℕ → Type 0 where
  letters : (a b c : ℕ) → letter a ≡ true → letter b ≡ true → letter c ≡ true → Letters (a ∷ b ∷ c ∷ [])

has-letters : (w : List ℕ) → lettered w ≡ true → Letters w
has-letters [] h = cc
has-letters (a ∷ []) h = cc
has-letters (a ∷ b ∷ []) h = cc
has-letters (a ∷ b ∷ c ∷ []) h =
    let q = both_true (letter a) _ h in
    let r = both_true (letter b) _ q.1 in
    letters a b c q.0 r.0 r.1
has-letters (a ∷ b ∷ c ∷ d ∷ w) h =
    let long = eqb-true (length (a ∷ b ∷ c ∷ d ∷ w)) 3 (both_true (eqb (length (a ∷ b ∷ c ∷ d ∷ w)) 3) _ h).0 in
    absurd (omega arith)

is-number : (n : ℕ) (o : Option ℕ) → is_number n o ≡ true → o ≡ Some n
is-number n None h = cc
is-number n (Some m) h = let e = eqb-true n m h in cc

module _ (reads : List ℕ → Option ℕ) (n : ℕ) where
  abbrev Found : List ℕ → Type 0
  Found name = Letters name × (reads name ≡ Some n)

  found-by : (t : Bool) (name : List ℕ) (others : Option (List ℕ)) (x : List ℕ) → is_number n (reads name) ≡ t → lettered name ≡ true
      → (others ≡ Some x → Found x) → cond t (Some name) others ≡ Some x → Found x
  found-by true name others x is l go h =
      let e : name ≡ x = cc in
      subst Found e (has-letters name l, is-number n (reads name) is)
  found-by false name others x is l go h = go h

  found : (names : List (List ℕ)) (x : List ℕ) → all_lettered names ≡ true → name_for reads n names ≡ Some x → Found x
  found [] x a h = cc
  found (name ∷ names) x a h =
      let p = both_true (lettered name) (all_lettered names) a in
      found-by (is_number n (reads name)) name (name_for reads n names) x refl p.0 (found names x p.1) h

pub plain-found : (word : ℕ) (name : List ℕ) → plain_name word ≡ Some name → Letters name × (plain_word name ≡ Some word)
plain-found word name h = found plain_word word plain_names name refl h

opcode-some : (o : Option Operation) (n : ℕ) → if_some o (λ op. Some (opcode op)) ≡ Some n → (op : Operation) × (o ≡ Some op) × (opcode op ≡ n)
opcode-some (Some op) n h = (op, refl, cc)
opcode-some None n h = cc

pub operation-found : (n : ℕ) (name : List ℕ) → operation_name n ≡ Some name
    → Letters name × ((op : Operation) × (operation_of name ≡ Some op) × (opcode op ≡ n))
operation-found n name h =
    let f = found opcode_of n operation_names name refl h in
    (f.0, opcode-some (operation_of name) n f.1)
