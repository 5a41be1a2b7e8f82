-- What has a form is read so, and what is read has its form.
use Rattle.std.proofs.Common.{◌≡◌, ℕ, ◌+◌, ◌-◌, ◌%◌, ◌≤◌, Bool, true, false, cond, ◌&&◌, eqb, leb, List, [], ◌∷◌, length, get_or, drop, IfOk, Some, None, Ok, Err, Option, Result, sym, refl, ap, ◌∙◌, subst, arith, eq-eqb, ne_eqb, eqb-true, le-leb, leb-true}
use borrow.Author.Tests.{eqb-false}
use Rattle.fields.proofs.Outcomes.{both_true, ok-both, ok_same, ok-some, ok-when}
use Rattle.fields.specs.declared.fault.FieldFault.TheVariants.{BadByte}
use Rattle.fields.specs.Fields.{Field, name, number, comma, comment, all_plain, fields_of}
use Rattle.fields.specs.Numbers.{number_in}
use Rattle.fields.specs.Outcomes.{and_then, lifted, or_fault}
use Rattle.statements.specs.declared.fault.StatementFault.{StatementFault}
use Rattle.statements.specs.declared.fault.StatementFault.TheVariants.{NoForm, OutOfRange}
use Rattle.statements.specs.declared.fault.StatementFault.TheVariants as fault
use Rattle.statements.specs.declared.statement.Code.{Code}
use Rattle.statements.specs.declared.statement.Code.TheVariants.{Reference, Word}
use Rattle.statements.specs.declared.statement.Operand.{Operand}
use Rattle.statements.specs.declared.statement.Operand.TheVariants.{Label, Address}
use Rattle.statements.specs.declared.statement.Operation.{Operation}
use Rattle.statements.specs.declared.statement.Statement.{Statement}
use Rattle.statements.specs.declared.statement.Statement.TheVariants.{Blank, Origin, End, Lays}
use Rattle.statements.specs.declared.word.Radix.{Radix}
use Rattle.statements.specs.declared.word.Radix.TheVariants as radix
use Rattle.statements.specs.Forms.{ended, indirect_of, address_of, operand_of, reference_of, only_word, decimal_word, decimal_of, hexadecimal_of, code_by, code_of, origin_of, unlabelled_of, labelled_of, behind_comma, named_of, statement_of, line_statement}
use Rattle.statements.specs.Grammar.{Ended, nothing, commented, Spelled, by_name, by_number, Indirect, direct, indirect, Points, label, address, Decimal, positive, negative, Codes, reference, plain, decimal, hexadecimal, Form, blank, origin, end, unlabelled, labelled}
use Rattle.statements.specs.Letters.{C, D, E, G, H, I, N, O, R, X}
use Rattle.statements.specs.Words.{label_name, operation_of, plain_word, radix_of, spells}
use Rattle.statements.proofs.Words.{no-operation, no-radix, not-spelled, spelled}

-- WHAT HAS A FORM IS READ SO

module _ (line : ℕ) where
  ended-ok : (fs : List Field) → Ended fs → ended line fs ≡ Ok tt
  ended-ok _ nothing = refl
  ended-ok _ commented = refl

  indirect-ok : (fs : List Field) (i : Bool) → Indirect fs i → indirect_of line fs ≡ Ok i
  indirect-ok _ _ (direct nothing) = refl
  indirect-ok _ _ (direct commented) = refl
  indirect-ok _ _ (indirect {w} {at} {fs} e k) = rw (e, ended-ok fs k)

  address-ok : (w : List ℕ) (n : ℕ) → number_in 16 4 w ≡ Some n → n ≤ 4095 → address_of line w ≡ Ok n
  address-ok w n e h = rw (e, le-leb n 4095 h)

  points-ok : (f : Field) (o : Operand) → Points f o → operand_of line f ≡ Ok o
  points-ok _ _ (label e) = rw e
  points-ok _ _ (address {w} {at} {n} e h) = rw (address-ok w n e h)

  only-ok : (f : Field) (fs : List Field) (w : List ℕ) → Spelled f w → Ended fs → only_word line (f ∷ fs) ≡ Ok w
  only-ok _ fs _ by_name k = rw (ended-ok fs k)
  only-ok _ fs _ by_number k = rw (ended-ok fs k)

  decimal-ok : (w : List ℕ) (n : ℕ) → Decimal w n → decimal_word line w ≡ Ok n
  decimal-ok _ _ (positive {w} {n} s e h) = rw (ne_eqb (get_or w 0 0) 45 s, e, le-leb n 32767 h)
  decimal-ok _ _ (negative {w} {n} s e h) = rw (eq-eqb (get_or w 0 0) 45 s, e, le-leb n 32768 h)

  codes-ok : (w : List ℕ) (fs : List Field) (code : Code) → Codes w fs code → code_of line w fs ≡ Ok code
  codes-ok _ _ _ (reference {w} {f} {fs} {op} {o} {i} e p k) =
      rw (no-radix operation_of w op e refl refl, e, indirect-ok fs i k, points-ok f o p)
  codes-ok _ _ _ (plain {w} {fs} {n} e k) = rw (no-radix plain_word w n e refl refl, no-operation w n e, e, ended-ok fs k)
  codes-ok _ _ _ (decimal {w} {v} {f} {fs} {n} e s d k) = rw (e, only-ok f fs v s k, decimal-ok v n d)
  codes-ok _ _ _ (hexadecimal {w} {v} {f} {fs} {n} e s d k) =
      let r : radix_of w ≡ Some radix.Hexadecimal = ap radix_of (spelled w H E X e) in
      rw (r, only-ok f fs v s k, d)

  -- no comma stands behind the first word
  ended-behind : (place : ℕ) (fs : List Field) → Ended fs → behind_comma line place fs ≡ None
  ended-behind place _ nothing = refl
  ended-behind place _ commented = refl

  spelled-behind : (place : ℕ) (f : Field) (fs : List Field) (w : List ℕ) → Spelled f w → behind_comma line place (f ∷ fs) ≡ None
  spelled-behind place _ fs _ by_name = refl
  spelled-behind place _ fs _ by_number = refl

  points-behind : (place : ℕ) (f : Field) (fs : List Field) (o : Operand) → Points f o → behind_comma line place (f ∷ fs) ≡ None
  points-behind place _ fs _ (label e) = refl
  points-behind place _ fs _ (address e h) = refl

  codes-behind : (place : ℕ) (w : List ℕ) (fs : List Field) (code : Code) → Codes w fs code → behind_comma line place fs ≡ None
  codes-behind place _ _ _ (reference {w} {f} {fs} {op} {o} {i} e p k) = points-behind place f fs o p
  codes-behind place _ _ _ (plain {w} {fs} {n} e k) = ended-behind place fs k
  codes-behind place _ _ _ (decimal {w} {v} {f} {fs} {n} e s d k) = spelled-behind place f fs v s
  codes-behind place _ _ _ (hexadecimal {w} {v} {f} {fs} {n} e s d k) = spelled-behind place f fs v s

  -- and the word is neither ORG nor END
  codes-other : (w : List ℕ) (fs : List Field) (code : Code) → Codes w fs code → (spells w O R G ≡ false) × (spells w E N D ≡ false)
  codes-other _ _ _ (reference {w} {f} {fs} {op} {o} {i} e p k) =
      (not-spelled operation_of w op e O R G refl, not-spelled operation_of w op e E N D refl)
  codes-other _ _ _ (plain {w} {fs} {n} e k) = (not-spelled plain_word w n e O R G refl, not-spelled plain_word w n e E N D refl)
  codes-other _ _ _ (decimal {w} {v} {f} {fs} {n} e s d k) =
      let r : radix_of w ≡ Some radix.Decimal = ap radix_of (spelled w D E C e) in
      (not-spelled radix_of w radix.Decimal r O R G refl, not-spelled radix_of w radix.Decimal r E N D refl)
  codes-other _ _ _ (hexadecimal {w} {v} {f} {fs} {n} e s d k) =
      let r : radix_of w ≡ Some radix.Hexadecimal = ap radix_of (spelled w H E X e) in
      (not-spelled radix_of w radix.Hexadecimal r O R G refl, not-spelled radix_of w radix.Hexadecimal r E N D refl)

  pub read-so : (fs : List Field) (s : Statement) → Form fs s → statement_of line fs ≡ Ok s
  read-so _ _ (blank nothing) = refl
  read-so _ _ (blank commented) = refl
  read-so _ _ (origin {w} {v} {at} {n} {f} {fs} e s d h k) =
      ap (named_of line w (f ∷ fs)) (spelled-behind (at + length w) f fs v s) ∙ rw (e, only-ok f fs v s k, address-ok v n d h)
  read-so _ _ (end {w} {at} {fs} e k) =
      let o : spells w O R G ≡ false = ap (λ x. spells x O R G) (spelled w E N D e) in
      ap (named_of line w fs) (ended-behind (at + length w) fs k) ∙ rw (o, e, ended-ok fs k)
  read-so _ _ (unlabelled {w} {at} {fs} {code} c) =
      let o = codes-other w fs code c in
      ap (named_of line w fs) (codes-behind (at + length w) w fs code c) ∙ rw (o.0, o.1, codes-ok w fs code c)
  read-so _ _ (labelled {v} {w} {at} {place} {l} {fs} {code} e c) =
      rw (eq-eqb (at + length v) (at + length v) refl, e, codes-ok w fs code c)

-- WHAT IS READ HAS ITS FORM

single : (w : List ℕ) → length w ≡ 1 → w ≡ get_or w 0 0 ∷ []
single [] h = absurd (omega arith)
single (a ∷ []) h = refl
single (a ∷ b ∷ w) h = absurd (omega arith)

module _ (line : ℕ) where
  ended-form : (fs : List Field) (u : Unit {0}) → ended line fs ≡ Ok u → Ended fs
  ended-form [] u h = nothing
  ended-form (comment w at ∷ fs) u h = commented
  ended-form (name w at ∷ fs) u h = cc
  ended-form (number w at ∷ fs) u h = cc
  ended-form (comma at ∷ fs) u h = cc

  indirect-form : (fs : List Field) (i : Bool) → indirect_of line fs ≡ Ok i → Indirect fs i
  indirect-form [] i h = subst (λ (b : Bool). Indirect [] b) (ok_same false i h) (direct nothing)
  indirect-form (comment w at ∷ fs) i h = subst (λ (b : Bool). Indirect (comment w at ∷ fs) b) (ok_same false i h) (direct commented)
  indirect-form (number w at ∷ fs) i h = cc
  indirect-form (comma at ∷ fs) i h = cc
  indirect-form (name w at ∷ fs) i h =
      let a = ok-when (eqb (length w) 1 && eqb (get_or w 0 0) I) (and_then (ended line fs) (λ u. Ok true)) i (NoForm line) h in
      let t = both_true (eqb (length w) 1) (eqb (get_or w 0 0) I) a.0 in
      let b = ok-both (ended line fs) (λ u. Ok true) i a.1 in
      let is : w ≡ I ∷ [] = single w (eqb-true (length w) 1 t.0) ∙ ap (λ x. x ∷ []) (eqb-true (get_or w 0 0) I t.1) in
      subst (λ (b : Bool). Indirect (name w at ∷ fs) b) (ok_same true i b.2) (indirect is (ended-form fs b.0 b.1))

  address-form : (w : List ℕ) (n : ℕ) → address_of line w ≡ Ok n → (number_in 16 4 w ≡ Some n) × (n ≤ 4095)
  address-form w n h =
      let a = ok-some (number_in 16 4 w) (λ m. cond (leb m 4095) (Ok m) (Err (OutOfRange line))) n (NoForm line) h in
      let b = ok-when (leb a.0 4095) (Ok a.0) n (OutOfRange line) a.2 in
      let e = ok_same a.0 n b.1 in
      (a.1 ∙ ap (λ x. Some x) e, subst (λ (x : ℕ). x ≤ 4095) e (leb-true a.0 4095 b.0))

  points-form : (f : Field) (o : Operand) → operand_of line f ≡ Ok o → Points f o
  points-form (name w at) o h =
      let a = ok-some (label_name w) (λ l. Ok (Label l)) o (NoForm line) h in
      subst (λ (x : Operand). Points (name w at) x) (ok_same (Label a.0) o a.2) (label a.1)
  points-form (number w at) o h =
      let a = ok-both (address_of line w) (λ n. Ok (Address n)) o h in
      let b = address-form w a.0 a.1 in
      subst (λ (x : Operand). Points (number w at) x) (ok_same (Address a.0) o a.2) (address b.0 b.1)
  points-form (comma at) o h = cc
  points-form (comment w at) o h = cc

  -- one word, and nothing more
  pub record Only (fs : List Field) (w : List ℕ) : Type 0 where
    pub first : Field
    pub rest : List Field
    pub fields : fs ≡ first ∷ rest
    pub spelled : Spelled first w
    pub ended : Ended rest

  only-form : (fs : List Field) (w : List ℕ) → only_word line fs ≡ Ok w → Only fs w
  only-form [] w h = cc
  only-form (name v at ∷ fs) w h =
      let a = ok-both (ended line fs) (λ u. Ok v) w h in
      record {
        first = name v at;
        rest = fs;
        fields = refl;
        spelled = subst (λ (x : List ℕ). Spelled (name v at) x) (ok_same v w a.2) by_name;
        ended = ended-form fs a.0 a.1;
      }
  only-form (number v at ∷ fs) w h =
      let a = ok-both (ended line fs) (λ u. Ok v) w h in
      record {
        first = number v at;
        rest = fs;
        fields = refl;
        spelled = subst (λ (x : List ℕ). Spelled (number v at) x) (ok_same v w a.2) by_number;
        ended = ended-form fs a.0 a.1;
      }
  only-form (comma at ∷ fs) w h = cc
  only-form (comment v at ∷ fs) w h = cc

  decimal-by : (w : List ℕ) (n : ℕ) (t : Bool) → eqb (get_or w 0 0) 45 ≡ t
      → cond t
      (or_fault (NoForm line) (number_in 10 5 (drop 1 w)) (λ n. cond (leb n 32768) (Ok ((65536 - n) % 65536)) (Err (OutOfRange line))))
      (or_fault (NoForm line) (number_in 10 5 w) (λ n. cond (leb n 32767) (Ok n) (Err (OutOfRange line)))) ≡ Ok n → Decimal w n
  decimal-by w n true is h =
      let a = ok-some (number_in 10 5 (drop 1 w)) (λ n. cond (leb n 32768) (Ok ((65536 - n) % 65536)) (Err (OutOfRange line))) n (NoForm line) h in
      let b = ok-when (leb a.0 32768) (Ok ((65536 - a.0) % 65536)) n (OutOfRange line) a.2 in
      subst (λ (x : ℕ). Decimal w x) (ok_same _ n b.1) (negative (eqb-true (get_or w 0 0) 45 is) a.1 (leb-true a.0 32768 b.0))
  decimal-by w n false is h =
      let a = ok-some (number_in 10 5 w) (λ n. cond (leb n 32767) (Ok n) (Err (OutOfRange line))) n (NoForm line) h in
      let b = ok-when (leb a.0 32767) (Ok a.0) n (OutOfRange line) a.2 in
      subst (λ (x : ℕ). Decimal w x) (ok_same a.0 n b.1) (positive (eqb-false (get_or w 0 0) 45 is) a.1 (leb-true a.0 32767 b.0))

  -- DEC and HEX
  radix-decimal : (a b : Bool) → ◌≡◌ {A = Option Radix} (cond a (Some radix.Decimal) (cond b (Some radix.Hexadecimal) None)) (Some radix.Decimal) → a ≡ true
  radix-decimal true b h = refl
  radix-decimal false true h = cc
  radix-decimal false false h = cc

  radix-hexadecimal : (a b : Bool) → ◌≡◌ {A = Option Radix} (cond a (Some radix.Decimal) (cond b (Some radix.Hexadecimal) None)) (Some radix.Hexadecimal) → b ≡ true
  radix-hexadecimal true b h = cc
  radix-hexadecimal false true h = refl
  radix-hexadecimal false false h = cc

  decimal-form : (w : List ℕ) (fs : List Field) (code : Code) → spells w D E C ≡ true → decimal_of line fs ≡ Ok code → Codes w fs code
  decimal-form w fs code is h =
      let a = ok-both (only_word line fs) (λ v. and_then (decimal_word line v) (λ n. Ok (Word n))) code h in
      let b = ok-both (decimal_word line a.0) (λ n. Ok (Word n)) code a.2 in
      let o = only-form fs a.0 a.1 in
      let d = decimal-by a.0 b.0 (eqb (get_or a.0 0 0) 45) refl b.1 in
      subst (λ (x : List Field). Codes w x code) (sym o.fields)
      (subst (λ (x : Code). Codes w (o.first ∷ o.rest) x) (ok_same (Word b.0) code b.2) (decimal is o.spelled d o.ended))

  hexadecimal-form : (w : List ℕ) (fs : List Field) (code : Code) → spells w H E X ≡ true → hexadecimal_of line fs ≡ Ok code → Codes w fs code
  hexadecimal-form w fs code is h =
      let a = ok-both (only_word line fs) (λ v. or_fault (NoForm line) (number_in 16 4 v) (λ n. Ok (Word n))) code h in
      let b = ok-some (number_in 16 4 a.0) (λ n. Ok (Word n)) code (NoForm line) a.2 in
      let o = only-form fs a.0 a.1 in
      subst (λ (x : List Field). Codes w x code) (sym o.fields)
      (subst (λ (x : Code). Codes w (o.first ∷ o.rest) x) (ok_same (Word b.0) code b.2) (hexadecimal is o.spelled b.1 o.ended))

  reference-form : (w : List ℕ) (op : Operation) (fs : List Field) (code : Code) → operation_of w ≡ Some op → reference_of line op fs ≡ Ok code → Codes w fs code
  reference-form w op [] code is h = cc
  reference-form w op (f ∷ fs) code is h =
      let a = ok-both (indirect_of line fs) (λ i. and_then (operand_of line f) (λ o. Ok (Reference op o i))) code h in
      let b = ok-both (operand_of line f) (λ o. Ok (Reference op o a.0)) code a.2 in
      subst (λ (x : Code). Codes w (f ∷ fs) x) (ok_same (Reference op b.0 a.0) code b.2)
      (reference is (points-form f b.0 b.1) (indirect-form fs a.0 a.1))

  plain_form : (w : List ℕ) (p : Option ℕ) (fs : List Field) (code : Code) → plain_word w ≡ p
      → or_fault (NoForm line) p (λ n. and_then (ended line fs) (λ u. Ok (Word n))) ≡ Ok code → Codes w fs code
  plain_form w p fs code is h =
      let a = ok-some p (λ n. and_then (ended line fs) (λ u. Ok (Word n))) code (NoForm line) h in
      let b = ok-both (ended line fs) (λ u. Ok (Word a.0)) code a.2 in
      subst (λ (x : Code). Codes w fs x) (ok_same (Word a.0) code b.2) (plain (is ∙ a.1) (ended-form fs b.0 b.1))

  codes-by : (w : List ℕ) (fs : List Field) (code : Code) (r : Option Radix) (o : Option Operation) → radix_of w ≡ r → operation_of w ≡ o
      → code_by line r o (plain_word w) fs ≡ Ok code → Codes w fs code
  codes-by w fs code (Some radix.Decimal) o is op h = decimal-form w fs code (radix-decimal (spells w D E C) (spells w H E X) is) h
  codes-by w fs code (Some radix.Hexadecimal) o is op h = hexadecimal-form w fs code (radix-hexadecimal (spells w D E C) (spells w H E X) is) h
  codes-by w fs code None (Some op) is e h = reference-form w op fs code e h
  codes-by w fs code None None is e h = plain_form w (plain_word w) fs code refl h

  codes-form : (w : List ℕ) (fs : List Field) (code : Code) → code_of line w fs ≡ Ok code → Codes w fs code
  codes-form w fs code h = codes-by w fs code (radix_of w) (operation_of w) refl refl h

  -- a statement with no label
  origin-form : (w : List ℕ) (at : ℕ) (fs : List Field) (s : Statement) → spells w O R G ≡ true → origin_of line fs ≡ Ok s → Form (name w at ∷ fs) s
  origin-form w at fs s is h =
      let a = ok-both (only_word line fs) (λ v. and_then (address_of line v) (λ n. Ok (Origin n))) s h in
      let b = ok-both (address_of line a.0) (λ n. Ok (Origin n)) s a.2 in
      let o = only-form fs a.0 a.1 in
      let d = address-form a.0 b.0 b.1 in
      subst (λ (x : List Field). Form (name w at ∷ x) s) (sym o.fields)
      (subst (λ (x : Statement). Form (name w at ∷ o.first ∷ o.rest) x) (ok_same (Origin b.0) s b.2) (origin is o.spelled d.0 d.1 o.ended))

  unlabelled-by : (w : List ℕ) (at : ℕ) (fs : List Field) (s : Statement) (a b : Bool) → spells w O R G ≡ a → spells w E N D ≡ b
      → cond a (origin_of line fs) (cond b (and_then (ended line fs) (λ u. Ok End)) (and_then (code_of line w fs) (λ code. Ok (Lays None code)))) ≡ Ok s
      → Form (name w at ∷ fs) s
  unlabelled-by w at fs s true b is e h = origin-form w at fs s is h
  unlabelled-by w at fs s false true is e h =
      let a = ok-both (ended line fs) (λ u. Ok End) s h in
      subst (λ (x : Statement). Form (name w at ∷ fs) x) (ok_same End s a.2) (end e (ended-form fs a.0 a.1))
  unlabelled-by w at fs s false false is e h =
      let a = ok-both (code_of line w fs) (λ code. Ok (Lays None code)) s h in
      subst (λ (x : Statement). Form (name w at ∷ fs) x) (ok_same (Lays None a.0) s a.2) (unlabelled (codes-form w fs a.0 a.1))

  unlabelled-form : (w : List ℕ) (at : ℕ) (fs : List Field) (s : Statement) → unlabelled_of line w fs ≡ Ok s → Form (name w at ∷ fs) s
  unlabelled-form w at fs s h = unlabelled-by w at fs s (spells w O R G) (spells w E N D) refl refl h

  -- a statement behind a label
  labelled-form : (v : List ℕ) (at : ℕ) (fs : List Field) (s : Statement) → labelled_of line v fs ≡ Ok s → Form (name v at ∷ comma (at + length v) ∷ fs) s
  labelled-form v at [] s h = cc
  labelled-form v at (name w place ∷ fs) s h =
      let a = ok-some (label_name v) (λ l. and_then (code_of line w fs) (λ code. Ok (Lays (Some l) code))) s (NoForm line) h in
      let b = ok-both (code_of line w fs) (λ code. Ok (Lays (Some a.0) code)) s a.2 in
      subst (λ (x : Statement). Form (name v at ∷ comma (at + length v) ∷ name w place ∷ fs) x) (ok_same (Lays (Some a.0) b.0) s b.2)
      (labelled a.1 (codes-form w fs b.0 b.1))
  labelled-form v at (number w place ∷ fs) s h = cc
  labelled-form v at (comma place ∷ fs) s h = cc
  labelled-form v at (comment w place ∷ fs) s h = cc

  comma-form : (w : List ℕ) (at place : ℕ) (fs : List Field) (s : Statement) (t : Bool) → eqb place (at + length w) ≡ t
      → named_of line w (comma place ∷ fs) (cond t (Some fs) None) ≡ Ok s → Form (name w at ∷ comma place ∷ fs) s
  comma-form w at place fs s false is h = unlabelled-form w at (comma place ∷ fs) s h
  comma-form w at place fs s true is h =
      subst (λ (x : ℕ). Form (name w at ∷ comma x ∷ fs) s) (sym (eqb-true place (at + length w) is)) (labelled-form w at fs s h)

  named-form : (w : List ℕ) (at : ℕ) (fs : List Field) (s : Statement) → named_of line w fs (behind_comma line (at + length w) fs) ≡ Ok s → Form (name w at ∷ fs) s
  named-form w at [] s h = unlabelled-form w at [] s h
  named-form w at (name v place ∷ fs) s h = unlabelled-form w at (name v place ∷ fs) s h
  named-form w at (number v place ∷ fs) s h = unlabelled-form w at (number v place ∷ fs) s h
  named-form w at (comment v place ∷ fs) s h = unlabelled-form w at (comment v place ∷ fs) s h
  named-form w at (comma place ∷ fs) s h = comma-form w at place fs s (eqb place (at + length w)) refl h

  pub has-form : (fs : List Field) (s : Statement) → statement_of line fs ≡ Ok s → Form fs s
  has-form [] s h = subst (λ (x : Statement). Form [] x) (ok_same Blank s h) (blank nothing)
  has-form (comment w at ∷ fs) s h = subst (λ (x : Statement). Form (comment w at ∷ fs) x) (ok_same Blank s h) (blank commented)
  has-form (name w at ∷ fs) s h = named-form w at fs s h
  has-form (number w at ∷ fs) s h = cc
  has-form (comma at ∷ fs) s h = cc

-- OF A LINE

module _ (line : ℕ) (bytes : List ℕ) where
  pub line_read : (s : Statement) → all_plain bytes ≡ true → Form (fields_of bytes) s → line_statement line bytes ≡ Ok s
  line_read s p f = rw p (read-so line (fields_of bytes) s f)

  line-by : (t : Bool) (s : Statement) → lifted {X = Unit {0}} fault.Field (cond t (Ok tt) (Err (BadByte line))) (λ u. statement_of line (fields_of bytes)) ≡ Ok s → Form (fields_of bytes) s
  line-by true s h = has-form line (fields_of bytes) s h
  line-by false s h = cc

  pub line-form : (r : Result Statement StatementFault) → r ≡ line_statement line bytes → IfOk r (λ s. Form (fields_of bytes) s)
  line-form (Ok s) h = line-by (all_plain bytes) s (sym h)
  line-form (Err e) h = tt
