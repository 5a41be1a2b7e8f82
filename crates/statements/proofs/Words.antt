-- A word of three letters is that word, and stands for one thing at most.
use Rattle.std.proofs.Common.{◌≡◌, ℕ, Bool, true, false, eqb, List, [], ◌∷◌, length, get_or, Some, None, Option, sym, refl, ap, ◌∙◌, arith, eqb-true}
use Rattle.fields.proofs.Outcomes.{both_true}
use Rattle.statements.specs.Words.{spells, operation_of, plain_word, radix_of}
use Rattle.statements.specs.Letters.{A, B, C, D, E, H, I, L, N, S, T, U, X, Z}

three : (w : List ℕ) → length w ≡ 3 → w ≡ get_or w 0 0 ∷ get_or w 1 0 ∷ get_or w 2 0 ∷ []
three [] h = absurd (omega arith)
three (a ∷ []) h = absurd (omega arith)
three (a ∷ b ∷ []) h = absurd (omega arith)
three (a ∷ b ∷ c ∷ []) h = refl
three (a ∷ b ∷ c ∷ d ∷ w) h = absurd (omega arith)

pub spelled : (w : List ℕ) (a b c : ℕ) → spells w a b c ≡ true → w ≡ a ∷ b ∷ c ∷ []
spelled w a b c h =
    let p = both_true (eqb (length w) 3) _ h in
    let q = both_true (eqb (get_or w 0 0) a) _ p.1 in
    let r = both_true (eqb (get_or w 1 0) b) _ q.1 in
    three w (eqb-true (length w) 3 p.0)
    ∙ ap (λ x. x ∷ get_or w 1 0 ∷ get_or w 2 0 ∷ []) (eqb-true (get_or w 0 0) a q.0)
    ∙ ap (λ x. a ∷ x ∷ get_or w 2 0 ∷ []) (eqb-true (get_or w 1 0) b r.0)
    ∙ ap (λ x. a ∷ b ∷ x ∷ []) (eqb-true (get_or w 2 0) c r.1)

-- a word that a table knows is not spelled like one that it does not know
module _ {X : Type 0} (table : List ℕ → Option X) (w : List ℕ) (x : X) (knows : table w ≡ Some x) (a b c : ℕ) (unknown : table (a ∷ b ∷ c ∷ []) ≡ None) where
  not-by : (t : Bool) → spells w a b c ≡ t → t ≡ false
  not-by false h = refl
  not-by true h =
      let e : ◌≡◌ {A = Option X} (Some x) None = sym knows ∙ ap table (spelled w a b c h) ∙ unknown in
      cc

  pub not-spelled : spells w a b c ≡ false
  not-spelled = not-by (spells w a b c) refl

pub no-radix : {Y : Type 0} (table : List ℕ → Option Y) (w : List ℕ) (y : Y) → table w ≡ Some y
    → table (D ∷ E ∷ C ∷ []) ≡ None → table (H ∷ E ∷ X ∷ []) ≡ None → radix_of w ≡ None
no-radix table w y h d x = rw (not-spelled table w y h D E C d, not-spelled table w y h H E X x)

pub no-operation : (w : List ℕ) (n : ℕ) → plain_word w ≡ Some n → operation_of w ≡ None
no-operation w n h = rw (
  not-spelled plain_word w n h A N D refl,
  not-spelled plain_word w n h A D D refl,
  not-spelled plain_word w n h L D A refl,
  not-spelled plain_word w n h S T A refl,
  not-spelled plain_word w n h B U N refl,
  not-spelled plain_word w n h B S A refl,
  not-spelled plain_word w n h I S Z refl,
)
