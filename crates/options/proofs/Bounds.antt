-- Places are among the words, and numbers in their range.
use Rattle.std.proofs.Common.{◌≡◌, ℕ, ◌+◌, ◌<◌, ◌≤◌, Bool, true, false, cond, eqb, leb, List, [], ◌∷◌, length, take, drop, IfSome, Some, None, codes, Option, unwrap_or, refl, arith, lit≤, leb-true}
use Rattle.std.specs.Option.{option_zip}
use Rattle.std.specs.Str.{bytes_eq}
use Rattle.fields.specs.Numbers.{number_in}
use Rattle.fields.specs.Outcomes.{if_some}
use Rattle.options.specs.declared.options.Options.{Options}
use Rattle.options.specs.Options.{defaults}
use Rattle.options.specs.Values.{at_most, number_up_to, address_in, dash_at, addresses_in}
use Rattle.options.specs.Mentions.{Mention, lastly, at_place, told}
use Rattle.options.specs.Bounds.{Sound}
use Rattle.options.specs.Grammar.{Mentions, nothing, sheet, flag, valued, Asked}

-- every mention is of one of n words
abbrev Inside : ℕ → List Mention → Type 0
Inside n [] = Unit {0}
Inside n (m ∷ ms) = (m.place < n) × Inside n ms

inside : (n at : ℕ) (ws : List (List ℕ)) (ms : List Mention) → Mentions at ws ms → at + length ws ≤ n → Inside n ms
inside n _ _ _ nothing h = tt
inside n _ _ _ (sheet {at} {w} {ws} {ms} e m) h = (omega arith, inside n (at + 1) ws ms m (omega arith))
inside n _ _ _ (flag {at} {w} {ws} {ms} f e m) h = (omega arith, inside n (at + 1) ws ms m (omega arith))
inside n _ _ _ (valued {at} {w} {v} {ws} {ms} k e t m) h = (omega arith, inside n (at + 1 + 1) ws ms m (omega arith))

-- what holds before, and of what each mention says, holds at last
module _ {X : Type 0} (P : X → Type 0) (n : ℕ) (name : List ℕ) (says : Mention → X) (each : (m : Mention) → m.place < n → P (says m)) where
  either : (b : Bool) (x y : X) → P x → P y → P (cond b x y)
  either true x y p q = p
  either false x y p q = q

  lasts : (ms : List Mention) → Inside n ms → (x : X) → P x → P (lastly ms name says x)
  lasts [] i x p = p
  lasts (m ∷ ms) i x p = lasts ms i.1 (cond (bytes_eq m.name name) (says m) x) (either (bytes_eq m.name name) (says m) x (each m i.0) p)

at-most : (most n : ℕ) (b : Bool) → leb n most ≡ b → IfSome (cond b (Some n) None) (λ a. a ≤ most)
at-most most n true e = leb-true n most e
at-most most n false e = tt

bounded : (most : ℕ) (o : Option ℕ) → IfSome (if_some o (at_most most)) (λ a. a ≤ most)
bounded most (Some n) = at-most most n (leb n most) refl
bounded most None = tt

valued-bounded : (most d : ℕ) (o : Option ℕ) → IfSome o (λ a. a ≤ most) → d ≤ most → unwrap_or o d ≤ most
valued-bounded most d (Some n) h k = h
valued-bounded most d None h k = k

both-bounded : (most : ℕ) (x y : Option ℕ) → IfSome x (λ a. a ≤ most) → IfSome y (λ a. a ≤ most) → IfSome (option_zip x y) (λ a. (a.0 ≤ most) × (a.1 ≤ most))
both-bounded most None y h k = tt
both-bounded most (Some n) None h k = tt
both-bounded most (Some n) (Some m) h k = (h, k)

pair-bounded : (b : Bool) (w v u : List ℕ) → IfSome (cond b (option_zip (address_in w) (address_in w)) (option_zip (address_in v) (address_in u))) (λ a. (a.0 ≤ 4095) × (a.1 ≤ 4095))
pair-bounded true w v u = both-bounded 4095 (address_in w) (address_in w) (bounded 4095 (number_in 16 4 w)) (bounded 4095 (number_in 16 4 w))
pair-bounded false w v u = both-bounded 4095 (address_in v) (address_in u) (bounded 4095 (number_in 16 4 v)) (bounded 4095 (number_in 16 4 u))

module _ (n : ℕ) (ms : List Mention) (i : Inside n ms) where
  place-sound : (name : List ℕ) → IfSome (lastly ms name at_place None) (λ p. p < n)
  place-sound name = lasts (λ x. IfSome x (λ p. p < n)) n name at_place (λ m h. h) ms i None tt

  told-sound : Sound n (told ms defaults)
  told-sound = record {
    sheet = place-sound (codes "");
    image = place-sound (codes "--image");
    save = place-sound (codes "--save");
    script = place-sound (codes "--script");
    input = place-sound (codes "--input");
    from = lasts (λ x. IfSome x (λ a. a ≤ 4095)) n (codes "--from") (λ m. address_in m.value) (λ m h. bounded 4095 (number_in 16 4 m.value)) ms i None tt;
    paper = lasts (λ x. x ≤ 1000000) n (codes "--paper") (λ m. unwrap_or (number_up_to 1000000 m.value) 4096) (λ m h. valued-bounded 1000000 4096 (number_up_to 1000000 m.value) (bounded 1000000 (number_in 10 18 m.value)) (lit≤ tt)) ms i 4096 (lit≤ tt);
    examine = lasts (λ x. IfSome x (λ a. (a.0 ≤ 4095) × (a.1 ≤ 4095))) n (codes "--examine") (λ m. addresses_in m.value) (λ m h. pair-bounded (eqb (dash_at m.value) (length m.value)) m.value (take (dash_at m.value) m.value) (drop (dash_at m.value + 1) m.value)) ms i None tt;
  }

pub sound : (words : List (List ℕ)) (o : Options) → Asked words o → Sound (length words) o
sound words o (ms, m, l, e) = rw e (told-sound (length words) ms (inside (length words) 0 words ms m (omega arith)))
