-- What is refused: the words before are right, and then comes what is not.
use Rattle.std.proofs.Common.{◌≡◌, ℕ, ◌+◌, ◌<◌, ◌≤◌, Bool, true, false, cond, List, [], ◌∷◌, ◌++◌, length, is_some, Some, None, Ok, Err, Option, refl, ap, arith, length-append}
use Rattle.fields.specs.Outcomes.{and_then, or_fault}
use Rattle.std.proofs.lemmas.Bool.Decides.{nat_tests}
use Rattle.options.specs.declared.options.OptionFault.{OptionFault}
use Rattle.options.specs.declared.options.OptionFault.TheVariants as fault
use Rattle.options.specs.declared.options.Options.{Options}
use Rattle.options.specs.declared.word.Valued.{Valued}
use Rattle.options.specs.declared.word.Word.{Word}
use Rattle.options.specs.declared.word.Word.TheVariants.{Sheet, Alone, Awaits}
use Rattle.options.specs.Options.{defaults}
use Rattle.options.specs.Names.{valued_name, dashed, word_of}
use Rattle.options.specs.Mentions.{Mention, sheet_at, alone, valued_at, fits, told}
use Rattle.options.specs.Bounds.{place_of}
use Rattle.options.specs.Grammar.{Mentions, nothing, sheet, flag, valued, sheets, Wrong, unknown, no_value, bad_value, second_sheet, Refused}
use Rattle.options.specs.Reading.{after, by_kind, read_on, options_of}
use Rattle.options.proofs.Known.{flag-named, valued-named, Kind, kind, one, ended, counted, left}

-- from the options `o` on, the words from a place on are refused so
abbrev Breaks : ℕ → List (List ℕ) → Options → OptionFault → Type 0
Breaks at ws o f =
    (a : List (List ℕ)) × (b : List (List ℕ)) × (ms : List Mention) × (n : ℕ) × (s : ℕ)
    × (ws ≡ a ++ b) × Mentions at a ms × (s ≡ sheets ms + one o.sheet) × (s ≤ 1) × (n ≡ at + length a) × Wrong n s b f

-- the same, where an option waits for its value
data Snag (k : Valued) (place at : ℕ) (o : Options) : List (List ℕ) → OptionFault → Type 0 where
  ends : Snag k place at o [] (fault.NoValue place)
  bad : {v : List ℕ} {vs : List (List ℕ)} → fits k v ≡ false → Snag k place at o (v ∷ vs) (fault.BadValue at)
  goes : {v : List ℕ} {vs : List (List ℕ)} {f : OptionFault} → fits k v ≡ true → Breaks (at + 1) vs (told (valued_at k at v ∷ []) o) f → Snag k place at o (v ∷ vs) f

abbrev Stops : Option (Valued × ℕ) → ℕ → List (List ℕ) → Options → OptionFault → Type 0
Stops None at ws o f = Breaks at ws o f
Stops (Some k) at ws o f = Snag k.0 k.1 at o ws f

here : (at : ℕ) (ws : List (List ℕ)) (o : Options) (f : OptionFault) (s : ℕ) → s ≡ one o.sheet → Wrong at s ws f → Breaks at ws o f
here at ws o f s e x = ([], ws, [], at, s, refl, nothing, omega arith, grind (arith, nat_tests), omega arith, x)

module _ (at : ℕ) (w : List ℕ) (o : Options) where
  behind-sheet : (ws : List (List ℕ)) (f : OptionFault) → is_some o.sheet ≡ false → dashed w ≡ false → Breaks (at + 1) ws (told (sheet_at at ∷ []) o) f → Breaks at (w ∷ ws) o f
  behind-sheet ws f n e (a, b, ms, m, s, p, q, c, l, g, x) =
      (w ∷ a, b, sheet_at at ∷ ms, m, s, ap (λ y. w ∷ y) p, sheet e q, grind (arith, n), l, omega arith, x)

  behind-value : (k : Valued) (ws : List (List ℕ)) (f : OptionFault) → w ≡ valued_name k → Snag k at (at + 1) o ws f → Breaks at (w ∷ ws) o f
  behind-value k _ _ e ends = here at (w ∷ []) o (fault.NoValue at) (one o.sheet) refl (no_value k e)
  behind-value k _ _ e (bad {v} {vs} t) = here at (w ∷ v ∷ vs) o (fault.BadValue (at + 1)) (one o.sheet) refl (bad_value k e t)
  behind-value k _ _ e (goes {v} {vs} {f} t (a, b, ms, m, s, p, q, c, l, g, x)) =
      (w ∷ v ∷ a, b, valued_at k (at + 1) v ∷ ms, m, s, ap (λ y. w ∷ v ∷ y) p, valued k e t q, omega (arith, counted (valued_at k (at + 1) v) ms o (valued-named k)), l, omega arith, x)

module _ (at : ℕ) (w : List ℕ) (ws : List (List ℕ)) (o : Options) (f : OptionFault) (more : (k : Option (Valued × ℕ)) (q : Options) → left (at + 1) ws k q ≡ Err f → Stops k (at + 1) ws q f) where
  sheet-stops : (b : Bool) → is_some o.sheet ≡ b → dashed w ≡ false → and_then (and_then (cond b (Err (fault.SecondSheet at)) (Ok (after (sheet_at at) o))) (read_on (at + 1) ws)) ended ≡ Err f → Breaks at (w ∷ ws) o f
  sheet-stops true n e h =
      let g : f ≡ fault.SecondSheet at = cc in
      rw g (here at (w ∷ ws) o (fault.SecondSheet at) 1 (rw n) (second_sheet e))
  sheet-stops false n e h = behind-sheet at w o ws f n e (more None (told (sheet_at at ∷ []) o) h)

  word-stops : (x : Option Word) → Kind w x → and_then (and_then (or_fault (fault.Unknown at) x (by_kind o at)) (read_on (at + 1) ws)) ended ≡ Err f → Breaks at (w ∷ ws) o f
  word-stops (Some Sheet) e h = sheet-stops (is_some o.sheet) refl e h
  word-stops (Some (Alone g)) e h =
      let (a, b, ms, m, s, p, q, c, l, n, x) = more None (told (alone g ∷ []) o) h in
      (w ∷ a, b, alone g ∷ ms, m, s, ap (λ y. w ∷ y) p, flag g e q, omega (arith, counted (alone g) ms o (flag-named g)), l, omega arith, x)
  word-stops (Some (Awaits k)) e h = behind-value at w o k ws f e (more (Some (k, at)) o h)
  word-stops None e h =
      let g : f ≡ fault.Unknown at = cc in
      rw g (here at (w ∷ ws) o (fault.Unknown at) (one o.sheet) refl (unknown e.0 e.1 e.2))

  value-stops : (k : Valued × ℕ) (b : Bool) → fits k.0 w ≡ b → and_then (and_then (cond b (Ok (after (valued_at k.0 at w) o)) (Err (fault.BadValue at))) (read_on (at + 1) ws)) ended ≡ Err f → Snag k.0 k.1 at o (w ∷ ws) f
  value-stops k true t h = goes t (more None (told (valued_at k.0 at w ∷ []) o) h)
  value-stops k false t h =
      let g : f ≡ fault.BadValue at = cc in
      rw g (bad t)

stops : (ws : List (List ℕ)) (k : Option (Valued × ℕ)) (at : ℕ) (o : Options) (f : OptionFault) → left at ws k o ≡ Err f → Stops k at ws o f
stops [] None at o f h = cc
stops [] (Some k) at o f h =
    let g : f ≡ fault.NoValue k.1 = cc in
    rw g ends
stops (w ∷ ws) None at o f h = word-stops at w ws o f (λ k q. stops ws k (at + 1) q f) (word_of w) (kind w) h
stops (w ∷ ws) (Some k) at o f h = value-stops at w ws o f (λ k q. stops ws k (at + 1) q f) k (fits k.0 w) refl h

pub refused : (words : List (List ℕ)) (f : OptionFault) → options_of words ≡ Err f → Refused words f
refused words f e =
    let (a, b, ms, n, s, p, q, c, l, g, x) = stops words None 0 defaults f e in
    let at : n ≡ length a = omega arith in
    let count : s ≡ sheets ms = omega arith in
    (a, b, ms, p, q, omega arith, rw (at, count) at x)

-- the word that is named stands among them
wrong-within : (at n : ℕ) (b : List (List ℕ)) (f : OptionFault) → Wrong at n b f → place_of f < at + length b
wrong-within _ _ _ _ (unknown {at} {n} {w} {ws} d p q) = omega arith
wrong-within _ _ _ _ (no_value {at} {n} {w} k e) = omega arith
wrong-within _ _ _ _ (bad_value {at} {n} {w} {v} {ws} k e t) = omega arith
wrong-within _ _ _ _ (second_sheet {at} {w} {ws} e) = omega arith

pub refused-within : (words : List (List ℕ)) (f : OptionFault) → Refused words f → place_of f < length words
refused-within words f (a, b, ms, p, q, l, x) = rw (p, length-append) (wrong-within (length a) (sheets ms) b f x)
