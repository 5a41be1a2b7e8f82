-- What is mentioned is read so, and what is read is mentioned.
use Rattle.std.proofs.Common.{◌≡◌, ℕ, ◌+◌, ◌≤◌, Bool, true, false, cond, List, [], ◌∷◌, is_some, Some, None, Ok, Err, Option, refl, arith}
use Rattle.fields.specs.Outcomes.{and_then, or_fault}
use Rattle.std.proofs.lemmas.Bool.Decides.{nat_tests}
use Rattle.options.specs.declared.options.OptionFault.TheVariants as fault
use Rattle.options.specs.declared.options.Options.{Options}
use Rattle.options.specs.declared.word.Valued.{Valued}
use Rattle.options.specs.declared.word.Word.{Word}
use Rattle.options.specs.declared.word.Word.TheVariants.{Sheet, Alone, Awaits}
use Rattle.options.specs.Options.{defaults}
use Rattle.options.specs.Names.{dashed, word_of}
use Rattle.options.specs.Mentions.{Mention, sheet_at, alone, valued_at, fits, told}
use Rattle.options.specs.Grammar.{Mentions, nothing, sheet, flag, valued, sheets, Asked}
use Rattle.options.specs.Reading.{after, by_kind, read_on, options_of}
use Rattle.options.proofs.Known.{flag-known, flag-named, valued-known, valued-named, Kind, kind, one, ready, ended, counted, left}

-- WHAT IS MENTIONED IS READ SO

read-so : (at : ℕ) (ws : List (List ℕ)) (ms : List Mention) → Mentions at ws ms → (o : Options) → sheets ms + one o.sheet ≤ 1 → read_on at ws (ready o) ≡ Ok (ready (told ms o))
read-so _ _ _ nothing o h = refl
read-so _ _ _ (sheet {at} {w} {ws} {ms} e m) o h =
    let n : is_some o.sheet ≡ false = grind (arith, nat_tests) in
    rw (e, n) (read-so (at + 1) ws ms m (told (sheet_at at ∷ []) o) (omega arith))
read-so _ _ _ (flag {at} {w} {ws} {ms} f e m) o h =
    rw (e, flag-known f) (read-so (at + 1) ws ms m (told (alone f ∷ []) o) (omega (arith, counted (alone f) ms o (flag-named f))))
read-so _ _ _ (valued {at} {w} {v} {ws} {ms} k e t m) o h =
    let here : Mention = valued_at k (at + 1) v in
    rw (e, valued-known k, t) (read-so (at + 1 + 1) ws ms m (told (here ∷ []) o) (omega (arith, counted here ms o (valued-named k))))

pub each : (words : List (List ℕ)) (o : Options) → Asked words o → options_of words ≡ Ok o
each words o (ms, m, h, e) = rw (read-so 0 words ms m defaults (omega arith), e) refl

-- WHAT IS READ IS MENTIONED

-- the options `o` become `p` by what the words from a place on mention
abbrev Become : ℕ → List (List ℕ) → Options → Options → Type 0
Become at ws o p = (ms : List Mention) × Mentions at ws ms × (sheets ms + one o.sheet ≤ 1) × (p ≡ told ms o)

-- the same, where an option waits for its value
abbrev Waiting : Option (Valued × ℕ) → ℕ → List (List ℕ) → Options → Options → Type 0
Waiting None at ws o p = Become at ws o p
Waiting (Some k) at ws o p =
    (v : List ℕ) × (vs : List (List ℕ)) × (ws ≡ v ∷ vs) × (fits k.0 v ≡ true) × Become (at + 1) vs (told (valued_at k.0 at v ∷ []) o) p

module _ (at : ℕ) (w : List ℕ) (ws : List (List ℕ)) (o p : Options) (more : (k : Option (Valued × ℕ)) (q : Options) → left (at + 1) ws k q ≡ Ok p → Waiting k (at + 1) ws q p) where
  sheet-form : (b : Bool) → is_some o.sheet ≡ b → dashed w ≡ false → and_then (and_then (cond b (Err (fault.SecondSheet at)) (Ok (after (sheet_at at) o))) (read_on (at + 1) ws)) ended ≡ Ok p → Become at (w ∷ ws) o p
  sheet-form true n e h = cc
  sheet-form false n e h =
      let (ms, m, l, q) = more None (told (sheet_at at ∷ []) o) h in
      (sheet_at at ∷ ms, sheet e m, rw n (omega arith), q)

  word-form : (x : Option Word) → Kind w x → and_then (and_then (or_fault (fault.Unknown at) x (by_kind o at)) (read_on (at + 1) ws)) ended ≡ Ok p → Become at (w ∷ ws) o p
  word-form (Some Sheet) e h = sheet-form (is_some o.sheet) refl e h
  word-form (Some (Alone f)) e h =
      let (ms, m, l, q) = more None (told (alone f ∷ []) o) h in
      (alone f ∷ ms, flag f e m, omega (arith, counted (alone f) ms o (flag-named f)), q)
  word-form (Some (Awaits k)) e h =
      let (v, vs, g, t, (ms, m, l, q)) = more (Some (k, at)) o h in
      let here : Mention = valued_at k (at + 1) v in
      (here ∷ ms, rw g (valued k e t m), omega (arith, counted here ms o (valued-named k)), q)
  word-form None e h = cc

  value-form : (k : Valued × ℕ) (b : Bool) → fits k.0 w ≡ b → and_then (and_then (cond b (Ok (after (valued_at k.0 at w) o)) (Err (fault.BadValue at))) (read_on (at + 1) ws)) ended ≡ Ok p → Waiting (Some k) at (w ∷ ws) o p
  value-form k true t h = (w, ws, refl, t, more None (told (valued_at k.0 at w ∷ []) o) h)
  value-form k false t h = cc

forms : (ws : List (List ℕ)) (k : Option (Valued × ℕ)) (at : ℕ) (o p : Options) → left at ws k o ≡ Ok p → Waiting k at ws o p
forms [] None at o p h = ([], nothing, grind (arith, nat_tests), cc)
forms [] (Some k) at o p h = cc
forms (w ∷ ws) None at o p h = word-form at w ws o p (λ k q. forms ws k (at + 1) q p) (word_of w) (kind w) h
forms (w ∷ ws) (Some k) at o p h = value-form at w ws o p (λ k q. forms ws k (at + 1) q p) k (fits k.0 w) refl h

pub asked : (words : List (List ℕ)) (o : Options) → options_of words ≡ Ok o → Asked words o
asked words o e =
    let (ms, m, l, q) = forms words None 0 defaults o e in
    (ms, m, omega arith, q)
