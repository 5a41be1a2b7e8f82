-- The words as a grammar: which words mention what.
use Rattle.std.specs.Prelude.{◌≡◌, ℕ, ◌+◌, ◌≤◌, true, false, cond, List, [], ◌∷◌, ◌++◌, length, ◌≢◌}
use Rattle.std.specs.Str.{bytes_eq}
use Rattle.options.specs.declared.options.OptionFault.{OptionFault}
use Rattle.options.specs.declared.options.OptionFault.TheVariants as fault
use Rattle.options.specs.declared.options.Options.{Options}
use Rattle.options.specs.declared.word.Flag.{Flag}
use Rattle.options.specs.declared.word.Valued.{Valued}
use Rattle.options.specs.Options.{defaults}
use Rattle.options.specs.Names.{flag_name, valued_name, dashed}
use Rattle.options.specs.Mentions.{Mention, sheet_at, alone, valued_at, fits, told}

-- The words from a place on: a word that does not begin with `-` is a sheet, an option is named,
-- and behind one that takes a value stands a value of its form.
pub data Mentions : ℕ → List (List ℕ) → List Mention → Type 0 where
  nothing : {at : ℕ} → Mentions at [] []
  sheet : {at : ℕ} {w : List ℕ} {ws : List (List ℕ)} {ms : List Mention}
      → dashed w ≡ false → Mentions (at + 1) ws ms → Mentions at (w ∷ ws) (sheet_at at ∷ ms)
  flag : {at : ℕ} {w : List ℕ} {ws : List (List ℕ)} {ms : List Mention} (f : Flag)
      → w ≡ flag_name f → Mentions (at + 1) ws ms → Mentions at (w ∷ ws) (alone f ∷ ms)
  valued : {at : ℕ} {w v : List ℕ} {ws : List (List ℕ)} {ms : List Mention} (k : Valued)
      → w ≡ valued_name k → fits k v ≡ true → Mentions (at + 1 + 1) ws ms → Mentions at (w ∷ v ∷ ws) (valued_at k (at + 1) v ∷ ms)

-- how many sheets are mentioned
abbrev pub sheets : List Mention → ℕ
sheets [] = 0
sheets (m ∷ ms) = cond (bytes_eq m.name []) 1 0 + sheets ms

-- the words ask for these options: at most one sheet, and of each option the last mention, or its default
abbrev pub Asked : List (List ℕ) → Options → Type 0
Asked words o = (ms : List Mention) × Mentions 0 words ms × (sheets ms ≤ 1) × (o ≡ told ms defaults)

-- the words from a place on, behind so many sheets, begin with what is refused
pub data Wrong : ℕ → ℕ → List (List ℕ) → OptionFault → Type 0 where
  unknown : {at n : ℕ} {w : List ℕ} {ws : List (List ℕ)}
      → dashed w ≡ true → ((f : Flag) → w ≢ flag_name f) → ((k : Valued) → w ≢ valued_name k) → Wrong at n (w ∷ ws) (fault.Unknown at)
  no_value : {at n : ℕ} {w : List ℕ} (k : Valued) → w ≡ valued_name k → Wrong at n (w ∷ []) (fault.NoValue at)
  bad_value : {at n : ℕ} {w v : List ℕ} {ws : List (List ℕ)} (k : Valued)
      → w ≡ valued_name k → fits k v ≡ false → Wrong at n (w ∷ v ∷ ws) (fault.BadValue (at + 1))
  second_sheet : {at : ℕ} {w : List ℕ} {ws : List (List ℕ)} → dashed w ≡ false → Wrong at 1 (w ∷ ws) (fault.SecondSheet at)

-- the words are refused so: the first of them are right, and then comes what is not
abbrev pub Refused : List (List ℕ) → OptionFault → Type 0
Refused words f =
    (a : List (List ℕ)) × (b : List (List ℕ)) × (ms : List Mention)
    × (words ≡ a ++ b) × Mentions 0 a ms × (sheets ms ≤ 1) × Wrong (length a) (sheets ms) b f
