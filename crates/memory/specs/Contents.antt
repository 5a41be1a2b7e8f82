-- The meaning of a memory: the list of its words. Everything above a memory speaks of it by `size`, `fetched` and
-- `stored` alone.
use Rattle.std.specs.Prelude.{◌≡◌, ℕ, ◌<◌, ◌≤◌, List, length, ◌≢◌, slice_index, slice_set}

pub record Contents : Type 0 where
  pub words : List ℕ

-- a memory that holds these words
abbrev pub holding : List ℕ → Contents
holding words = record { words = words }

-- how many words there are
abbrev pub size : Contents → ℕ
size c = length c.words

-- the word at an address, or zero past the end
abbrev pub fetched : Contents → ℕ → ℕ
fetched c address = slice_index c.words address

-- the word at one address replaced; past the end nothing changes
abbrev pub stored : Contents → ℕ → ℕ → Contents
stored c address word = holding (slice_set c.words address word)

-- What a store does, in four facts.
pub record Replaced (before : Contents) (address word : ℕ) (after : Contents) : Type 0 where
  pub sized : size after ≡ size before
  pub here : address < size before → fetched after address ≡ word
  pub elsewhere : (other : ℕ) → (other ≢ address) → fetched after other ≡ fetched before other
  pub past : size before ≤ address → after ≡ before
