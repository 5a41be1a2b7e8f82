-- Places are among the words, and numbers in their range.
use Rattle.std.specs.Prelude.{ℕ, ◌<◌, ◌≤◌, IfSome, Ok, Err, Result}
use Rattle.options.specs.declared.options.OptionFault.{OptionFault}
use Rattle.options.specs.declared.options.OptionFault.TheVariants.{Unknown, NoValue, BadValue, SecondSheet}
use Rattle.options.specs.declared.options.Options.{Options}

-- the options of n words
pub record Sound (n : ℕ) (o : Options) : Type 0 where
  pub sheet : IfSome o.sheet (λ p. p < n)
  pub image : IfSome o.image (λ p. p < n)
  pub save : IfSome o.save (λ p. p < n)
  pub script : IfSome o.script (λ p. p < n)
  pub input : IfSome o.input (λ p. p < n)
  pub from : IfSome o.from (λ a. a ≤ 4095)
  pub paper : o.paper ≤ 1000000
  pub examine : IfSome o.examine (λ a. (a.0 ≤ 4095) × (a.1 ≤ 4095))

-- the word that a refusal names
abbrev pub place_of : OptionFault → ℕ
place_of (Unknown place) = place
place_of (NoValue place) = place
place_of (BadValue place) = place
place_of (SecondSheet place) = place

abbrev pub Within : ℕ → Result Options OptionFault → Type 0
Within n (Ok o) = Sound n o
Within n (Err f) = place_of f < n
