-- What the answer to the words promises.
use Rattle.std.proofs.Common.{◌≡◌, ℕ, List, length, Ok, Err, string_bytes, Result, String, sym, MatchResult}
use lib.ListN.{length-map}
use Rattle.options.specs.declared.options.OptionFault.{OptionFault}
use Rattle.options.specs.declared.options.Options.{Options}
use Rattle.options.specs.Bounds.{Within}
use Rattle.options.specs.Grammar.{Asked, Refused}
use Rattle.options.specs.Reading.{bytes_of, options_of}
use Rattle.options.proofs.Bounds.{sound}
use Rattle.options.proofs.Grammar.{asked}
use Rattle.options.proofs.Refusals.{refused, refused-within}

pub form : (words : List (List ℕ)) (r : Result Options OptionFault) → r ≡ options_of words → MatchResult r (Asked words) (Refused words)
form words (Ok o) e = asked words o (sym e)
form words (Err f) e = refused words f (sym e)

bytes-within : (words : List (List ℕ)) (r : Result Options OptionFault) → MatchResult r (Asked words) (Refused words) → Within (length words) r
bytes-within words (Ok o) a = sound words o a
bytes-within words (Err f) a = refused-within words f a

pub within : {Z : Type 0} (words : List (String Z)) (r : Result Options OptionFault) → r ≡ options_of (bytes_of words) → Within (length words) r
within words r e = rw (length-map words string_bytes) at (bytes-within (bytes_of words) r (form (bytes_of words) r e))
