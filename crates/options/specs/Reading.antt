-- Reading the words from the left: which are options, which are values, which is the sheet.
use Rattle.std.specs.Prelude.{ℕ, ◌+◌, cond, List, [], ◌∷◌, map, is_some, Some, None, Ok, Err, string_bytes, Option, Result, String}
use Rattle.fields.specs.Outcomes.{and_then, or_fault}
use Rattle.options.specs.declared.options.OptionFault.{OptionFault}
use Rattle.options.specs.declared.options.OptionFault.TheVariants as fault
use Rattle.options.specs.declared.options.Options.{Options}
use Rattle.options.specs.declared.reading.Reading.{Reading}
use Rattle.options.specs.declared.word.Valued.{Valued}
use Rattle.options.specs.declared.word.Word.{Word}
use Rattle.options.specs.declared.word.Word.TheVariants.{Sheet, Alone, Awaits}
use Rattle.options.specs.Options.{defaults}
use Rattle.options.specs.Names.{word_of}
use Rattle.options.specs.Mentions.{Mention, sheet_at, alone, valued_at, fits, told}

-- the options after a mention; no option waits for its value
abbrev pub after : Mention → Options → Reading
after m o = record { options = told (m ∷ []) o; waiting = None }

-- the word at a place, where no value is due, by what it is
abbrev pub by_kind : Options → ℕ → Word → Result Reading OptionFault
by_kind o at Sheet = cond (is_some o.sheet) (Err (fault.SecondSheet at)) (Ok (after (sheet_at at) o))
by_kind o at (Alone flag) = Ok (after (alone flag) o)
by_kind o at (Awaits valued) = Ok (record { options = o; waiting = Some (valued, at) })

-- the same by its bytes, if it is anything
abbrev pub by_word : Options → ℕ → List ℕ → Result Reading OptionFault
by_word o at w = or_fault (fault.Unknown at) (word_of w) (by_kind o at)

-- the value of an option
abbrev pub by_value : Options → Valued → ℕ → List ℕ → Result Reading OptionFault
by_value o valued at w = cond (fits valued w) (Ok (after (valued_at valued at w) o)) (Err (fault.BadValue at))

-- one word more: the value of the option that waits, whatever it is, or a word for itself
abbrev pub next : Option (Valued × ℕ) → Options → ℕ → List ℕ → Result Reading OptionFault
next None o at w = by_word o at w
next (Some option) o at w = by_value o option.0 at w

abbrev pub read_on : ℕ → List (List ℕ) → Reading → Result Reading OptionFault
read_on at [] r = Ok r
read_on at (w ∷ ws) r = and_then (next r.waiting r.options at w) (read_on (at + 1) ws)

abbrev pub finished : Option (Valued × ℕ) → Options → Result Options OptionFault
finished None o = Ok o
finished (Some option) o = Err (fault.NoValue option.1)

abbrev pub start : Reading
start = record { options = defaults; waiting = None }

abbrev pub options_of : List (List ℕ) → Result Options OptionFault
options_of words = and_then (read_on 0 words start) (λ r. finished r.waiting r.options)

-- the bytes of each word
abbrev pub bytes_of : {Z : Type 0} → List (String Z) → List (List ℕ)
bytes_of words = map string_bytes words
