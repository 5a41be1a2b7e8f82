-- What a word is, and what that counts.
use Rattle.std.proofs.Common.{◌≡◌, ℕ, ◌+◌, Bool, true, false, cond, List, [], ◌∷◌, is_some, Some, None, Option, Result, refl, ap, arith}
use Rattle.std.specs.Str.{bytes_eq}
use Rattle.fields.specs.Outcomes.{and_then}
use Rattle.options.specs.declared.options.OptionFault.{OptionFault}
use Rattle.options.specs.declared.options.Options.{Options}
use Rattle.options.specs.declared.reading.Reading.{Reading}
use Rattle.options.specs.declared.word.Flag.{Flag}
use Rattle.options.specs.declared.word.Flag.TheVariants.{Clock, Both, Trace, Time, Help}
use Rattle.options.specs.declared.word.Valued.{Valued}
use Rattle.options.specs.declared.word.Valued.TheVariants.{Image, Save, Script, Input, From, Cycles, Clocks, Wait, Paper, Examine}
use Rattle.options.specs.declared.word.Word.{Word}
use Rattle.options.specs.declared.word.Word.TheVariants.{Sheet, Alone, Awaits}
use Rattle.options.specs.Names.{flag_name, valued_name, flags, valueds, flag_named, valued_named, option_by, dashed, word_of}
use Rattle.options.specs.Mentions.{Mention, told}
use Rattle.options.specs.Grammar.{sheets}
use Rattle.options.specs.Reading.{read_on, finished}
use Rattle.options.proofs.Named.{found}

-- each name is known for what it names, and is not empty
pub flag-known : (f : Flag) → word_of (flag_name f) ≡ Some (Alone f)
flag-known Clock = refl
flag-known Both = refl
flag-known Trace = refl
flag-known Time = refl
flag-known Help = refl

pub flag-named : (f : Flag) → bytes_eq (flag_name f) [] ≡ false
flag-named Clock = refl
flag-named Both = refl
flag-named Trace = refl
flag-named Time = refl
flag-named Help = refl

pub valued-known : (k : Valued) → word_of (valued_name k) ≡ Some (Awaits k)
valued-known Image = refl
valued-known Save = refl
valued-known Script = refl
valued-known Input = refl
valued-known From = refl
valued-known Cycles = refl
valued-known Clocks = refl
valued-known Wait = refl
valued-known Paper = refl
valued-known Examine = refl

pub valued-named : (k : Valued) → bytes_eq (valued_name k) [] ≡ false
valued-named Image = refl
valued-named Save = refl
valued-named Script = refl
valued-named Input = refl
valued-named From = refl
valued-named Cycles = refl
valued-named Clocks = refl
valued-named Wait = refl
valued-named Paper = refl
valued-named Examine = refl

-- what a word is tells its bytes
abbrev pub Kind : List ℕ → Option Word → Type 0
Kind w (Some Sheet) = dashed w ≡ false
Kind w (Some (Alone f)) = w ≡ flag_name f
Kind w (Some (Awaits k)) = w ≡ valued_name k
Kind w None = (dashed w ≡ true) × ((f : Flag) → w ≡ flag_name f → ⊥) × ((k : Valued) → w ≡ valued_name k → ⊥)

kind-by : (w : List ℕ) (b : Bool) (f : Option Flag) (k : Option Valued) → dashed w ≡ b → flag_named w ≡ f → valued_named w ≡ k → word_of w ≡ cond b (option_by f k) (Some Sheet) → Kind w (cond b (option_by f k) (Some Sheet))
kind-by w false f k d e g x = d
kind-by w true (Some f) k d e g x = found flag_name flags w f e
kind-by w true None (Some k) d e g x = found valued_name valueds w k g
kind-by w true None None d e g x = (d, λ f h. cc (flag-known f, ap word_of h), λ k h. cc (valued-known k, ap word_of h))

pub kind : (w : List ℕ) → Kind w (word_of w)
kind w = kind-by w (dashed w) (flag_named w) (valued_named w) refl refl refl refl

-- a sheet that is told already counts
abbrev pub one : Option ℕ → ℕ
one s = cond (is_some s) 1 0

abbrev pub ready : Options → Reading
ready o = record { options = o; waiting = None }

abbrev pub ended : Reading → Result Options OptionFault
ended r = finished r.waiting r.options

-- a mention of anything else counts no sheet
pub counted : (m : Mention) (ms : List Mention) (o : Options) → bytes_eq m.name [] ≡ false → sheets (m ∷ ms) + one o.sheet ≡ sheets ms + one (told (m ∷ []) o).sheet
counted m ms o e = rw e (omega arith)

-- what comes of the words from a place on
abbrev pub left : ℕ → List (List ℕ) → Option (Valued × ℕ) → Options → Result Options OptionFault
left at ws k o = and_then (read_on at ws (record { options = o; waiting = k })) ended
