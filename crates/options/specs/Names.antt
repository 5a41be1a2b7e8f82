-- The names of the options, and what a word is.
use Rattle.std.specs.Prelude.{ℕ, Bool, cond, List, [], ◌∷◌, Some, None, codes, Option, ◌==◌, slice_index}
use Rattle.std.specs.Str.{bytes_eq}
use Rattle.options.specs.declared.word.Flag.{Flag}
use Rattle.options.specs.declared.word.Flag.TheVariants.{Clock, Both, Trace, Time, Help}
use Rattle.options.specs.declared.word.Valued.{Valued}
use Rattle.options.specs.declared.word.Valued.TheVariants.{Image, Save, Script, Input, From, Cycles, Clocks, Wait, Paper, Examine}
use Rattle.options.specs.declared.word.Word.{Word}
use Rattle.options.specs.declared.word.Word.TheVariants.{Sheet, Alone, Awaits}

-- options that stand alone
abbrev pub flag_name : Flag → List ℕ
flag_name Clock = codes "--clock"
flag_name Both = codes "--both"
flag_name Trace = codes "--trace"
flag_name Time = codes "--time"
flag_name Help = codes "--help"

-- options with a value
abbrev pub valued_name : Valued → List ℕ
valued_name Image = codes "--image"
valued_name Save = codes "--save"
valued_name Script = codes "--script"
valued_name Input = codes "--input"
valued_name From = codes "--from"
valued_name Cycles = codes "--cycles"
valued_name Clocks = codes "--clocks"
valued_name Wait = codes "--wait"
valued_name Paper = codes "--paper"
valued_name Examine = codes "--examine"

-- which of several has this name, if any
abbrev pub named : {X : Type 0} → (X → List ℕ) → List X → List ℕ → Option X
named name [] w = None
named name (x ∷ xs) w = cond (bytes_eq w (name x)) (Some x) (named name xs w)

abbrev pub flags : List Flag
flags = Clock ∷ Both ∷ Trace ∷ Time ∷ Help ∷ []

abbrev pub valueds : List Valued
valueds = Image ∷ Save ∷ Script ∷ Input ∷ From ∷ Cycles ∷ Clocks ∷ Wait ∷ Paper ∷ Examine ∷ []

abbrev pub flag_named : List ℕ → Option Flag
flag_named w = named flag_name flags w

abbrev pub valued_named : List ℕ → Option Valued
valued_named w = named valued_name valueds w

abbrev pub option_by : Option Flag → Option Valued → Option Word
option_by (Some flag) valued = Some (Alone flag)
option_by None (Some valued) = Some (Awaits valued)
option_by None None = None

-- whether a word begins with `-`
abbrev pub dashed : List ℕ → Bool
dashed w = slice_index w 0 == 45

-- a word that begins with `-` is an option, if one has this name; any other is the sheet
abbrev pub word_of : List ℕ → Option Word
word_of w = cond (dashed w) (option_by (flag_named w) (valued_named w)) (Some Sheet)
