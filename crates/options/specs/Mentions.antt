-- What is mentioned, and what that says of the options: the last mention of each counts.
use Rattle.std.specs.Prelude.{ℕ, Bool, true, cond, List, [], ◌∷◌, is_some, Some, codes, Option}
use Rattle.std.specs.Option.{unwrap_or}
use Rattle.std.specs.Str.{bytes_eq}
use Rattle.fields.specs.Numbers.{number_in}
use Rattle.options.specs.declared.options.Options.{Options}
use Rattle.options.specs.declared.word.Flag.{Flag}
use Rattle.options.specs.declared.word.Valued.{Valued}
use Rattle.options.specs.declared.word.Valued.TheVariants.{Image, Save, Script, Input, From, Cycles, Clocks, Wait, Paper, Examine}
use Rattle.options.specs.Names.{flag_name, valued_name}
use Rattle.options.specs.Values.{number_up_to, address_in, addresses_in}

-- an option by its name, and its value by place and bytes
pub record Mention : Type 0 where
  pub name : List ℕ
  pub place : ℕ
  pub value : List ℕ

-- the sheet has no name
abbrev pub sheet_at : ℕ → Mention
sheet_at place = record { name = []; place = place; value = [] }

-- an option that stands alone has no value
abbrev pub alone : Flag → Mention
alone flag = record { name = flag_name flag; place = 0; value = [] }

abbrev pub valued_at : Valued → ℕ → List ℕ → Mention
valued_at valued place value = record { name = valued_name valued; place = place; value = value }

-- whether a value is of its option's form
abbrev pub fits : Valued → List ℕ → Bool
fits Image w = true
fits Save w = true
fits Script w = true
fits Input w = true
fits From w = is_some (address_in w)
fits Cycles w = is_some (number_in 10 18 w)
fits Clocks w = is_some (number_in 10 18 w)
fits Wait w = is_some (number_up_to 65535 w)
fits Paper w = is_some (number_up_to 1000000 w)
fits Examine w = is_some (addresses_in w)

-- what the last mention of a name says, or what stood before where there is none
abbrev pub lastly : {X : Type 0} → List Mention → List ℕ → (Mention → X) → X → X
lastly [] name says before = before
lastly (m ∷ ms) name says before = lastly ms name says (cond (bytes_eq m.name name) (says m) before)

abbrev pub at_place : Mention → Option ℕ
at_place m = Some m.place

abbrev pub said : Mention → Bool
said m = true

-- the options after these mentions
abbrev pub told : List Mention → Options → Options
told ms o = record {
  sheet = lastly ms (codes "") at_place o.sheet;
  image = lastly ms (codes "--image") at_place o.image;
  save = lastly ms (codes "--save") at_place o.save;
  script = lastly ms (codes "--script") at_place o.script;
  input = lastly ms (codes "--input") at_place o.input;
  clock = lastly ms (codes "--clock") said o.clock;
  both = lastly ms (codes "--both") said o.both;
  trace = lastly ms (codes "--trace") said o.trace;
  time = lastly ms (codes "--time") said o.time;
  help = lastly ms (codes "--help") said o.help;
  from = lastly ms (codes "--from") (λ m. address_in m.value) o.from;
  cycles = lastly ms (codes "--cycles") (λ m. number_in 10 18 m.value) o.cycles;
  clocks = lastly ms (codes "--clocks") (λ m. number_in 10 18 m.value) o.clocks;
  wait = lastly ms (codes "--wait") (λ m. unwrap_or (number_up_to 65535 m.value) 0) o.wait;
  paper = lastly ms (codes "--paper") (λ m. unwrap_or (number_up_to 1000000 m.value) 4096) o.paper;
  examine = lastly ms (codes "--examine") (λ m. addresses_in m.value) o.examine;
}
