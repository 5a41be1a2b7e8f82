-- Parts that the gates and the instruction table are made of.
use Rattle.std.specs.Prelude.{ℕ, Bool, true, false, cond, not}

-- a register: clear goes before load, and load before increment
abbrev pub register : Bool → Bool → ℕ → Bool → ℕ → ℕ → ℕ
register clear load value increment next old = cond clear 0 (cond load value (cond increment next old))

-- a source of AC, where it is selected
abbrev pub source : Bool → ℕ → ℕ
source selected value = cond selected value 0

-- a flip-flop: raised, lowered, and complemented when both hold
abbrev pub flip_flop : Bool → Bool → Bool → Bool
flip_flop raise lower old = cond raise (cond lower (not old) true) (cond lower false old)

-- a flag that can be lowered
abbrev pub unless_lowered : Bool → Bool → Bool
unless_lowered lower old = cond lower false old
