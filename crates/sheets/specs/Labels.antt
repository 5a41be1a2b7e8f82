-- Labels, in the order in which they were entered.
use Rattle.std.specs.Prelude.{ℕ, Bool, cond, ◌&&◌, List, [], ◌∷◌, ◌++◌, length, drop, Some, None, Option, ◌==◌}
use Rattle.statements.specs.declared.statement.Name.{Name}
use Rattle.sheets.specs.declared.label.Label.{Label}

abbrev pub same_name : Name → Name → Bool
same_name a b = a.first == b.first && (a.second == b.second && a.third == b.third)

-- the address of the first label of that name
abbrev pub lookup : List Label → Name → Option ℕ
lookup [] name = None
lookup (label ∷ labels) name = cond (same_name label.name name) (Some label.address) (lookup labels name)

-- these labels at the front of the records, and behind them what the records held there
abbrev pub over : List Label → List Label → List Label
over labels records = labels ++ drop (length labels) records
