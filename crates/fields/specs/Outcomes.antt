-- Results that go on, or stop at the first fault.
use Rattle.std.specs.Borrow.{Bor}
use Rattle.std.specs.Prelude.{Some, None, Ok, Err, Option, Result}

-- what `next` makes of the value of `r`, or its fault
abbrev pub and_then : {X Y E : Type 0} → Result X E → (X → Result Y E) → Result Y E
and_then (Ok x) next = next x
and_then (Err e) next = Err e

-- the same, with the fault turned by `up` into one of the layer above
abbrev pub lifted : {X Y E F : Type 0} → (E → F) → Result X E → (X → Result Y F) → Result Y F
lifted up (Ok x) next = next x
lifted up (Err e) next = Err (up e)

-- what `next` makes of the value, or nothing
abbrev pub if_some : {X Y : Type 0} → Option X → (X → Option Y) → Option Y
if_some (Some x) next = next x
if_some None next = None

-- what `next` makes of the value, or the fault `e`
abbrev pub or_fault : {X Y E : Type 0} → E → Option X → (X → Result Y E) → Result Y E
or_fault e (Some x) next = next x
or_fault e None next = Err e

-- a result, with what its reference points to
abbrev pub seen : {X E : Type 0} → Result (Bor X) E → Result X E
seen (Ok r) = Ok r.now
seen (Err e) = Err e
