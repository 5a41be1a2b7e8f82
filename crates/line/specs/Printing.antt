-- A paper of fixed size, and what is printed on it.
use Rattle.std.specs.Prelude.{◌≡◌, ℕ, Bool, false, cond, not, List, [], ◌∷◌, ◌++◌, take, drop, vec_items}
use Rattle.line.specs.declared.paper.Paper.{Paper}
use Rattle.line.specs.declared.status.Status.{Status}

-- The bytes on the paper, and the places behind them: as many as it has room for.
abbrev pub printed_on : Paper → List ℕ
printed_on paper = take paper.written (vec_items paper.bytes)

abbrev pub blank_of : Paper → List ℕ
blank_of paper = drop paper.written (vec_items paper.bytes)

-- Told FGO down, the line writes OUTR behind the last byte on the paper and replies printed; with the paper full it does neither.
abbrev pub prints : List ℕ → Status → Bool
prints [] status = false
prints (place ∷ places) status = not status.fgo

abbrev pub printed_after : List ℕ → List ℕ → Status → List ℕ
printed_after printed blank status = cond (prints blank status) (printed ++ status.outr ∷ []) printed

abbrev pub blank_after : List ℕ → Status → List ℕ
blank_after [] status = []
blank_after (place ∷ places) status = cond (prints (place ∷ places) status) places (place ∷ places)

-- From one paper to the next, with that reply.
pub record Printing (printed blank : List ℕ) (status : Status) (reply : Bool) (printed' blank' : List ℕ) : Type 0 where
  pub reply_is : reply ≡ prints blank status
  pub printed_is : printed' ≡ printed_after printed blank status
  pub blank_is : blank' ≡ blank_after blank status
