use Rattle.std.proofs.Common.{◌≡◌, ℕ, suc, zero, ◌-◌, ◌/◌, ◌<◌, ◌≤◌, List, [], ◌∷◌, ◌++◌, drop, length, sym, ◌∙◌, append_assoc, add-one, rules, arith}
use Rattle.std.proofs.lemmas.List.{drop-set}
use Rattle.std.specs.Prelude.{slice_set}
use Rattle.digits.specs.Digits.{digits, last_digit}
use Rattle.digits.proofs.hexadecimal.Goals as goal

-- One digit more is written, and one less is left to write.
one-more : (place rest : ℕ) (written all : List ℕ) → 0 < place → place ≤ length written → digits place rest ++ drop place written ≡ all
    → digits (place - 1) (rest / 16) ++ drop (place - 1) (slice_set written (place - 1) (last_digit rest)) ≡ all
one-more zero rest written all some within is = absurd (omega arith)
one-more (suc place) rest written all some within is =
    let e : suc place - 1 ≡ place = omega arith in
    rw (e, drop-set written place (last_digit rest) (omega arith), add-one)
    (sym (append_assoc (digits place (rest / 16)) (last_digit rest ∷ []) (drop (suc place) written)) ∙ is)

pub loop-place-preserved : goal.loop-place-preserved
loop-place-preserved g c =
    let all = c.loop-place.invariant.whole in
    record {
      long = search rules;
      whole = rw c.digit.ensures (one-more c.loop-place.place c.loop-place.rest c.loop-place.digits _ c.loop-place-test.true (omega arith) all);
    }
