-- How far the first `-` is.
use Rattle.std.proofs.Common.{◌≡◌, ℕ, ◌+◌, eqb, eq-eqb, false, List, length, take, drop, Some, None, refl, arith}
use Rattle.std.specs.List.{position, position_or_len}
use Rattle.std.specs.Option.{option_zip}
use Rattle.std.proofs.lemmas.Bool.Decides.{nat_tests}
use Rattle.std.proofs.lemmas.List.Sums.{prefix_len-le-length}
use Rattle.std.proofs.lemmas.List.Recursion.{is_position_or_len}
use Rattle.options.specs.Values.{dash_at, address_in, addresses_in}

module _ (w : List ℕ) where
  dash-counted : dash_at w ≡ position_or_len (λ b. eqb b 45) w
  dash-counted = is_position_or_len dash_at (λ b. eqb b 45) refl (λ b bs. grind arith) w

  -- the addresses on both sides of the first `-`
  pub around : (n : ℕ) → position (λ b. eqb b 45) w ≡ Some n → addresses_in w ≡ option_zip (address_in (take n w)) (address_in (drop (n + 1) w))
  around n h =
      let at : dash_at w ≡ n = grind (arith, dash-counted, nat_tests) in
      let within : eqb n (length w) ≡ false = grind (arith, nat_tests, at, dash-counted) in
      rw (at, within)

  -- or the one address
  pub alone : position (λ b. eqb b 45) w ≡ None → addresses_in w ≡ option_zip (address_in w) (address_in w)
  alone h =
      let at : dash_at w ≡ length w = grind (arith, dash-counted, nat_tests, prefix_len-le-length) in
      rw (at, eq-eqb (length w) (length w) refl)
