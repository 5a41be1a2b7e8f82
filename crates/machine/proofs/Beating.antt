-- Beats, one after the other.
use Rattle.std.proofs.Common.{◌≡◌, ℕ, zero, suc, ◌+◌, refl, add-one}
use Rattle.machine.specs.Beat.{Connection, beat, beats}

-- one more beat at the end
beats-end : (n : ℕ) (x : Connection) → beats (suc n) x ≡ beat (beats n x)
beats-end zero x = refl
beats-end (suc n) x = beats-end n (beat x)

-- the beat after n beats
pub beats-more : (n : ℕ) (x u v : Connection) → u ≡ beats n x → v ≡ beat u → v ≡ beats (n + 1) x
beats-more n x u v e h = rw add-one (cc (beats-end n x))
