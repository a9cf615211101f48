-- A told wait is within half a nanosecond of the exact one, its two roundings together. Assumes nothing.
-- Stays: `wait_half`, which Credit cites and docs/GUARANTEES.md names; std does not say how far a rounded quotient goes.
use Prim.Native.Nat.{ℕ, ◌*◌, ◌^◌, ◌≤◌, ◌<◌}
use mathlib.Core.Bool.{false}
use mathlib.Core.Path.{◌≡◌, sym, subst}
use native.Mathlib.Nat.{le_trans, le_of_eq, mul-one, mul-le-mul_right, mul-le-mul_left}
use native.Mathlib.Omega.{arith}
use lib.Dec.{lit≤}
use lib.Ieee.{binary64, div, of_int}
use lib.Ieee.Exact.{HasValue}
use lib.Ieee.Nearest.{closest}
use lib.Ieee.Scale.{grid}
use lib.IntN.{pos}
use Rattle.numeric.proofs.Errors.{Within, within-twice, within_nearest}
use Rattle.numeric.proofs.Halves.{Half, closest_half}
use Rattle.numeric.proofs.Nearest.{of_int_value}
use Rattle.numeric.proofs.Roundings.{near_fraction}
use Rattle.numeric.proofs.Seconds.{unity, unity_pos, far, nanos_of_value}
use Rattle.numeric.proofs.Units.{div_has}
use Rattle.pacing.specs.TokenBucket.{wait_of}

-- bytes / rate, rounded, in units of 2 ^ -1074 seconds
quotient : ℕ → ℕ → ℕ
quotient bytes rate = grid binary64 bytes rate

module _ (bytes rate : ℕ) (P : 0 < rate) (R : rate ≤ 2 ^ 53) (N : bytes ≤ 1000000) where
  quotient-near : Within (2 ^ 53) (quotient bytes rate * rate) (bytes * unity)
  unfolding quotient unity
  quotient-near = near_fraction binary64 bytes rate P (le_trans (mul-le-mul_left (2 ^ 52) R) (lit≤ tt))

  quotient-has : HasValue (div binary64 (of_int binary64 (pos bytes)) (of_int binary64 (pos rate))) false (quotient bytes rate) unity
  unfolding quotient unity
  quotient-has =
      div_has binary64 (of_int binary64 (pos bytes)) (of_int binary64 (pos rate)) bytes rate P (of_int_value binary64 bytes (le_trans N (lit≤ tt))) (of_int_value binary64 rate R)
      (far 4000000 (bytes * 2) rate (lit≤ tt) (omega arith))

  quotient-small : quotient bytes rate < 4294967296 * unity
  quotient-small =
      below (quotient bytes rate) (quotient bytes rate * rate) (bytes * unity) unity unity_pos (le_trans (le_of_eq (sym (mul-one (quotient bytes rate)))) (mul-le-mul_left (quotient bytes rate) P))
      (within-twice (2 ^ 53) (quotient bytes rate * rate) (bytes * unity) (lit≤ tt) quotient-near) (mul-le-mul_right unity N)
    where
      below : (q y n u : ℕ) → 0 < u → q ≤ y → y ≤ n * 2 → n ≤ 1000000 * u → q < 4294967296 * u
      below q y n u U a b c = omega arith

  wait-is : wait_of bytes rate ≡ closest (quotient bytes rate * 1000000000) unity
  unfolding wait_of
  wait-is = nanos_of_value (div binary64 (of_int binary64 (pos bytes)) (of_int binary64 (pos rate))) (quotient bytes rate) unity unity_pos quotient-has quotient-small

  -- |wait_of - bytes * 10 ^ 9 / rate| ≤ 1 / 2
  pub wait_half : Half (wait_of bytes rate) (bytes * 1000000000) rate
  wait_half =
      within_nearest (2 ^ 53) 1000000000 bytes rate unity (quotient bytes rate) (wait_of bytes rate) unity_pos (omega arith) quotient-near
      (subst (λ (z : ℕ). Half z (quotient bytes rate * 1000000000) unity) (sym wait-is) (closest_half (quotient bytes rate * 1000000000) unity unity_pos))
