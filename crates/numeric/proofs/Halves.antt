-- The nearest whole number to a fraction n / u is at most a half away from it. Assumes nothing.
-- Stays: what Errors, Roundings, Units and the wait's laws cite; std has the order of `closest`, and not how far it is from the fraction.
use Rattle.std.proofs.Common.{◌≡◌, ℕ, zero, suc, ◌+◌, ◌*◌, ◌/◌, ◌%◌, ◌<◌, ◌≤◌, mul-le-mul_right, mod-lt, suc-mul, add-mul, one-mul, div-add-mod', zero-mul, arith}
use Prim.Native.Nat.{compare, Ordering}
use lib.Ieee.{nearest}
use lib.Ieee.Nearest.{closest}
use Rattle.numeric.proofs.Closest.{Cmp, cmp}

-- v is within a half of n / u, stated without a fraction: |2 * v * u - 2 * n| ≤ u
pub record Half (v n u : ℕ) : Type 0 where
  pub above : v * u * 2 ≤ n * 2 + u
  pub below : n * 2 ≤ v * u * 2 + u

-- the last digit of q is 0 or 1
last-le : (q u : ℕ) → q % 2 * u ≤ u
last-le q u = omega (arith, mul-le-mul_right u (at_most q), one-mul u)
  where
    at_most : (q : ℕ) → q % 2 ≤ 1
    at_most q = omega arith

-- whichever way the rest r compares with half of u
half_of : (q r u n : ℕ) (o : Ordering) → q * u + r ≡ n → r < u → Cmp o (r * 2) u → Half (nearest q o) n u
half_of q r u n Ordering.lt e l h = record { above = omega arith; below = omega arith }
half_of q r u n Ordering.eq e l h = record { above = omega (arith, add-mul q (q % 2) u, last-le q u); below = omega (arith, add-mul q (q % 2) u) }
half_of q r u n Ordering.gt e l h = record { above = omega (arith, suc-mul q u); below = omega (arith, suc-mul q u) }

-- the nearest whole number is within a half
pub closest_half : (n u : ℕ) → 0 < u → Half (closest n u) n u
closest_half n u U = half_of (n / u) (n % u) u n (compare (n % u * 2) u) (div-add-mod' n u) (mod-lt n U) (cmp (n % u * 2) u)

-- a number that is within a half of a fraction is at most twice the fraction
pub half_twice : (v n u : ℕ) → Half v n u → v * u ≤ n * 2
half_twice zero n u H = omega (arith, zero-mul u)
half_twice (suc v) n u H = omega (arith, H.above, suc-mul v u)
