-- `seconds_of` in units of 2 ^ -1074 seconds: how far its two roundings go, and that a later time is no fewer seconds. And `nanos_of` of a value, by any fraction that it equals. Assumes nothing.
-- Stays: what the laws of credits and waits cite (pacing/proofs/Credit, Waits); std has nothing of these roundings.
use Rattle.std.proofs.Common.{◌≡◌, ℕ, suc, ◌+◌, ◌*◌, ◌/◌, ◌%◌, ◌^◌, ◌<◌, ◌≤◌, true, false, pos, sym, refl, ap, ◌∙◌, subst, inl, inr, true≢false, le_of_eq, lt_of_lt_of_le, mul-le-mul_right, suc-mul, lt_of_mul-lt-mul_right, eq-or-lt_of_le, mul-lt-mul_of_pos_right, div-add-mod', mul_right_comm, arith, lit≤, pow_pos, lt-ltb}
use lib.Ieee.{Float, nan, inf, fin, binary64, emax, low, up, down, div, of_int, of_bits}
use lib.Ieee.Exact.{HasValue}
use lib.Ieee.Fits.{down_pos}
use lib.Ieee.Nearest.{closest, closest_same}
use lib.Ieee.Scale.{grid}
use Rattle.numeric.specs.Duration.{seconds_of, nanos_of}
use Rattle.numeric.proofs.Errors.{Within, within-sum, within-twice}
use Rattle.numeric.proofs.Nearest.{of_int_value}
use Rattle.numeric.proofs.Roundings.{near_units, near_fraction}
use Rattle.numeric.proofs.Units.{round_has, add_has, div_has, grid_order, grid_stays}

-- how many of the smallest units make 1; it is shut, so that its 324 digits stand in no goal
unfoldable pub unity : ℕ
unity = 2 ^ low binary64

pub unity_pos : 0 < unity
unfolding unity
unity_pos = pow_pos (low binary64)

abbrev giga : Float
giga = of_bits binary64 0x41cd_cd65_0000_0000

giga_is : HasValue giga false 1000000000 1
unfolding of_bits
giga_is = (refl, refl)

-- far below the overflow
pub far : (k a c : ℕ) → k ≤ 2 ^ suc (emax binary64) → a < k * c → a < 2 ^ suc (emax binary64) * c
far k a c h l = lt_of_lt_of_le l (mul-le-mul_right c h)

-- ---- the roundings, in units: the nanoseconds past the last whole second, as seconds; and all of them
fraction : ℕ → ℕ
fraction nanos = grid binary64 (nanos % 1000000000) 1000000000

pub seconds : ℕ → ℕ
seconds nanos = grid binary64 (nanos / 1000000000 * unity + fraction nanos) unity

-- ---- how far they go
fraction_near : (nanos : ℕ) → Within (2 ^ 53) (fraction nanos * 1000000000) (nanos % 1000000000 * unity)
unfolding fraction unity
fraction_near nanos = near_fraction binary64 (nanos % 1000000000) 1000000000 (lit≤ tt) (lit≤ tt)

sum_near : (nanos : ℕ) → Within (2 ^ 53) (seconds nanos) (nanos / 1000000000 * unity + fraction nanos)
unfolding seconds unity
sum_near nanos = near_units binary64 (nanos / 1000000000 * unity + fraction nanos)

-- both together, at most a 2 ^ 51-th part
pub seconds_near : (nanos : ℕ) → Within (2 ^ 51) (seconds nanos * 1000000000) (nanos * unity)
seconds_near nanos =
    subst (λ (z : ℕ). Within (2 ^ 51) (seconds nanos * 1000000000) (z * unity)) (div-add-mod' nanos 1000000000)
    (within-sum (2 ^ 51) 1000000000 (nanos / 1000000000) (nanos % 1000000000) unity (fraction nanos) (seconds nanos) (lit≤ tt) (fraction_near nanos) (sum_near nanos))

-- ---- that they are what the floats hold
fraction-small : (nanos : ℕ) → nanos % 1000000000 * 2 < 2 ^ suc (emax binary64) * 1000000000
fraction-small nanos = far 2 (nanos % 1000000000 * 2) 1000000000 (lit≤ tt) (omega arith)

module _ (nanos : ℕ) (Q : nanos / 1000000000 ≤ 2 ^ 53) where
  sum-le : nanos / 1000000000 * unity + fraction nanos ≤ unity * 2 ^ 54
  sum-le = omega (arith, fraction-le, mul-le-mul_right unity Q)
    where
      under : nanos % 1000000000 ≤ 1000000000
      under = omega arith

      fraction-le : fraction nanos ≤ unity * 2
      fraction-le = omega (arith, within-twice (2 ^ 53) (fraction nanos * 1000000000) (nanos % 1000000000 * unity) (lit≤ tt) (fraction_near nanos), mul-le-mul_right unity under)

  sum-small : (nanos / 1000000000 * unity + fraction nanos) * 2 < 2 ^ suc (emax binary64) * unity
  sum-small = far (2 ^ 60) ((nanos / 1000000000 * unity + fraction nanos) * 2) unity (lit≤ tt) (below (nanos / 1000000000 * unity + fraction nanos) unity unity_pos sum-le)
    where
      below : (x u : ℕ) → 0 < u → x ≤ u * 2 ^ 54 → x * 2 < 2 ^ 60 * u
      below x u U h = omega arith

  pub seconds_le : seconds nanos ≤ unity * 2 ^ 55
  seconds_le = omega (arith, within-twice (2 ^ 53) (seconds nanos) (nanos / 1000000000 * unity + fraction nanos) (lit≤ tt) (sum_near nanos), sum-le)

  fraction-has : HasValue (div binary64 (of_int binary64 (pos (nanos % 1000000000))) giga) false (fraction nanos) unity
  unfolding fraction unity
  fraction-has = div_has binary64 (of_int binary64 (pos (nanos % 1000000000))) giga (nanos % 1000000000) 1000000000 (lit≤ tt) (of_int_value binary64 (nanos % 1000000000) (omega arith)) giga_is (fraction-small nanos)

  pub seconds_has : HasValue (seconds_of nanos) false (seconds nanos) unity
  unfolding seconds unity
  seconds_has =
      add_has binary64 (of_int binary64 (pos (nanos / 1000000000))) (div binary64 (of_int binary64 (pos (nanos % 1000000000))) giga) (nanos / 1000000000) (fraction nanos) (of_int_value binary64 (nanos / 1000000000) Q) fraction-has
      sum-small

-- ---- a later time is no fewer seconds
module _ (nanos later : ℕ) (l : nanos ≤ later) (Q : later / 1000000000 ≤ 2 ^ 53) where
  -- in the same second, and in a later one
  fraction-order : nanos % 1000000000 ≤ later % 1000000000 → fraction nanos ≤ fraction later
  unfolding fraction
  fraction-order h =
      grid_order binary64 (nanos % 1000000000) 1000000000 (later % 1000000000) 1000000000 (lit≤ tt) (lit≤ tt)
      (round_has binary64 (nanos % 1000000000) 1000000000 (lit≤ tt) (fraction-small nanos)) (round_has binary64 (later % 1000000000) 1000000000 (lit≤ tt) (fraction-small later)) (mul-le-mul_right 1000000000 h)

  fraction-under : fraction nanos ≤ 1 * unity
  unfolding fraction unity
  fraction-under = grid_stays binary64 1 (nanos % 1000000000) 1000000000 (lit≤ tt) (lit≤ tt) (round_has binary64 (nanos % 1000000000) 1000000000 (lit≤ tt) (fraction-small nanos)) (omega arith)

  sum-order : nanos / 1000000000 * unity + fraction nanos ≤ later / 1000000000 * unity + fraction later
  sum-order = elim (eq-or-lt_of_le q) [ inl e ↦ omega (arith, fraction-order (omega arith), ap (λ (z : ℕ). z * unity) e) | inr h ↦ omega (arith, fraction-under, mul-le-mul_right unity h, suc-mul (nanos / 1000000000) unity) ]
    where
      q : nanos / 1000000000 ≤ later / 1000000000
      q = omega arith

  pub seconds_order : seconds nanos ≤ seconds later
  unfolding seconds unity
  seconds_order =
      grid_order binary64 (nanos / 1000000000 * unity + fraction nanos) unity (later / 1000000000 * unity + fraction later) unity unity_pos unity_pos
      (round_has binary64 (nanos / 1000000000 * unity + fraction nanos) unity unity_pos (sum-small nanos (omega arith))) (round_has binary64 (later / 1000000000 * unity + fraction later) unity unity_pos (sum-small later Q))
      (mul-le-mul_right unity sum-order)

-- ---- `nanos_of` of a value a / c below 2 ^ 32
pub nanos_of_value : (x : Float) (a c : ℕ) → 0 < c → HasValue x false a c → a < 4294967296 * c → nanos_of x ≡ closest (a * 1000000000) c
nanos_of_value nan a c C h l = absurd h
nanos_of_value (inf s) a c C h l = absurd h
nanos_of_value (fin true m e) a c C h l = absurd (true≢false h.0)
nanos_of_value (fin false m e) a c C h l =
    simp (lt-ltb (m * up e) (2 ^ 32 * down e) (less (m * up e) (down e) (down_pos e) h.1))
    (closest_same (m * up e * 1000000000) (down e) (a * 1000000000) c (down_pos e) C (mul_right_comm (m * up e) 1000000000 c ∙ ap (λ (z : ℕ). z * 1000000000) h.1 ∙ mul_right_comm a (down e) 1000000000))
  where
    less : (x d : ℕ) → 0 < d → x * c ≡ a * d → x < 4294967296 * d
    less x d D e = lt_of_mul-lt-mul_right c (subst (λ (z : ℕ). z < 4294967296 * d * c) (sym e) (lt_of_lt_of_le (mul-lt-mul_of_pos_right l D) (le_of_eq (mul_right_comm 4294967296 c d))))
