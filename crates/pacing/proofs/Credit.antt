-- A credit, as far as a capacity counts it, is at most one byte more than the rate allows, and not much less; a later time gives no less; and one nanosecond after a told wait it is enough. Assumes nothing.
-- Stays: what guarantees/proofs/Tokens cites, and the bounds that docs/GUARANTEES.md names; std does not say how far a rounded product goes.
use Prim.Native.Nat.{ℕ, suc, ◌+◌, ◌-◌, ◌*◌, ◌/◌, ◌^◌, ◌≤◌, ◌<◌, min}
use mathlib.Core.Bool.{Bool, true, false, not}
use mathlib.Core.Path.{◌≡◌, refl, sym, ◌∙◌, subst}
use native.Mathlib.Nat.{le_trans, le_of_eq, one-mul, mul-zero, mul_comm, mul_assoc, mul_right_comm, mul-le-mul, mul-le-mul_right, add-mul, mod-lt, div-mul-le_self, div-add-mod', le-div_iff_mul-le}
use native.Mathlib.Omega.{arith}
use lib.Dec.{T, leb, leb→le, nleb→lt, lit≤}
use lib.Ieee.{binary64, emax, add, mul, div, of_int, of_bits, to_unsigned}
use lib.Ieee.Exact.{HasValue}
use lib.Ieee.Nearest.{div_mono}
use lib.Ieee.Scale.{grid}
use lib.IntN.{pos}
use Rattle.numeric.proofs.Errors.{Within, within_double, within_scale, within_then, within_above, within_below, within-enough}
use Rattle.numeric.proofs.Fractions.{to_unsigned_value}
use Rattle.numeric.proofs.Halves.{Half}
use Rattle.numeric.proofs.Nearest.{of_int_value}
use Rattle.numeric.proofs.Roundings.{near_units}
use Rattle.numeric.proofs.Seconds.{unity, unity_pos, far, seconds, seconds_near, seconds_le, seconds_has, seconds_order}
use Rattle.numeric.proofs.Units.{round_has, mul_has, grid_order, grid_reaches}
use Rattle.numeric.specs.Duration.{seconds_of}
use Rattle.pacing.specs.TokenBucket.{credit, wait_of}
use Rattle.pacing.proofs.Waits.{wait_half}

-- ---- the rounded seconds times the rate, rounded, in units of 2 ^ -1074 bytes
product : ℕ → ℕ → ℕ
product nanos rate = grid binary64 (seconds nanos * rate) unity

rounded_near : (nanos rate : ℕ) → Within (2 ^ 53) (product nanos rate) (seconds nanos * rate)
unfolding product unity
rounded_near nanos rate = near_units binary64 (seconds nanos * rate)

-- all roundings together, at most a 2 ^ 50-th part
product_near : (nanos rate : ℕ) → Within (2 ^ 50) (product nanos rate * 1000000000) (rate * nanos * unity)
product_near nanos rate =
    subst (λ (z : ℕ). Within (2 ^ 50) (product nanos rate * 1000000000) z) (mul_comm (nanos * unity) rate ∙ sym (mul_assoc rate nanos unity))
    (within_then (2 ^ 50) (product nanos rate * 1000000000) (seconds nanos * 1000000000 * rate) (nanos * unity * rate) (lit≤ tt)
    (subst (λ (z : ℕ). Within (2 ^ 52) (product nanos rate * 1000000000) z) (mul_right_comm (seconds nanos) rate 1000000000)
    (within_scale (2 ^ 52) (product nanos rate) (seconds nanos * rate) 1000000000 (within_double (2 ^ 52) (product nanos rate) (seconds nanos * rate) (rounded_near nanos rate))))
    (within_scale (2 ^ 51) (seconds nanos * 1000000000) (nanos * unity) rate (seconds_near nanos)))

module _ (nanos rate : ℕ) (Q : nanos / 1000000000 ≤ 2 ^ 53) (R : rate ≤ 2 ^ 53) where
  product_small : seconds nanos * rate * 2 < 2 ^ suc (emax binary64) * unity
  product_small = far (2 ^ 110) (seconds nanos * rate * 2) unity (lit≤ tt) (below (seconds nanos * rate) unity unity_pos (mul-le-mul (seconds_le nanos Q) R))
    where
      below : (y u : ℕ) → 0 < u → y ≤ u * 2 ^ 55 * 2 ^ 53 → y * 2 < 2 ^ 110 * u
      below y u U h = omega arith

  product-has : HasValue (mul binary64 (seconds_of nanos) (of_int binary64 (pos rate))) false (product nanos rate) unity
  unfolding product unity
  product-has = mul_has binary64 (seconds_of nanos) (of_int binary64 (pos rate)) (seconds nanos) rate (seconds_has nanos Q) (of_int_value binary64 rate R) product_small

  credit-is : credit nanos rate ≡ min (product nanos rate / unity) (2 ^ 64 - 1)
  unfolding credit
  credit-is = to_unsigned_value 64 (mul binary64 (seconds_of nanos) (of_int binary64 (pos rate))) (product nanos rate) unity unity_pos product-has

  -- where the exact product of the rounded seconds reaches n, the rounded one does
  product-reaches : (n : ℕ) → n ≤ 2 ^ 53 → n * unity ≤ seconds nanos * rate → n * unity ≤ product nanos rate
  unfolding product unity
  product-reaches n h l = grid_reaches binary64 n (seconds nanos * rate) unity unity_pos h (round_has binary64 (seconds nanos * rate) unity unity_pos product_small) l

-- a time is no more than itself times the rate
timed : (nanos rate : ℕ) → 1 ≤ rate → nanos ≤ rate * nanos
timed nanos rate P = le_trans (le_of_eq (sym (one-mul nanos))) (mul-le-mul_right nanos P)

-- ---- The credit is within k billionths of a byte of the exact one, as long as that is below 2 ^ 50 * (k + 1) billionths. So k is 0 up to a million bytes.
module _ (k nanos rate : ℕ) (K : k ≤ 1000000000) (P : 1 ≤ rate) (R : rate ≤ 2 ^ 53) (X : rate * nanos < 2 ^ 50 * suc k) where
  short : nanos / 1000000000 ≤ 2 ^ 53
  short = go (rate * nanos) (timed nanos rate P) X
    where
      go : (x : ℕ) → nanos ≤ x → x < 2 ^ 50 * suc k → nanos / 1000000000 ≤ 2 ^ 53
      go x h l = omega arith

  pub credit_above : credit nanos rate * 1000000000 ≤ rate * nanos + k
  credit_above =
      go (credit nanos rate) (product nanos rate / unity) (rate * nanos + k) (credit-is nanos rate short R)
      (within_above (2 ^ 50) 1000000000 (rate * nanos) (product nanos rate) unity k unity_pos (product_near nanos rate) X (product nanos rate / unity) (div-mul-le_self (product nanos rate) unity))
    where
      go : (c m y : ℕ) → c ≡ min m (2 ^ 64 - 1) → m * 1000000000 ≤ y → c * 1000000000 ≤ y
      go c m y e h = omega arith

  -- what is cut off is less than one byte
  pub credit_below : rate * nanos ≤ (credit nanos rate + 1) * 1000000000 + k
  credit_below =
      go (credit nanos rate) (product nanos rate / unity) (rate * nanos) (credit-is nanos rate short R) X
      (within_below (2 ^ 50) 1000000000 (rate * nanos) (product nanos rate) unity k unity_pos (product_near nanos rate) X (product nanos rate / unity + 1) (next (product nanos rate) unity unity_pos))
    where
      next : (z u : ℕ) → 0 < u → z ≤ (z / u + 1) * u
      next z u U = omega (arith, mod-lt z U, div-add-mod' z u, add-mul (z / u) 1 u)

      go : (c m x : ℕ) → c ≡ min m (2 ^ 64 - 1) → x < 2 ^ 50 * suc k → x ≤ (m + 1) * 1000000000 + k → x ≤ (c + 1) * 1000000000 + k
      go c m x e l h = omega arith

-- no time gives nothing
pub credit-none : (rate : ℕ) → 1 ≤ rate → rate ≤ 1000000000 → credit 0 rate ≡ 0
credit-none rate P R = go (credit 0 rate) (rate * 0) (mul-zero rate) (credit_above 0 0 rate (omega arith) P (omega arith) (omega (arith, mul-zero rate)))
  where
    go : (c x : ℕ) → x ≡ 0 → c * 1000000000 ≤ x + 0 → c ≡ 0
    go c x e h = omega arith

-- ---- with a capacity that cuts the rest
credit_by : (k nanos rate cap : ℕ) → k ≤ 1000000000 → 1 ≤ rate → rate ≤ 2 ^ 53 → cap * 1000000000 ≤ 2 ^ 50 * suc k → min (credit nanos rate) cap * 1000000000 ≤ rate * nanos + k
credit_by k nanos rate cap K P R C = go (leb (2 ^ 50 * suc k) (rate * nanos)) (leb→le (2 ^ 50 * suc k) (rate * nanos)) (nleb→lt (2 ^ 50 * suc k) (rate * nanos))
  where
    full : (c x : ℕ) → 2 ^ 50 * suc k ≤ x → min c cap * 1000000000 ≤ x + k
    full c x h = omega arith

    all : (c y : ℕ) → c * 1000000000 ≤ y → min c cap * 1000000000 ≤ y
    all c y h = omega arith

    go : (b : Bool) → (T b → 2 ^ 50 * suc k ≤ rate * nanos) → (T (not b) → rate * nanos < 2 ^ 50 * suc k) → min (credit nanos rate) cap * 1000000000 ≤ rate * nanos + k
    go true h l = full (credit nanos rate) (rate * nanos) (h tt)
    go false h l = all (credit nanos rate) (rate * nanos + k) (credit_above k nanos rate K P R (l tt))

-- at most one byte more, for any capacity up to 2 ^ 50
pub credit-at_most : (nanos rate cap : ℕ) → 1 ≤ rate → rate ≤ 1000000000 → cap ≤ 2 ^ 50 → min (credit nanos rate) cap * 1000000000 ≤ rate * nanos + 1000000000
credit-at_most nanos rate cap P R C = credit_by 1000000000 nanos rate cap (omega arith) P (omega arith) (omega arith)

-- nothing more, for a capacity up to a million
-- Stays: docs/GUARANTEES.md names it.
pub credit-at_most-small : (nanos rate cap : ℕ) → 1 ≤ rate → rate ≤ 1000000000 → cap ≤ 1000000 → min (credit nanos rate) cap * 1000000000 ≤ rate * nanos
credit-at_most-small nanos rate cap P R C = omega (arith, credit_by 0 nanos rate cap (omega arith) P (omega arith) (omega arith))

-- at most two bytes less, where it is up to 2 ^ 50
-- Stays: docs/GUARANTEES.md names it.
pub credit_at_least : (nanos rate : ℕ) → 1 ≤ rate → rate ≤ 1000000000 → rate * nanos ≤ 2 ^ 50 * 1000000000 → rate * nanos ≤ (credit nanos rate + 2) * 1000000000
credit_at_least nanos rate P R X = omega (arith, credit_below 1000000000 nanos rate (omega arith) P (omega arith) (omega arith))

-- ---- a later time gives no less credit
module _ (nanos later rate : ℕ) (l : nanos ≤ later) (Q : later / 1000000000 ≤ 2 ^ 53) (R : rate ≤ 2 ^ 53) where
  before : nanos / 1000000000 ≤ 2 ^ 53
  before = omega arith

  product-order : product nanos rate ≤ product later rate
  unfolding product unity
  product-order =
      grid_order binary64 (seconds nanos * rate) unity (seconds later * rate) unity unity_pos unity_pos
      (round_has binary64 (seconds nanos * rate) unity unity_pos (product_small nanos rate before R)) (round_has binary64 (seconds later * rate) unity unity_pos (product_small later rate Q R))
      (mul-le-mul_right unity (mul-le-mul_right rate (seconds_order nanos later l Q)))

  pub credit_order : credit nanos rate ≤ credit later rate
  credit_order =
      go (credit nanos rate) (credit later rate) (product nanos rate / unity) (product later rate / unity) (credit-is nanos rate before R) (credit-is later rate Q R)
      (div_mono (product nanos rate) unity (product later rate) unity unity_pos unity_pos (mul-le-mul_right unity product-order))
    where
      go : (c d m n : ℕ) → c ≡ min m (2 ^ 64 - 1) → d ≡ min n (2 ^ 64 - 1) → m ≤ n → c ≤ d
      go c d m n e f h = omega arith

-- ---- one nanosecond after the wait
module _ (bytes rate nanos : ℕ) (P : 1 ≤ rate) (R : rate ≤ 2 ^ 53) (N : bytes ≤ 1000000) (D : nanos < 2 ^ 64) (l : wait_of bytes rate + 1 ≤ nanos) where
  -- exactly, there is room for half a nanosecond
  waited : bytes * 1000000000 * 2 + rate ≤ nanos * rate * 2
  waited = go (wait_of bytes rate) (wait_half bytes rate P R N) l
    where
      go : (w : ℕ) → Half w (bytes * 1000000000) rate → w + 1 ≤ nanos → bytes * 1000000000 * 2 + rate ≤ nanos * rate * 2
      go w h l = omega (arith, h.below, mul-le-mul_right rate l, add-mul w 1 rate)

  -- so the rounded seconds still reach it
  reached : bytes * unity ≤ seconds nanos * rate
  reached =
      within-enough (2 ^ 51 - 1) 1000000000 (bytes * unity) (rate * unity) (nanos * unity * rate) (seconds nanos * rate) (lit≤ tt)
      (subst (λ (z : ℕ). Within (2 ^ 51) z (nanos * unity * rate)) (mul_right_comm (seconds nanos) 1000000000 rate) (within_scale (2 ^ 51) (seconds nanos * 1000000000) (nanos * unity) rate (seconds_near nanos)))
      (times unity) (margin (bytes * unity) (rate * unity) unity (mul-le-mul_right unity N) (timed unity rate P))
    where
      times : (u : ℕ) → bytes * u * 1000000000 * 2 + rate * u ≤ nanos * u * rate * 2
      times u = omega (arith, mul-le-mul_right u waited, add-mul (bytes * 1000000000 * 2) rate u, mul_right_comm (bytes * 1000000000) 2 u, mul_right_comm bytes 1000000000 u, mul_right_comm (nanos * rate) 2 u, mul_right_comm nanos rate u)

      margin : (n r u : ℕ) → n ≤ 1000000 * u → u ≤ r → n * 1000000000 * 2 ≤ r * (2 ^ 51 - 1)
      margin n r u a b = omega arith

  enough : bytes ≤ credit nanos rate
  enough =
      go (credit nanos rate) (product nanos rate / unity) (credit-is nanos rate (omega arith) R)
      ((le-div_iff_mul-le unity_pos).1 (product-reaches nanos rate (omega arith) R bytes (omega arith) reached))
    where
      go : (c m : ℕ) → c ≡ min m (2 ^ 64 - 1) → bytes ≤ m → bytes ≤ c
      go c m e h = omega arith

-- the same at the sizes of the domain
pub wait_enough : (bytes rate nanos : ℕ) → 1 ≤ rate → rate ≤ 1000000000 → bytes ≤ 1500 → nanos ≤ 2 ^ 62 → wait_of bytes rate + 1 ≤ nanos → bytes ≤ credit nanos rate
wait_enough bytes rate nanos P R N D l = enough bytes rate nanos P (omega arith) (omega arith) (omega arith) l

-- that nanosecond is needed: 59 bytes at 3,643,934 a second are told 16,191 ns, where the credit is 58
-- Stays: docs/GUARANTEES.md names it.
pub wait_short : (wait_of 59 3643934 ≡ 16191) × (credit 16191 3643934 ≡ 58)
unfolding wait_of credit add mul div of_int of_bits to_unsigned
wait_short = (refl, refl)

-- and a credit can be above the exact one: 885,105,339 * 96,904,233 is 13 less than 85,770,454 * 10 ^ 9
-- Stays: docs/GUARANTEES.md names it.
pub credit-over : credit 96904233 885105339 ≡ 85770454
unfolding credit add mul div of_int of_bits to_unsigned
credit-over = refl
