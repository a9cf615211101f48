-- How far rounding goes. `grid f a c` is a / c rounded, in units of the format's smallest value 2 ^ -low, so exactly it would be a * 2 ^ low / c.
-- In the normal range the two differ by at most a 2 ^ prec-th part of the exact one. Whole multiples of the smallest value do so in any range. The format is a parameter. Assumes nothing.
-- Stays: what Seconds and the laws of credits and waits cite (pacing/proofs); std does not say how far a rounding goes.
use Rattle.std.proofs.Common.{◌≡◌, ℕ, zero, suc, ◌+◌, ◌-◌, ◌*◌, ◌/◌, ◌^◌, ◌<◌, ◌≤◌, Bool, true, false, not, T, leb, sym, ap, ◌∙◌, subst, le_trans, le_of_eq, mul_assoc, suc-mul, mul_comm, add-mul, mul-pos, pow-suc, le-div_iff_mul-le, zero-mul, mul-one, mul_right_comm, le_of_mul-le-mul_right, mul-div_cancel, arith, leb→le, pow_pos, pow-add}
use lib.Dec.{nleb→lt}
use lib.Ieee.{Format, prec, low, size}
use lib.Ieee.Digits.{size_reaches}
use lib.Ieee.Fits.{two, two-le_pos}
use lib.Ieee.Nearest.{closest}
use lib.Ieee.Order.{drop, kept}
use lib.Ieee.Scale.{grid, normal_of_fraction}
use Rattle.numeric.proofs.Errors.{Within, within_same, within_half, within_cancel}
use Rattle.numeric.proofs.Halves.{Half, closest_half}

-- ---- in the normal range
-- u = c * 2 ^ drop is the weight of the last digit that is kept
last-small : (p n c : ℕ) → 0 < p → 0 < c → p ≤ size (n / c) → c * 2 ^ drop p n c * 2 ^ (p - 1) ≤ n
last-small p n c P C N =
    let k = drop p n c in
    le_trans (le_of_eq (mul_assoc c (2 ^ k) (2 ^ (p - 1)) ∙ mul_comm c (2 ^ k * 2 ^ (p - 1)) ∙ ap (λ (z : ℕ). z * c) (mul_comm (2 ^ k) (2 ^ (p - 1)) ∙ sym (pow-add 2 (p - 1) k))))
    ((le-div_iff_mul-le C).0 (size_reaches (n / c) (p - 1 + k) (all (size (n / c)) p P N)))
  where
    all : (z p : ℕ) → 0 < p → p ≤ z → p - 1 + (z - p) < z
    all z p P N = omega arith

-- half of a power of two
half_pow : (p : ℕ) → 0 < p → 2 ^ (p - 1) * 2 ≡ 2 ^ p
half_pow p P = sym (pow-suc 2 (p - 1)) ∙ ap (λ (z : ℕ). 2 ^ z) (back p P)
  where
    back : (p : ℕ) → 0 < p → suc (p - 1) ≡ p
    back p P = omega arith

module _ (f : Format) where
  digits : 0 < prec f
  digits = two-le_pos (prec f) (two f)

  near-normal : (a c : ℕ) → 0 < c → prec f ≤ size (a * 2 ^ low f / c) → Within (2 ^ prec f) (grid f a c * c) (a * 2 ^ low f)
  near-normal a c C N =
      let n = a * 2 ^ low f in
      let k = drop (prec f) n c in
      let v = kept (prec f) n c in
      let e : v * (c * 2 ^ k) ≡ v * 2 ^ k * c = ap (λ (z : ℕ). v * z) (mul_comm c (2 ^ k)) ∙ sym (mul_assoc v (2 ^ k) c) in
      subst (λ (z : ℕ). Within (2 ^ prec f) z n) e
      (subst (λ (z : ℕ). Within z (v * (c * 2 ^ k)) n) (half_pow (prec f) digits)
      (within_half v n (c * 2 ^ k) (2 ^ (prec f - 1)) (closest_half n (c * 2 ^ k) (mul-pos C (pow_pos k))) (last-small (prec f) n c digits C N)))

  -- ---- a whole number a of the smallest units: with few digits it is exact, and with any number of them near
  grid-units : (a : ℕ) → size a < prec f → grid f a (2 ^ low f) ≡ a
  grid-units a h =
      let L = 2 ^ low f in
      let k : drop (prec f) (a * L) L ≡ 0 = ap (λ (z : ℕ). size z - prec f) (mul-div_cancel a (pow_pos (low f))) ∙ few (size a) (prec f) h in
      ap (λ (z : ℕ). closest (a * L) (L * 2 ^ z) * 2 ^ z) k ∙ mul-one (closest (a * L) (L * 1))
      ∙ ap (λ (z : ℕ). closest (a * L) z) (mul-one L) ∙ whole (closest (a * L) L) a L (pow_pos (low f)) (closest_half (a * L) L (pow_pos (low f)))
    where
      few : (z p : ℕ) → z < p → z - p ≡ 0
      few z p h = omega arith

      whole : (v a L : ℕ) → 0 < L → Half v (a * L) L → v ≡ a
      whole v a L P H =
          let x : (v * 2) * L ≤ (a * 2 + 1) * L = omega (arith, H.above, add-mul (a * 2) 1 L, mul_right_comm v 2 L, mul_right_comm a 2 L) in
          let y : (a * 2) * L ≤ (v * 2 + 1) * L = omega (arith, H.below, add-mul (v * 2) 1 L, mul_right_comm v 2 L, mul_right_comm a 2 L) in
          omega (arith, le_of_mul-le-mul_right x P, le_of_mul-le-mul_right y P)

  pub near_units : (a : ℕ) → Within (2 ^ prec f) (grid f a (2 ^ low f)) a
  near_units a = go (leb (prec f) (size a)) (leb→le (prec f) (size a)) (nleb→lt (prec f) (size a))
    where
      go : (b : Bool) → (T b → prec f ≤ size a) → (T (not b) → size a < prec f) → Within (2 ^ prec f) (grid f a (2 ^ low f)) a
      go true h k =
          within_cancel (2 ^ prec f) (grid f a (2 ^ low f)) a (2 ^ low f) (pow_pos (low f))
          (near-normal a (2 ^ low f) (pow_pos (low f)) (subst (λ (z : ℕ). prec f ≤ size z) (sym (mul-div_cancel a (pow_pos (low f)))) (h tt)))
      go false h k = within_same (2 ^ prec f) (grid f a (2 ^ low f)) a (grid-units a (k tt))

  -- ---- nothing rounds to nothing
  grid-zero : (c : ℕ) → 0 < c → grid f 0 c ≡ 0
  grid-zero c C =
      let k = drop (prec f) (0 * 2 ^ low f) c in
      ap (λ (z : ℕ). z * 2 ^ k)
      (none (kept (prec f) (0 * 2 ^ low f) c) (0 * 2 ^ low f) (c * 2 ^ k) (zero-mul (2 ^ low f)) (mul-pos C (pow_pos k)) (closest_half (0 * 2 ^ low f) (c * 2 ^ k) (mul-pos C (pow_pos k))))
      ∙ zero-mul (2 ^ k)
    where
      none : (v n u : ℕ) → n ≡ 0 → 0 < u → Half v n u → v ≡ 0
      none v n u e U H =
          let x : v * 2 * u ≤ 1 * u = omega (arith, H.above, mul_right_comm v 2 u) in
          omega (arith, le_of_mul-le-mul_right x U)

  -- ---- over a denominator that is not too large every fraction is 0 or in the normal range
  pub near_fraction : (a c : ℕ) → 0 < c → 2 ^ (prec f - 1) * c ≤ 2 ^ low f → Within (2 ^ prec f) (grid f a c * c) (a * 2 ^ low f)
  near_fraction zero c C h = within_same (2 ^ prec f) (grid f 0 c * c) (0 * 2 ^ low f) (ap (λ (z : ℕ). z * c) (grid-zero c C) ∙ zero-mul c ∙ sym (zero-mul (2 ^ low f)))
  near_fraction (suc a) c C h = near-normal (suc a) c C (normal_of_fraction f (suc a) c C (le_trans h (more (2 ^ low f))))
    where
      more : (L : ℕ) → L ≤ suc a * L
      more L = omega (arith, suc-mul a L)
