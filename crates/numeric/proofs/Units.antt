-- Roundings in units of the format's smallest value, 2 ^ -low: sums, products with a whole number and quotients of whole numbers, as long as nothing overflows.
-- `Roundings` says how far each is from the exact result. The format is a parameter. Assumes nothing.
-- Stays: what Seconds and the laws of credits and waits cite; std has the rounding in units (`grid`), and not the sums and products in them.
use Rattle.std.proofs.Common.{ℕ, suc, ◌+◌, ◌*◌, ◌^◌, ◌<◌, ◌≤◌, false, sym, ap, ◌∙◌, subst, le_trans, le_of_eq, lt_of_lt_of_le, lt_of_le_of_lt, zero-lt-suc, mul_assoc, mul_comm, lt_of_mul-lt-mul_right, mul-lt-mul_of_pos_right, mul-pos, one-mul, mul-one, mul_right_comm, le_of_mul-le-mul_right, pow_pos, pow-add}
use lib.Ieee.{Float, Format, prec, emax, low, round, add, mul, div}
use lib.Ieee.Back.{round_whole}
use lib.Ieee.Exact.{HasValue}
use lib.Ieee.Order.{drop, kept}
use lib.Ieee.Scale.{grid, round_val}
use Rattle.numeric.proofs.Fractions.{div_value, round_order}
use Rattle.numeric.proofs.Halves.{closest_half, half_twice}
use Rattle.numeric.proofs.Values.{add_value, mul_value}

module _ (f : Format) where
  -- g units
  abbrev pub Has : Float → ℕ → Type 0
  Has x g = HasValue x false g (2 ^ low f)

  -- a rounded fraction is at most twice the exact one
  grid-twice : (a c : ℕ) → 0 < c → grid f a c * c ≤ a * 2 ^ low f * 2
  grid-twice a c C =
      let n = a * 2 ^ low f in
      let k = drop (prec f) n c in
      let v = kept (prec f) n c in
      le_trans (le_of_eq (mul_assoc v (2 ^ k) c ∙ ap (λ (z : ℕ). v * z) (mul_comm (2 ^ k) c))) (half_twice v n (c * 2 ^ k) (closest_half n (c * 2 ^ k) (mul-pos C (pow_pos k))))

  -- a fraction below half of the range does not overflow
  pub round_has : (a c : ℕ) → 0 < c → a * 2 < 2 ^ suc (emax f) * c → Has (round f false a c) (grid f a c)
  round_has a c C h =
      let L = 2 ^ low f in
      round_val f a c
      (lt_of_mul-lt-mul_right c
      (lt_of_le_of_lt (grid-twice a c C)
      (lt_of_le_of_lt (le_of_eq (mul_right_comm a L 2))
      (lt_of_lt_of_le (mul-lt-mul_of_pos_right h (pow_pos (low f)))
      (le_of_eq (mul_right_comm (2 ^ suc (emax f)) c L ∙ ap (λ (z : ℕ). z * c) (mul_comm (2 ^ suc (emax f)) L ∙ sym (pow-add 2 (low f) (suc (emax f))))))))))

  -- ---- the operations
  pub add_has : (x y : Float) (q g : ℕ) → HasValue x false q 1 → Has y g → (q * 2 ^ low f + g) * 2 < 2 ^ suc (emax f) * 2 ^ low f → Has (add f x y) (grid f (q * 2 ^ low f + g) (2 ^ low f))
  add_has x y q g h k l =
      let L = 2 ^ low f in
      subst (λ (z : Float). Has z (grid f (q * L + g) L))
      (sym (add_value f x y q 1 g L (zero-lt-suc 0) (pow_pos (low f)) h k ∙ ap (λ (z : ℕ). round f false (q * L + z) (1 * L)) (mul-one g) ∙ ap (λ (z : ℕ). round f false (q * L + g) z) (one-mul L)))
      (round_has (q * L + g) L (pow_pos (low f)) l)

  pub mul_has : (x y : Float) (g r : ℕ) → Has x g → HasValue y false r 1 → g * r * 2 < 2 ^ suc (emax f) * 2 ^ low f → Has (mul f x y) (grid f (g * r) (2 ^ low f))
  mul_has x y g r h k l =
      let L = 2 ^ low f in
      subst (λ (z : Float). Has z (grid f (g * r) L))
      (sym (mul_value f x y g L r 1 (pow_pos (low f)) (zero-lt-suc 0) h k ∙ ap (λ (z : ℕ). round f false (g * r) z) (mul-one L)))
      (round_has (g * r) L (pow_pos (low f)) l)

  pub div_has : (x y : Float) (a b : ℕ) → 0 < b → HasValue x false a 1 → HasValue y false b 1 → a * 2 < 2 ^ suc (emax f) * b → Has (div f x y) (grid f a b)
  div_has x y a b B h k l =
      subst (λ (z : Float). Has z (grid f a b))
      (sym (div_value f x y a 1 b 1 (zero-lt-suc 0) (zero-lt-suc 0) B h k ∙ ap (λ (z : ℕ). round f false z (b * 1)) (mul-one a) ∙ ap (λ (z : ℕ). round f false a z) (mul-one b)))
      (round_has a b B l)

  -- ---- order
  pub grid_order : (a c b d : ℕ) → 0 < c → 0 < d → Has (round f false a c) (grid f a c) → Has (round f false b d) (grid f b d) → a * d ≤ b * c → grid f a c ≤ grid f b d
  grid_order a c b d C D h k l =
      le_of_mul-le-mul_right (round_order f a c b d (grid f a c) (2 ^ low f) (grid f b d) (2 ^ low f) C D (pow_pos (low f)) (pow_pos (low f)) h k l) (pow_pos (low f))

  -- what reaches a whole number still does when it is rounded
  pub grid_reaches : (n b d : ℕ) → 0 < d → n ≤ 2 ^ prec f → Has (round f false b d) (grid f b d) → n * d ≤ b → n * 2 ^ low f ≤ grid f b d
  grid_reaches n b d D h k l =
      le_trans (round_order f n 1 b d n 1 (grid f b d) (2 ^ low f) (zero-lt-suc 0) D (zero-lt-suc 0) (pow_pos (low f)) (round_whole f false n h) k (le_trans l (le_of_eq (sym (mul-one b)))))
      (le_of_eq (mul-one (grid f b d)))

  -- and what stays up to one still does
  pub grid_stays : (n b d : ℕ) → 0 < d → n ≤ 2 ^ prec f → Has (round f false b d) (grid f b d) → b ≤ n * d → grid f b d ≤ n * 2 ^ low f
  grid_stays n b d D h k l =
      le_trans (le_of_eq (sym (mul-one (grid f b d))))
      (round_order f b d n 1 (grid f b d) (2 ^ low f) n 1 D (zero-lt-suc 0) (pow_pos (low f)) (zero-lt-suc 0) k (round_whole f false n h) (le_trans (le_of_eq (mul-one b)) l))
