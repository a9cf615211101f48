-- Relative errors: `Within p v n` says that v and n differ by at most the p-th part of n. How such errors add up, and what they leave of whole numbers. Assumes nothing.
-- Stays: what Roundings, Seconds and the credit's laws cite (pacing/proofs/Credit, Waits); std has no relative errors.
use Rattle.std.proofs.Common.{◌≡◌, ℕ, suc, ◌+◌, ◌*◌, ◌<◌, ◌≤◌, sym, ap, ◌∙◌, subst, le_trans, le_of_eq, lt_of_lt_of_le, le_of_suc-le-suc, mul-le-mul_right, mul_assoc, suc-mul, mul_comm, add-mul, lt_of_mul-lt-mul_right, mul-le-mul_left, mul-lt-mul_of_pos_right, mul-pos, mul-one, mul-suc, mul_right_comm, le_of_mul-le-mul_right, mul_left_comm, arith}
use native.Mathlib.Nat.{mul-mul-mul_comm}
use Rattle.numeric.proofs.Halves.{Half}

pub record Within (p v n : ℕ) : Type 0 where
  pub above : v * p ≤ n * p + n
  pub below : n * p ≤ v * p + n

-- what is the same differs by nothing
pub within_same : (p v n : ℕ) → v ≡ n → Within p v n
within_same p v n e = subst (λ (z : ℕ). Within p z n) (sym e) (record { above = omega arith; below = omega arith })

-- v * u is within half of u of n, and half of u is at most the (2 * h)-th part of n
pub within_half : (v n u h : ℕ) → Half v n u → u * h ≤ n → Within (h * 2) (v * u) n
within_half v n u h H l =
    let a : v * u * 2 * h ≤ n * 2 * h + u * h = le_trans (mul-le-mul_right h H.above) (le_of_eq (add-mul (n * 2) u h)) in
    let b : n * 2 * h ≤ v * u * 2 * h + u * h = le_trans (mul-le-mul_right h H.below) (le_of_eq (add-mul (v * u * 2) u h)) in
    record { above = omega (arith, twice (v * u) h, twice n h); below = omega (arith, twice (v * u) h, twice n h) }
  where
    twice : (x h : ℕ) → x * 2 * h ≡ x * (h * 2)
    twice x h = mul_assoc x 2 h ∙ ap (λ (z : ℕ). x * z) (mul_comm 2 h)

-- both times r, and both without it
pub within_scale : (p v n r : ℕ) → Within p v n → Within p (v * r) (n * r)
within_scale p v n r w =
    record {
      above = omega (arith, mul-le-mul_right r w.above, add-mul (n * p) n r, mul_right_comm v p r, mul_right_comm n p r);
      below = omega (arith, mul-le-mul_right r w.below, add-mul (v * p) n r, mul_right_comm v p r, mul_right_comm n p r);
    }

pub within_cancel : (p v n r : ℕ) → 0 < r → Within p (v * r) (n * r) → Within p v n
within_cancel p v n r R w =
    record {
      above = le_of_mul-le-mul_right (omega (arith, w.above, add-mul (n * p) n r, mul_right_comm v p r, mul_right_comm n p r)) R;
      below = le_of_mul-le-mul_right (omega (arith, w.below, add-mul (v * p) n r, mul_right_comm v p r, mul_right_comm n p r)) R;
    }

-- a coarser part
pub within_double : (p v n : ℕ) → Within (p * 2) v n → Within p v n
within_double p v n w = record { above = omega (arith, w.above, mul_assoc v p 2, mul_assoc n p 2); below = omega (arith, w.below, mul_assoc v p 2, mul_assoc n p 2) }

-- v is at most twice n
pub within-twice : (p v n : ℕ) → 0 < p → Within p v n → v ≤ n * 2
within-twice p v n P w = le_of_mul-le-mul_right (omega (arith, w.above, one_more, mul_right_comm n 2 p)) P
  where
    one_more : n ≤ n * p
    one_more = le_trans (le_of_eq (sym (mul-one n))) (mul-le-mul_left n P)

-- ---- two roundings, one after the other
-- z is near v, which is near n
pub within_then : (h z v n : ℕ) → 0 < h → Within (h * 4) z v → Within (h * 2) v n → Within h z n
within_then h z v n H a b =
    let t : v ≤ n * 2 = within-twice (h * 2) v n (mul-pos H (omega arith)) b in
    record {
      above = omega (arith, a.above, b.above, mul_assoc z h 4, mul_assoc v h 4, mul_assoc v h 2, mul_assoc n h 2);
      below = omega (arith, a.below, b.below, mul_assoc z h 4, mul_assoc v h 4, mul_assoc v h 2, mul_assoc n h 2);
    }

-- d is near r / b, and s near q + d, both in units of 1 / L: so s is near q + r / b
pub within-sum : (h b q r L d s : ℕ) → 0 < h → Within (h * 4) (d * b) (r * L) → Within (h * 4) s (q * L + d) → Within h (s * b) ((q * b + r) * L)
within-sum h b q r L d s H u v =
    let t : d * b ≤ r * L * 2 = within-twice (h * 4) (d * b) (r * L) (mul-pos H (omega arith)) u in
    let w : Within (h * 4) (s * b) (q * L * b + d * b) = subst (λ (z : ℕ). Within (h * 4) (s * b) z) (add-mul (q * L) d b) (within_scale (h * 4) s (q * L + d) b v) in
    subst (λ (z : ℕ). Within h (s * b) z) (ap (λ (z : ℕ). z + r * L) (mul_right_comm q L b) ∙ sym (add-mul (q * b) r L)) (go (s * b) (q * L * b) (d * b) (r * L) t u w)
  where
    go : (s x d y : ℕ) → d ≤ y * 2 → Within (h * 4) d y → Within (h * 4) s (x + d) → Within h s (x + y)
    go s x d y t u w =
        record {
          above = omega (arith, u.above, w.above, mul_assoc s h 4, mul_assoc d h 4, mul_assoc y h 4, mul_assoc (x + d) h 4, add-mul x d h, add-mul x y h);
          below = omega (arith, u.below, w.below, mul_assoc s h 4, mul_assoc d h 4, mul_assoc y h 4, mul_assoc (x + d) h 4, add-mul x d h, add-mul x y h);
        }

-- ---- what a near value says of whole numbers: z / L is near x / b, and x is below h * (k + 1)
module _ (h b x z L k : ℕ) (P : 0 < L) (w : Within h (z * b) (x * L)) (K : x < h * suc k) where
  gap : x * L < suc k * (L * h)
  gap = lt_of_lt_of_le (mul-lt-mul_of_pos_right K P) (le_of_eq (mul_right_comm h (suc k) L ∙ mul_comm (h * L) (suc k) ∙ ap (λ (y : ℕ). suc k * y) (mul_comm h L)))

  -- a whole number c that z / L reaches
  pub within_above : (c : ℕ) → c * L ≤ z → c * b ≤ x + k
  within_above c l =
      le_of_suc-le-suc (lt_of_mul-lt-mul_right (L * h) (omega (arith, w.above, gap, mul-le-mul_right (b * h) l, mul-mul-mul_comm c L b h, sym (mul_assoc z b h), mul_assoc x L h, suc-mul (x + k) (L * h), add-mul x k (L * h), suc-mul k (L * h))))

  -- a whole number c that z / L does not exceed
  pub within_below : (c : ℕ) → z ≤ c * L → x ≤ c * b + k
  within_below c l =
      le_of_suc-le-suc (lt_of_mul-lt-mul_right (L * h) (omega (arith, w.below, gap, mul-le-mul_right (b * h) l, mul-mul-mul_comm c L b h, sym (mul_assoc z b h), mul_assoc x L h, suc-mul (c * b + k) (L * h), add-mul (c * b) k (L * h), suc-mul k (L * h))))

-- y / L is near n / r, and v is the whole number nearest to y * b / L. Where n is small enough, v is within a half of n * b / r too.
pub within_nearest : (p b n r L y v : ℕ) → 0 < L → n * b * 2 < p → Within p (y * r) (n * L) → Half v (y * b) L → Half v (n * b) r
within_nearest p b n r L y v P l w h =
    record {
      above = le_of_suc-le-suc (lt_of_mul-lt-mul_right (L * p) (omega (arith, up, over, small, at (v * r), suc-mul (n * b * 2 + r) (L * p), add-mul (n * b * 2) r (L * p), at (n * b))));
      below = le_of_suc-le-suc (lt_of_mul-lt-mul_right (L * p) (omega (arith, down, under, small, at (v * r), suc-mul (v * r * 2 + r) (L * p), add-mul (v * r * 2) r (L * p), at (n * b))));
    }
  where
    at : (x : ℕ) → x * 2 * (L * p) ≡ x * (L * p) * 2
    at x = mul_right_comm x 2 (L * p)

    small : n * b * L * 2 < L * p
    small = subst (λ (z : ℕ). z < L * p) (mul_right_comm (n * b) 2 L) (subst (λ (z : ℕ). n * b * 2 * L < z) (mul_comm p L) (mul-lt-mul_of_pos_right l P))

    mid : (x : ℕ) → x * b * 2 * (r * p) ≡ x * r * p * b * 2
    mid x = simp (mul_assoc, mul_comm, mul_left_comm)

    side : (x : ℕ) → x * L * 2 * (r * p) ≡ x * r * (L * p) * 2
    side x = simp (mul_assoc, mul_comm, mul_left_comm)

    one : L * (r * p) ≡ r * (L * p)
    one = mul_left_comm L r p

    ends : n * L * p * b ≡ n * b * (L * p)
    ends = simp (mul_assoc, mul_comm, mul_left_comm)

    up : v * r * (L * p) * 2 ≤ y * r * p * b * 2 + r * (L * p)
    up = omega (arith, mul-le-mul_right (r * p) h.above, side v, mid y, one, add-mul (y * b * 2) L (r * p))

    down : y * r * p * b * 2 ≤ v * r * (L * p) * 2 + r * (L * p)
    down = omega (arith, mul-le-mul_right (r * p) h.below, side v, mid y, one, add-mul (v * L * 2) L (r * p))

    over : y * r * p * b ≤ n * b * (L * p) + n * b * L
    over = omega (arith, mul-le-mul_right b w.above, ends, mul_right_comm n L b, add-mul (n * L * p) (n * L) b)

    under : n * b * (L * p) ≤ y * r * p * b + n * b * L
    under = omega (arith, mul-le-mul_right b w.below, ends, mul_right_comm n L b, add-mul (y * r * p) (n * L) b)

-- s is near x / b, and x / b is n and half of r / b at least: s reaches n, where the half makes good what the rounding lost
pub within-enough : (g b n r x s : ℕ) → 0 < b → Within (suc g) (s * b) x → n * b * 2 + r ≤ x * 2 → n * b * 2 ≤ r * g → n ≤ s
within-enough g b n r x s B w l m = le_of_mul-le-mul_right (le_of_mul-le-mul_right (go (n * b) (s * b) (mul-le-mul_right g l) w.below m) (omega arith)) B
  where
    go : (n s : ℕ) → (n * 2 + r) * g ≤ x * 2 * g → x * suc g ≤ s * suc g + x → n * 2 ≤ r * g → n * suc g ≤ s * suc g
    go n s c d m = omega (arith, mul-suc n g, mul-suc x g, add-mul (n * 2) r g, mul_right_comm n 2 g, mul_right_comm x 2 g)
