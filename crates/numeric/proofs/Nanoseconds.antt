-- Seconds in nanoseconds: 10 ^ 9 is 5 ^ 9 * 2 ^ 9, so x * 10 ^ 9 is the digits of x times 5 ^ 9, over a power of two. Assumes nothing.
-- Stays: what `from_secs_f64` cites; std has nothing of a float in nanoseconds.
use Rattle.std.proofs.Common.{◌≡◌, ℕ, suc, ◌+◌, ◌-◌, ◌*◌, ◌/◌, ◌%◌, ◌^◌, ◌<◌, ◌≤◌, true, false, not, T, eqb, ltb, negsuc, sym, refl, ap, ◌∙◌, subst, mod-eq_of_lt, mul_assoc, one-mul, mul-one, mul_right_comm, arith, lit≤, nltb→le, pow_pos, pow-add, le-ltb, lt-ltb}
use Rattle.std.specs.Float.{two_to}
use Prim.Native.Nat.{compare}
use native.Mathlib.Nat.{div-eq_of_lt, eq_of_mul-eq-mul_right}
use lib.Ieee.{Float, nan, inf, fin, binary64, hid, up, down, fits, is_nan, lt, le, eq, to_bits}
use lib.Ieee.Fits.{down_pos}
use lib.Ieee.Nearest.{closest, closest_same}
use lib.Ieee.Positive.{num, den, positive, den_pos, above_of_le}
use Rattle.numeric.specs.Duration.{nanos_of}
use Rattle.numeric.proofs.Closest.{cmp, less}
use Rattle.numeric.proofs.Fractions.{both-le}
use Rattle.numeric.proofs.Literals.{least_f64, two_to_32_f64}
use Rattle.numeric.proofs.Truncation.{Within, within-small, below_it, neither, b, q, j, v, field, lower, upper}

abbrev pub least : Float
least = fin false 1 (negsuc 30)

in_range : (x : Float) → T (positive x) → num x < 2 ^ 32 * den x → nanos_of x ≡ closest (num x * 1000000000) (den x)
in_range nan p h = absurd p
in_range (inf s) p h = absurd p
in_range (fin true m e) p h = absurd p
in_range (fin false m e) p h = simp (lt-ltb (m * up e) (2 ^ 32 * down e) h)

module _ (x : Float) (F : T (fits binary64 x)) (over : T (le least x)) (under : T (not (le (two_to 32) x))) where
  i : Within 31 32 x
  unfolding is_nan
  i = within-small 30 32 x over (below_it least x (two_to 32) tt over under)

  abbrev bits : ℕ
  bits = to_bits binary64 x

  abbrev pub digits : ℕ
  digits = hid binary64 + bits % hid binary64

  abbrev jj : ℕ
  jj = j binary64 31 32 (lit≤ tt) x F i

  abbrev e : ℕ
  e = bits / hid binary64

  e-is : e ≡ suc jj
  e-is = field binary64 31 32 (lit≤ tt) x F i

  pub e_ge : 992 ≤ e
  e_ge = go e jj e-is (lower binary64 31 32 (lit≤ tt) x F i)
    where
      go : (e j : ℕ) → e ≡ suc j → 1074 < 53 + j + 31 → 992 ≤ e
      go e j p h = omega arith

  pub e_le : e ≤ 1054
  e_le = go e jj e-is (upper binary64 31 32 (lit≤ tt) x F i)
    where
      go : (e j : ℕ) → e ≡ suc j → 52 + j < 1106 → e ≤ 1054
      go e j p h = omega arith

  unit : 2 ^ 1074 ≡ 512 * 2 ^ (1066 - e) * 2 ^ jj
  unit = ap (λ (z : ℕ). 2 ^ z) (go e jj e-is e_le) ∙ pow-add 2 (9 + (1066 - e)) jj ∙ ap (λ (z : ℕ). z * 2 ^ jj) (pow-add 2 9 (1066 - e))
    where
      go : (e j : ℕ) → e ≡ suc j → e ≤ 1054 → 1074 ≡ 9 + (1066 - e) + j
      go e j p h = omega arith

  cancelled : num x * (512 * 2 ^ (1066 - e)) ≡ digits * den x
  cancelled =
      eq_of_mul-eq-mul_right (2 ^ jj) (pow_pos jj) (num x * (512 * 2 ^ (1066 - e))) (digits * den x)
      (mul_assoc (num x) (512 * 2 ^ (1066 - e)) (2 ^ jj) ∙ ap (λ (z : ℕ). num x * z) (sym unit) ∙ v binary64 31 32 (lit≤ tt) x F i ∙ mul_right_comm digits (2 ^ jj) (den x))

  cross : num x * 1000000000 * 2 ^ (1066 - e) ≡ digits * 1953125 * den x
  cross = go (num x) (2 ^ (1066 - e)) digits (den x) cancelled
    where
      go : (n s q d : ℕ) → n * (512 * s) ≡ q * d → n * 1000000000 * s ≡ q * 1953125 * d
      go n s q d h =
          mul_assoc n 1000000000 s ∙ ap (λ (z : ℕ). n * z) (by s) ∙ sym (mul_assoc n (512 * s) 1953125) ∙ ap (λ (z : ℕ). z * 1953125) h ∙ mul_right_comm q d 1953125
        where
          by : (s : ℕ) → 1000000000 * s ≡ 512 * s * 1953125
          by s = omega arith

  -- the shift that the code hands on, which it may take modulo 64
  shift : 12 + (1054 - e) % 64 ≡ 1066 - e
  shift = go e e_ge e_le
    where
      go : (e : ℕ) → 992 ≤ e → e ≤ 1054 → 12 + (1054 - e) % 64 ≡ 1066 - e
      go e a b = omega arith

  nanos-at : closest (digits * 1953125) (2 ^ (1066 - e)) ≡ nanos_of x
  nanos-at = sym (in_range x i.0 i.2 ∙ closest_same (num x * 1000000000) (den x) (digits * 1953125) (2 ^ (1066 - e)) (den_pos x) (pow_pos (1066 - e)) cross)

  pub nanos_are : closest (digits * 1953125) (2 ^ (12 + (1054 - e) % 64)) ≡ nanos_of x
  nanos_are = ap (λ (z : ℕ). closest (digits * 1953125) (2 ^ z)) shift ∙ nanos-at

-- ---- below 2 ^ -31 seconds, and from 2 ^ 32 on
none : (n d : ℕ) → 0 < d → n * 2147483648 ≤ d → closest (n * 1000000000) d ≡ 0
none n d D h =
    let a : n * 1000000000 < d = omega arith in
    let r = mod-eq_of_lt a in
    less (n * 1000000000 / d) (n * 1000000000 % d * 2) d (compare (n * 1000000000 % d * 2) d) (cmp (n * 1000000000 % d * 2) d) (subst (λ (z : ℕ). z * 2 < d) (sym r) (omega arith))
    ∙ div-eq_of_lt a

fewer : (n d : ℕ) → 0 < d → n * 2147483648 ≤ d → n < 4294967296 * d
fewer n d D h = omega arith

pub too_small : (x : Float) → T (not (le least x)) → 0 ≡ nanos_of x
unfolding le lt eq
too_small nan h = refl
too_small (inf true) h = refl
too_small (inf false) h = absurd h
too_small (fin true m e) h = refl
too_small (fin false m e) h =
    let k : m * up e * 2147483648 ≤ down e = simp one-mul at (nltb→le (1 * 1 * down e) (m * up e * 2 ^ 31) (neither (ltb (1 * 1 * down e) (m * up e * 2 ^ 31)) (eqb (1 * 1 * down e) (m * up e * 2 ^ 31)) h).0) in
    sym (simp (lt-ltb (m * up e) (2 ^ 32 * down e) (fewer (m * up e) (down e) (down_pos e) k)) (none (m * up e) (down e) (down_pos e) k))

pub too_long : (x : Float) → T (le (two_to 32) x) → 18446744073709551615 ≡ nanos_of x
unfolding le
too_long nan h = absurd h
too_long (inf true) h = absurd h
too_long (inf false) h = refl
too_long (fin true m e) h = absurd (above_of_le (two_to 32) (fin true m e) tt h)
too_long (fin false m e) h =
    sym (simp (le-ltb (m * up e) (2 ^ 32 * down e) (simp (mul-one, one-mul) at (both-le (1 * 2 ^ 32 * down e) (m * up e * 1) h))))

-- what the goals of `from_secs_f64` cite
pub ruleset waits = (least_f64, two_to_32_f64, e_le, nanos_are, too_small, too_long)
