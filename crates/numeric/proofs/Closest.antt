-- A fraction to the nearest whole number, from its quotient by half the divisor: the last digit of that quotient rounds, and what is left below it breaks ties.
-- And the digits of a float times 5 ^ 9 over a power of two, as `nearest_scaled` works them out. Assumes nothing.
-- Stays: what `nearest_scaled`, Halves and Nanoseconds cite; std has the order of `closest`, and nothing of its digits.
use Rattle.std.proofs.Common.{◌≡◌, ℕ, suc, ◌+◌, ◌*◌, ◌/◌, ◌%◌, ◌^◌, ◌<◌, ◌≤◌, not, T, eqb, sym, refl, ap, ◌∙◌, subst, mod-lt, mul_comm, mul-pos, arith, eqb→eq, leb→le, pow_pos, pow-add}
use Prim.Native.Nat.{compare, Ordering}
use native.Mathlib.Nat.{div-div-eq-div-mul}
use lib.Arith.{lt_of_le-ne, mod-mul}
use lib.Dec.{is_le, compare_is_eq, nleb→lt, eqb_refl}
use lib.Ieee.{nearest}
use lib.Ieee.Nearest.{closest}

-- ---- what `compare` says
abbrev pub Cmp : Ordering → ℕ → ℕ → Type 0
Cmp Ordering.lt a b = a < b
Cmp Ordering.eq a b = a ≡ b
Cmp Ordering.gt a b = b < a

pub cmp : (a b : ℕ) → Cmp (compare a b) a b
cmp a b = go (compare a b) (leb→le a b) (nleb→lt a b) (eqb→eq a b) (λ (e : a ≡ b). subst (λ (x : ℕ). T (eqb a x)) e (eqb_refl a))
  where
    go : (o : Ordering) → (T (is_le o) → a ≤ b) → (T (not (is_le o)) → b < a) → (T (compare_is_eq o) → a ≡ b) → (a ≡ b → T (compare_is_eq o)) → Cmp o a b
    go Ordering.lt h k e n = lt_of_le-ne (h tt) n
    go Ordering.eq h k e n = e tt
    go Ordering.gt h k e n = k tt

pub less : (q a b : ℕ) (o : Ordering) → Cmp o a b → a < b → nearest q o ≡ q
less q a b Ordering.lt h k = refl
less q a b Ordering.eq h k = absurd (omega arith)
less q a b Ordering.gt h k = absurd (omega arith)

more : (q a b : ℕ) (o : Ordering) → Cmp o a b → b < a → nearest q o ≡ suc q
more q a b Ordering.lt h k = absurd (omega arith)
more q a b Ordering.eq h k = absurd (omega arith)
more q a b Ordering.gt h k = refl

same : (q a b : ℕ) (o : Ordering) → Cmp o a b → a ≡ b → nearest q o ≡ q + q % 2
same q a b Ordering.lt h k = absurd (omega arith)
same q a b Ordering.eq h k = refl
same q a b Ordering.gt h k = absurd (omega arith)

-- ---- n / (2 * H), from t = n / H, whose last digit is the round bit, and n % H
module _ (n H : ℕ) (P : 0 < H) where
  abbrev t : ℕ
  t = n / H

  abbrev r : ℕ
  r = n % H

  whole : n / (H * 2) ≡ t / 2
  whole = sym (div-div-eq-div-mul n H 2)

  rest : n % (H * 2) ≡ t % 2 * H + r
  rest = ap (λ (z : ℕ). n % z) (mul_comm H 2) ∙ mod-mul n (omega arith) P

  pub down_at : t % 2 ≡ 0 → closest n (H * 2) ≡ t / 2
  down_at z = less (n / (H * 2)) (n % (H * 2) * 2) (H * 2) (compare (n % (H * 2) * 2) (H * 2)) (cmp (n % (H * 2) * 2) (H * 2)) (go (n % (H * 2)) r (t % 2) rest z (mod-lt n P)) ∙ whole
    where
      go : (a r b : ℕ) → a ≡ b * H + r → b ≡ 0 → r < H → a * 2 < H * 2
      go a r b e z l = let k : a ≡ 0 * H + r = e ∙ ap (λ (y : ℕ). y * H + r) z in omega arith

  pub up_at : t % 2 ≡ 1 → 0 < r → closest n (H * 2) ≡ t / 2 + 1
  up_at z l = more (n / (H * 2)) (n % (H * 2) * 2) (H * 2) (compare (n % (H * 2) * 2) (H * 2)) (cmp (n % (H * 2) * 2) (H * 2)) (go (n % (H * 2)) r (t % 2) rest z l) ∙ ap suc whole ∙ plus (t / 2)
    where
      go : (a r b : ℕ) → a ≡ b * H + r → b ≡ 1 → 0 < r → H * 2 < a * 2
      go a r b e z l = let k : a ≡ 1 * H + r = e ∙ ap (λ (y : ℕ). y * H + r) z in omega arith

      plus : (q : ℕ) → suc q ≡ q + 1
      plus q = omega arith

  pub tie_at : t % 2 ≡ 1 → r ≡ 0 → closest n (H * 2) ≡ t / 2 + t / 2 % 2
  tie_at z l = same (n / (H * 2)) (n % (H * 2) * 2) (H * 2) (compare (n % (H * 2) * 2) (H * 2)) (cmp (n % (H * 2) * 2) (H * 2)) (go (n % (H * 2)) r (t % 2) rest z l) ∙ ap (λ (q : ℕ). q + q % 2) whole
    where
      go : (a r b : ℕ) → a ≡ b * H + r → b ≡ 1 → r ≡ 0 → a * 2 ≡ H * 2
      go a r b e z l = let k : a ≡ 1 * H + r = e ∙ ap (λ (y : ℕ). y * H + r) z in omega arith

-- ---- the product in two parts
abbrev pub low_part : ℕ → ℕ
low_part d = d % 2048 * 1953125

abbrev pub high_part : ℕ → ℕ
high_part d = d / 2048 * 1953125 + low_part d / 2048

high_is : (d : ℕ) → d * 1953125 / 2048 ≡ high_part d
high_is d = omega arith

low_is : (d : ℕ) → d * 1953125 % 2048 ≡ low_part d % 2048
low_is d = omega (arith, high_is d)

none : (x y : ℕ) → x ≡ 0 → y ≡ 0 → x * 2048 + y ≡ 0
none x y a b = omega arith

module _ (d k h : ℕ) (e : h ≡ 2 ^ k) where
  pub pos_h : 0 < h
  pos_h = subst (λ (z : ℕ). 0 < z) (sym e) (pow_pos k)

  pos-H : 0 < h * 2048
  pos-H = mul-pos pos_h (omega arith)

  unit : 2 ^ (12 + k) ≡ h * 2048 * 2
  unit = pow-add 2 12 k ∙ ap (λ (z : ℕ). 4096 * z) (sym e) ∙ twice h
    where
      twice : (h : ℕ) → 4096 * h ≡ h * 2048 * 2
      twice h = omega arith

  quot : d * 1953125 / (h * 2048) ≡ high_part d / h
  quot = ap (λ (z : ℕ). d * 1953125 / z) (mul_comm h 2048) ∙ sym (div-div-eq-div-mul (d * 1953125) 2048 h) ∙ ap (λ (z : ℕ). z / h) (high_is d)

  rem : d * 1953125 % (h * 2048) ≡ high_part d % h * 2048 + low_part d % 2048
  rem = mod-mul (d * 1953125) pos_h (omega arith) ∙ ap (λ (z : ℕ). z % h * 2048 + d * 1953125 % 2048) (high_is d) ∙ ap (λ (z : ℕ). high_part d % h * 2048 + z) (low_is d)

  at : closest (d * 1953125) (2 ^ (12 + k)) ≡ closest (d * 1953125) (h * 2048 * 2)
  at = ap (λ (z : ℕ). closest (d * 1953125) z) unit

  bit : (b : ℕ) → high_part d / h % 2 ≡ b → d * 1953125 / (h * 2048) % 2 ≡ b
  bit b z = ap (λ (y : ℕ). y % 2) quot ∙ z

  pub even_bit : high_part d / h % 2 ≡ 0 → high_part d / h / 2 ≡ closest (d * 1953125) (2 ^ (12 + k))
  even_bit z = sym (at ∙ down_at (d * 1953125) (h * 2048) pos-H (bit 0 z) ∙ ap (λ (y : ℕ). y / 2) quot)

  pub tie_bit : high_part d / h % 2 ≡ 1 → high_part d % h ≡ 0 → low_part d % 2048 ≡ 0 → high_part d / h / 2 + high_part d / h / 2 % 2 ≡ closest (d * 1953125) (2 ^ (12 + k))
  tie_bit z a b = sym (at ∙ tie_at (d * 1953125) (h * 2048) pos-H (bit 1 z) (rem ∙ none (high_part d % h) (low_part d % 2048) a b) ∙ ap (λ (y : ℕ). y / 2 + y / 2 % 2) quot)

  pub odd_bit : high_part d / h % 2 ≡ 1 → 0 < high_part d % h * 2048 + low_part d % 2048 → high_part d / h / 2 + 1 ≡ closest (d * 1953125) (2 ^ (12 + k))
  odd_bit z a = sym (at ∙ up_at (d * 1953125) (h * 2048) pos-H (bit 1 z) (subst (λ (y : ℕ). 0 < y) (sym rem) a) ∙ ap (λ (y : ℕ). y / 2 + 1) quot)
