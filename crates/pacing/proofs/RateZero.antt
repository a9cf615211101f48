-- A bucket left at rate 0 is credited nothing, and the wait told is the largest u64: what the definitions give. Assumes nothing.
-- Stays: the two theorems on rate 0, which docs/GUARANTEES.md names, and what they cite; std has no product with 0 and no quotient by 0.
use Prim.Native.Nat.{ℕ, zero, suc, ◌+◌, ◌-◌, ◌*◌, ◌/◌, ◌^◌, ◌≤◌, ◌<◌, min}
use mathlib.Core.Bool.{Bool, true, false, true≢false}
use mathlib.Core.Path.{◌≡◌, refl, sym, ap, ◌∙◌}
use native.Mathlib.Nat.{mul-zero, zero-mul, mul-pos, zero-div, zero-lt-suc}
use native.Mathlib.Omega.{arith}
use borrow.Author.Tests.{ne_eqb}
use lib.Ieee.{Float, nan, inf, fin, Format, binary64, prec, low, emax, up, down, unlike, round, mul, div, of_int, to_unsigned}
use lib.Ieee.Exact.{HasValue, round_exact}
use lib.Ieee.Fits.{down_pos}
use lib.IntN.{pos}
use lib.Pow.{pow_pos}
use Rattle.numeric.proofs.Nearest.{of_int_value}
use Rattle.numeric.specs.Duration.{seconds_of, nanos_of}
use Rattle.pacing.specs.TokenBucket.{credit, wait_of}

-- a value of 0 is cut to 0
-- Stays: `times_nought` stands on it.
cut_nought : (w : ℕ) (x : Float) (s : Bool) (d : ℕ) → 0 < d → HasValue x s 0 d → to_unsigned w x ≡ 0
unfolding to_unsigned
cut_nought w nan s d D h = absurd h
cut_nought w (inf t) s d D h = absurd h
cut_nought w (fin true m e) s d D h = refl
cut_nought w (fin false m e) s d D h = ap (λ (k : ℕ). min (k / down e) (2 ^ w - 1)) (none (m * up e) d (down e) D h.1) ∙ least (down e) (2 ^ w - 1)
  where
    none : (a d e : ℕ) → 0 < d → a * d ≡ 0 * e → a ≡ 0
    none zero d e D h = refl
    none (suc a) zero e D h = elim D [ ]
    none (suc a) (suc d) e D h = absurd (omega arith)

    least : (e k : ℕ) → min (0 / e) k ≡ 0
    least e k = ap (λ (z : ℕ). min z k) (zero-div e) ∙ go k
      where
        go : (k : ℕ) → min 0 k ≡ 0
        go k = omega arith

-- nothing over d rounds to a value of 0
-- Stays: `times_nought` stands on it.
round_nought : (f : Format) (s : Bool) (d : ℕ) → 0 < d → HasValue (round f s 0 d) s 0 d
round_nought f s d D = round_exact f s 0 d 0 0 D (pow_pos (prec f)) (pow_pos (low f + suc (emax f))) (zero-mul (2 ^ low f) ∙ sym (zero-mul d))

-- a product with 0 is cut to 0, whatever the other factor is
-- Stays: `credit_at_rate-zero` stands on it.
times_nought : (f : Format) (w : ℕ) (x : Float) → to_unsigned w (mul f x (fin false 0 (pos 0))) ≡ 0
unfolding mul to_unsigned
times_nought f w nan = refl
times_nought f w (inf s) = refl
times_nought f w (fin s m e) =
    ap (λ (a : ℕ). to_unsigned w (round f (unlike s false) a (down e * 1))) (mul-zero (m * up e))
    ∙ cut_nought w (round f (unlike s false) 0 (down e * 1)) (unlike s false) (down e * 1) D (round_nought f (unlike s false) (down e * 1) D)
  where
    D : 0 < down e * 1
    D = mul-pos (down_pos e) (zero-lt-suc 0)

-- "it is credited nothing"
-- Stays: docs/GUARANTEES.md names it.
pub credit_at_rate-zero : (nanos : ℕ) → credit nanos 0 ≡ 0
unfolding credit of_int
credit_at_rate-zero nanos = times_nought binary64 64 (seconds_of nanos)

-- a value above 0, divided by 0, takes forever
-- Stays: `wait_at_rate-zero` stands on it.
over_nought : (x : Float) (n : ℕ) → 0 < n → HasValue x false n 1 → nanos_of (div binary64 x (fin false 0 (pos 0))) ≡ 18446744073709551615
unfolding div
over_nought nan n N h = absurd h
over_nought (inf s) n N h = absurd h
over_nought (fin true m e) n N h = absurd (true≢false h.0)
over_nought (fin false (suc m) e) n N h = simp (ne_eqb (suc m) 0 (λ (z : suc m ≡ 0). omega arith))
over_nought (fin false zero e) n N h = absurd (never (up e) n (down e) (mul-pos N (down_pos e)) h.1)
  where
    never : (u n d : ℕ) → 0 < n * d → 0 * u * 1 ≡ n * d → ⊥
    never u n d p q = omega arith

-- "the wait told is the largest u64", for every count of bytes in the domain and beyond
-- Stays: docs/GUARANTEES.md names it.
pub wait_at_rate-zero : (bytes : ℕ) → 0 < bytes → bytes ≤ 2 ^ 53 → wait_of bytes 0 ≡ 18446744073709551615
unfolding wait_of of_int
wait_at_rate-zero bytes B h = over_nought (of_int binary64 (pos bytes)) bytes B (of_int_value binary64 bytes h)
