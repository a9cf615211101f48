-- The absolute value is what the pattern without its sign bit means. The format is a parameter. Assumes nothing.
-- Stays: what `abs_f32` cites; std has nothing of a pattern without its sign bit.
use Rattle.std.proofs.Common.{◌≡◌, ℕ, zero, suc, ◌+◌, ◌*◌, ◌%◌, ◌<◌, Bool, true, false, not, T, ℤ, sym, refl, ap, ◌∙◌, subst, true≢false, mod-eq_of_lt, one-mul, arith}
use lib.Arith.{digits_mod}
use lib.Ieee.{Float, Format, nan, inf, fin, hid, ones, top, is_nan, fits, of_bits, to_bits, nan_bits}
use lib.Ieee.Bits.{of_bits-to_bits, to_bits-lt, nan_bits_is}
use Rattle.numeric.specs.Float.{abs_of}

-- what is below the sign bit t, with it and without it
signed : (t n : ℕ) → t + n < 2 * t → (t + n) % t ≡ 0 + n
signed t n h = ap (λ (k : ℕ). (k + n) % t) (sym (one-mul t)) ∙ digits_mod 1 (omega (arith, h)) ∙ omega arith

unsigned : (t n : ℕ) → t + n < 2 * t → (0 + n) % t ≡ 0 + n
unsigned t n h = mod-eq_of_lt (omega (arith, h))

signed-sum : (t a b : ℕ) → t + a + b < 2 * t → (t + a + b) % t ≡ 0 + a + b
signed-sum t a b h =
    let one : t + a + b ≡ t + (a + b) = omega arith in let none : 0 + (a + b) ≡ 0 + a + b = omega arith in
    ap (λ (k : ℕ). k % t) one ∙ signed t (a + b) (omega (arith, h)) ∙ none

-- a sign says nothing of whether a number fits
any_sign : (f : Format) (s s' : Bool) (m : ℕ) (e : ℤ) → T (fits f (fin s m e)) → T (fits f (fin s' m e))
unfolding fits
any_sign f s s' zero e F = F
any_sign f s s' (suc m) e F = F

-- the pattern without its sign bit
cleared : (f : Format) (x : Float) → T (fits f x) → is_nan x ≡ false → to_bits f x % top f ≡ to_bits f (abs_of x)
unfolding to_bits fits is_nan
cleared f nan F h = absurd (true≢false h)
cleared f (inf true) F h = signed (top f) (ones f * hid f) (to_bits-lt f (inf true) tt)
cleared f (inf false) F h = unsigned (top f) (ones f * hid f) (to_bits-lt f (inf true) tt)
cleared f (fin true m e) F h = signed-sum (top f) _ _ (to_bits-lt f (fin true m e) F)
cleared f (fin false m e) F h = mod-eq_of_lt (below (top f) _ _ (to_bits-lt f (fin true m e) (any_sign f false true m e F)))
  where
    below : (t a b : ℕ) → t + a + b < 2 * t → 0 + a + b < t
    below t a b h = omega (arith, h)

abs_fits : (f : Format) (x : Float) → T (fits f x) → T (fits f (abs_of x))
unfolding fits
abs_fits f nan F = tt
abs_fits f (inf s) F = tt
abs_fits f (fin s m e) F = any_sign f s false m e F

pub abs_bits : (f : Format) (x : Float) → T (fits f x) → is_nan x ≡ false → of_bits f (to_bits f x % top f) ≡ abs_of x
abs_bits f x F h = ap (of_bits f) (cleared f x F h) ∙ of_bits-to_bits f (abs_of x) (abs_fits f x F)

-- .. which is no NaN's
pub abs_pattern : (f : Format) (x : Float) → T (fits f x) → is_nan x ≡ false → T (not (nan_bits f (to_bits f x % top f)))
unfolding is_nan
abs_pattern f x F h = subst (λ (b : Bool). T (not b)) (sym (nan_bits_is f _ ∙ ap is_nan (abs_bits f x F h) ∙ same x ∙ h)) tt
  where
    same : (x : Float) → is_nan (abs_of x) ≡ is_nan x
    same nan = refl
    same (inf s) = refl
    same (fin s m e) = refl

-- a NaN stays one
pub abs_nan : (x : Float) → is_nan x ≡ true → x ≡ abs_of x
unfolding is_nan
abs_nan nan h = refl
abs_nan (inf s) h = absurd (true≢false (sym h))
abs_nan (fin s m e) h = absurd (true≢false (sym h))
