-- Bit patterns and NaN, with the format as a parameter. Assumes nothing.
-- Stays: what the checks of settings and weights cite; std has no definition `finite` by cases.
use Rattle.std.proofs.Common.{◌≡◌, ℕ, ◌*◌, ◌%◌, ◌<◌, ◌≤◌, Bool, true, not, T, sym, refl, ◌∙◌, subst, le-ltb, lt-ltb}
use mathlib.Core.Bool.{false≢true}
use lib.Ieee.{Float, nan, inf, fin, Format, hid, ones, top, is_nan, of_bits, nan_bits}
use lib.Ieee.Bits.{nan_bits_is, nan_bits_above}
use Rattle.std.specs.Float.{float_is_finite}
use Rattle.numeric.specs.Float.{finite}

-- Stays: `nan_pattern` cites it.
is_nan_lem : (x : Float) → is_nan x ≡ true → nan ≡ x
unfolding is_nan
is_nan_lem nan h = refl
is_nan_lem (inf s) h = absurd (false≢true h)
is_nan_lem (fin s m e) h = absurd (false≢true h)

-- Stays: docs/GUARANTEES.md names it and the one after it; std has them of one format, and not of a NaN.
pub nan_pattern : (f : Format) (n : ℕ) → ones f * hid f < n % top f → nan ≡ of_bits f n
nan_pattern f n h = is_nan_lem (of_bits f n) (sym (nan_bits_is f n) ∙ nan_bits_above f n ∙ lt-ltb _ _ h)

-- Stays: as the one before it.
pub no-nan_pattern : (f : Format) (n : ℕ) → n % top f ≤ ones f * hid f → T (not (nan_bits f n))
no-nan_pattern f n h = subst (λ (b : Bool). T (not b)) (sym (nan_bits_above f n ∙ le-ltb _ _ h)) tt

-- std's test of a finite number
pub finite_is : (x : Float) → float_is_finite x ≡ finite x
unfolding float_is_finite
finite_is nan = refl
finite_is (inf s) = refl
finite_is (fin s m e) = refl
