-- 0 and 1, a factor of a rate, and Rust's `max`, `clamp` and `abs` of floats, over the operations of IEEE 754 (`lib.Ieee`). Definitions only.
use Rattle.std.specs.Prelude.{ℕ, Bool, true, false, cond, pos, from_bits, is_nan, Float}
use Rattle.std.specs.Float.{nan, inf, fin, binary32}
use Rattle.std.specs.Float.Ieee.{of_int, mul, to_unsigned, lt}

abbrev pub zero32 : Float
zero32 = from_bits binary32 0

abbrev pub one32 : Float
one32 = from_bits binary32 0x3f80_0000

-- "A decrease multiplies the rounded f32 rate by the factor": rounded to nearest, ties to even, multiplied in f32, cut to a whole number
unfoldable pub scaled : ℕ → Float → ℕ
scaled n x = to_unsigned 32 (mul binary32 (of_int binary32 (pos n)) x)

-- `f32::max`: the larger; a NaN gives way to the other (IEEE 754-2019, 9.6, maximumNumber), and of two that compare equal it is the first
abbrev pub max_of : Float → Float → Float
max_of x y = cond (lt x y) y (cond (is_nan x) y x)

-- `f32::clamp`: x, or the end of the range that it lies beyond
abbrev pub clamp_of : Float → Float → Float → Float
clamp_of x low high = cond (lt x low) low (cond (lt high x) high x)

-- `f32::abs`: the same number with the sign clear (IEEE 754, 5.5.1)
abbrev pub abs_of : Float → Float
abs_of nan = nan
abs_of (inf s) = inf false
abs_of (fin s m e) = fin false m e

-- `f32::is_finite`
abbrev pub finite : Float → Bool
finite nan = false
finite (inf s) = false
finite (fin s m e) = true
