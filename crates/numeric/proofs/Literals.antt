-- The powers of two that the code names as floats, by their bit patterns. Assumes nothing.
-- Stays: what the goals of `float` and `duration` cite, as a function's attribute can't open `of_bits`, a word of the logic; std has only the float 1 so.
use Rattle.std.proofs.Common.{◌≡◌, false, pos, negsuc, refl}
use lib.Ieee.{fin, binary32, binary64, of_bits}

pub two_to_16_f32 : of_bits binary32 0x4780_0000 ≡ fin false 1 (pos 16)
unfolding of_bits
two_to_16_f32 = refl

pub two_to_32_f32 : of_bits binary32 0x4f80_0000 ≡ fin false 1 (pos 32)
unfolding of_bits
two_to_32_f32 = refl

pub two_to_32_f64 : of_bits binary64 0x41f0_0000_0000_0000 ≡ fin false 1 (pos 32)
unfolding of_bits
two_to_32_f64 = refl

pub two_to_64_f64 : of_bits binary64 0x43f0_0000_0000_0000 ≡ fin false 1 (pos 64)
unfolding of_bits
two_to_64_f64 = refl

-- 2 ^ -31
pub least_f64 : of_bits binary64 0x3e00_0000_0000_0000 ≡ fin false 1 (negsuc 30)
unfolding of_bits
least_f64 = refl
