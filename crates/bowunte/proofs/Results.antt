-- What a function tells, by its checks' verdict and by the number of that. Assumes nothing.
-- Stays: the two equations that the three C functions cite (`using`); std has none of verdicts and answer numbers.
use Rattle.std.proofs.Common.{◌≡◌, ℕ, List, Result, Ok, Err, refl, ne_eqb}
use Rattle.config.specs.Refusal.{number_of, none_number, result_number}
use Rattle.config.specs.declared.refusal.Refusal.{Refusal}
use Rattle.config.proofs.Refusals.{no_refusal_zero}
use Rattle.bowunte.specs.Doors.{told_or, told_number, told_left, out_left}

pub told_number_is : (v : Result Unit Refusal) (n : ℕ) → told_number (told_or v n) ≡ result_number none_number v
told_number_is (Ok u) n = refl
told_number_is (Err e) n = refl

pub told_left_is : (v : Result Unit Refusal) (n : ℕ) (out : List ℕ) → told_left (told_or v n) out ≡ out_left (result_number none_number v) out n
unfolding out_left
told_left_is (Ok u) n out = refl
told_left_is (Err e) n out = rw (ne_eqb (number_of e) 0 (no_refusal_zero e)) refl
