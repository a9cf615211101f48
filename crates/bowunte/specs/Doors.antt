-- The three C functions: their answers, and what each leaves of the lent slices. Definitions only.
use Rattle.std.specs.Prelude.{ℕ, Bool, true, cond, List, [], ◌∷◌, ◌++◌, ltb, eqb, Float, length, drop, Result, Ok, Err}
use Rattle.std.specs.Int.{w64, to_le_bytes}
use Rattle.config.specs.Config.{factor_out}
use Rattle.config.specs.Refusal.{Check, when, accepted, number_of, answer_of}
use Rattle.config.specs.declared.refusal.Refusal.{Refusal}
use Rattle.config.specs.declared.refusal.Refusal.TheVariants.{SettingsBeyond, RateBeyond, BufferTooShort}
use Rattle.tape.specs.Run.{room_for, lines_left}

-- "its result, 8 little-endian bytes"
abbrev pub result_bytes : ℕ → List ℕ
result_bytes n = to_le_bytes w64 n

-- a result at the front of a slice that has room for it; the bytes behind it stay
unfoldable pub shown : List ℕ → ℕ → List ℕ
shown out n = cond (ltb (length out) 8) out (result_bytes n ++ drop 8 out)

-- "unwritten when turned down"
unfoldable pub out_left : ℕ → List ℕ → ℕ → List ℕ
out_left answer out n = cond (eqb answer 0) (shown out n) out

-- a result where the checks pass, or the reason
abbrev pub told_or : Result Unit Refusal → ℕ → Result ℕ Refusal
told_or (Ok u) n = Ok n
told_or (Err e) n = Err e

-- what a function tells of that: the answer's number, and the slice with the result
abbrev pub told_number : Result ℕ Refusal → ℕ
told_number (Ok n) = accepted
told_number (Err e) = number_of e

abbrev pub told_left : Result ℕ Refusal → List ℕ → List ℕ
told_left (Ok n) out = shown out n
told_left (Err e) out = out

-- 8: a slice too short for a result
abbrev pub result_check : ℕ → Check
result_check room = when BufferTooShort (ltb room 8)

abbrev pub result_checks : ℕ → List Check
result_checks room = result_check room ∷ []

unfoldable pub hash_answer : ℕ → ℕ
hash_answer room = answer_of (result_checks room)

-- "the least rate at least 1, the rate from it to 1,000,000,000, else 6"
unfoldable pub rate_out : ℕ → ℕ → Bool
rate_out rate least = cond (ltb least 1) true (cond (ltb rate least) true (ltb 1000000000 rate))

abbrev pub decrease_checks : ℕ → Float → ℕ → ℕ → List Check
decrease_checks rate factor least room =
    when SettingsBeyond (factor_out factor) ∷ when RateBeyond (rate_out rate least) ∷ result_check room ∷ []

unfoldable pub decrease_answer : ℕ → Float → ℕ → ℕ → ℕ
decrease_answer rate factor least room = answer_of (decrease_checks rate factor least room)

-- "needs 24 + 192 times the tape's words as output bytes, else 8"
abbrev pub tape_checks : ℕ → ℕ → ℕ → List Check
tape_checks bytes lines room = when BufferTooShort (cond (ltb room 8) true (ltb lines (room_for bytes))) ∷ []

unfoldable pub tape_answer : ℕ → ℕ → ℕ → ℕ
tape_answer bytes lines room = answer_of (tape_checks bytes lines room)

unfoldable pub lines_left_by : ℕ → List ℕ → List ℕ → List ℕ
lines_left_by answer bytes ls = cond (eqb answer 0) (lines_left bytes ls) ls
