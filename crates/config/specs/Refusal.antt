-- Why a call is turned down, under which number, and which reason of several wins. Definitions only.
use Rattle.std.specs.Prelude.{ℕ, Bool, false, cond, List, [], ◌∷◌, ◌++◌, map, eqb, Result, Ok, Err}
use Rattle.config.specs.declared.refusal.Refusal.{Refusal}
use Rattle.config.specs.declared.refusal.Refusal.TheVariants.{SettingsInvalid, SettingsBeyond, RecordTooLong, SampleBeyond, KindUnknown, RateBeyond, TimeBeyond, BufferTooShort, CallsUsedUp, TimeBack, Disabled, WriterUnknown, WriterKnown, TableFull}

abbrev pub accepted : ℕ
accepted = 0

-- a hand-in that finds the urgent queue full: no refusal, as the call counts as accepted
abbrev pub queue_full : ℕ
queue_full = 12

-- "Turned down because of the input" and "because of the state"
abbrev pub number_of : Refusal → ℕ
number_of SettingsInvalid = 1
number_of SettingsBeyond = 2
number_of RecordTooLong = 3
number_of SampleBeyond = 4
number_of KindUnknown = 5
number_of RateBeyond = 6
number_of TimeBeyond = 7
number_of BufferTooShort = 8
number_of CallsUsedUp = 17
number_of TimeBack = 11
number_of Disabled = 13
number_of WriterUnknown = 15
number_of WriterKnown = 16
number_of TableFull = 14

-- "Input first, by number; then the state in the order written"
abbrev pub order : List Refusal
order =
    SettingsInvalid
    ∷ SettingsBeyond
    ∷ RecordTooLong
    ∷ SampleBeyond
    ∷ KindUnknown
    ∷ RateBeyond
    ∷ TimeBeyond
    ∷ BufferTooShort
    ∷ CallsUsedUp
    ∷ TimeBack
    ∷ Disabled
    ∷ WriterUnknown
    ∷ WriterKnown
    ∷ TableFull
    ∷ []

-- the numbers in that order, and last that of a full queue, which the step itself finds
abbrev pub numbers : List ℕ
numbers = map number_of order ++ (queue_full ∷ [])

-- a reason, and whether it applies to the call at hand
pub data Check : Type 0 where
  when : Refusal → Bool → Check

-- a check of its own
abbrev pub when_result : Refusal → Bool → Result Unit Refusal
when_result r b = cond b (Err r) (Ok tt)

abbrev pub applies : List Check → Refusal → Bool
applies [] r = false
applies (when s b ∷ rest) r = cond (eqb (number_of r) (number_of s)) b (applies rest r)

-- the first of the reasons that applies
abbrev pub first_of : List Refusal → List Check → Result Unit Refusal
first_of [] checks = Ok tt
first_of (r ∷ rs) checks = cond (applies checks r) (Err r) (first_of rs checks)

-- The verdict on a call, from the reasons that may apply to it: in whatever order they are listed, the first in the order above wins.
unfoldable pub verdict_of : List Check → Result Unit Refusal
verdict_of checks = first_of order checks

-- the number of a call that gives nothing back
abbrev pub none_number : Unit {0} → ℕ
none_number u = accepted

-- the number of an answer: the refusal's, or that of what was given back
abbrev pub result_number : {T : Type 0} → (T → ℕ) → Result T Refusal → ℕ
result_number f (Ok t) = f t
result_number f (Err e) = number_of e

-- the number of a verdict
abbrev pub answer_of : List Check → ℕ
answer_of checks = result_number none_number (verdict_of checks)
