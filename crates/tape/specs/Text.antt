-- The lines that a tape's run prints (document 01, "The tape"): their bytes, and where they lie in a lent buffer. Definitions only.
use Rattle.std.specs.Prelude.{ℕ, zero, suc, ◌+◌, ◌/◌, ◌%◌, min, max, true, false, cond, List, [], ◌∷◌, ◌++◌, ltb, length, set}
use Rattle.std.specs.Borrow.{MutBor}
use Rattle.config.specs.Config.{class_number}
use Rattle.control.specs.declared.budget_allocator.WriterInfo.{WriterInfo}
use Rattle.tape.specs.declared.text.Fields.{Fields}
use Rattle.tape.specs.declared.text.Lines.{Lines}
use Rattle.tape.specs.declared.text.Fields.TheVariants.{Nothing, Flag, Unchanged, Sent, Empty, Wait}

-- ---- bytes in a lent buffer

-- bytes put one after the other from a place on; what lies beyond the end is lost
unfoldable pub written : List ℕ → ℕ → List ℕ → List ℕ
written ls at [] = ls
written ls at (b ∷ bs) = written (set ls at b) (suc at) bs

-- the place after n bytes put from `at` on in a buffer of m
unfoldable pub ended : ℕ → ℕ → ℕ → ℕ
ended m at n = max at (min (at + n) m)

-- a buffer without lines yet
abbrev pub lines_in : MutBor (List ℕ) → Lines
lines_in bytes = record { bytes = bytes; end = 0 }

-- the same buffer, with a text behind what stands in it
unfoldable pub added : Lines → List ℕ → Lines
added ls text =
    record ls { bytes = record ls.bytes { now = written ls.bytes.now ls.end text }; end = ended (length ls.bytes.now) ls.end (length text) }

-- ---- numbers

abbrev pub space : ℕ
space = 32

abbrev pub colon : ℕ
colon = 58

-- "every line ends in LF, the last too"
abbrev pub line_end : ℕ
line_end = 10

-- the byte of a digit
abbrev pub glyph : ℕ → ℕ
glyph digit = 48 + digit

-- the decimal digits of n, the most significant first; f is at least as many as it has
unfoldable pub decimal_by : ℕ → ℕ → List ℕ
decimal_by zero n = []
decimal_by (suc f) n = cond (ltb n 10) (glyph n ∷ []) (decimal_by f (n / 10) ++ (glyph (n % 10) ∷ []))

-- no number of 64 bits has more than 20
abbrev pub decimal : ℕ → List ℕ
decimal n = decimal_by 20 n

-- a number with a mark before it
abbrev pub marked : ℕ → ℕ → List ℕ
marked mark n = mark ∷ decimal n

-- ---- lines

-- "word answer fields"
abbrev pub header : List ℕ
header =
    119 ∷ 111 ∷ 114 ∷ 100 ∷ space ∷ 97 ∷ 110 ∷ 115 ∷ 119 ∷ 101 ∷ 114 ∷ space ∷ 102 ∷ 105 ∷ 101 ∷ 108 ∷ 100 ∷ 115
    ∷ line_end ∷ []

-- " none", " sent", " empty" and " wait"
abbrev pub none_text : List ℕ
none_text = space ∷ 110 ∷ 111 ∷ 110 ∷ 101 ∷ []

abbrev pub sent_text : List ℕ
sent_text = space ∷ 115 ∷ 101 ∷ 110 ∷ 116 ∷ []

abbrev pub empty_text : List ℕ
empty_text = space ∷ 101 ∷ 109 ∷ 112 ∷ 116 ∷ 121 ∷ []

abbrev pub wait_text : List ℕ
wait_text = space ∷ 119 ∷ 97 ∷ 105 ∷ 116 ∷ []

-- "TOS 0 or 1; tick and set rate `none` ..; send `sent` class sequence length, `empty`, or `wait` nanoseconds. Register, hand-in,
-- the other signals and words turned down have no fields": each with a space before it
unfoldable pub fields_text : Fields → List ℕ
fields_text Nothing = []
fields_text (Flag true) = marked space 1
fields_text (Flag false) = marked space 0
fields_text Unchanged = none_text
fields_text (Sent class sequence bytes) =
    sent_text ++ (marked space (class_number class) ++ (marked space sequence ++ marked space bytes))
fields_text Empty = empty_text
fields_text (Wait nanoseconds) = wait_text ++ marked space nanoseconds

-- "id:previous:new", the allocator's raw budgets
unfoldable pub update_text : WriterInfo → List ℕ
update_text w = marked space w.id ++ (marked colon w.previous_bps ++ marked colon w.budget_bps)

-- one after the other, in the list's order
unfoldable pub each_text : List WriterInfo → List ℕ
each_text [] = []
each_text (w ∷ ws) = update_text w ++ each_text ws

-- "a count and id:previous:new", every writer of the list
unfoldable pub updates_text : List WriterInfo → List ℕ
updates_text ws = marked space (length ws) ++ each_text ws

-- "its index, its answer .. and fields": "one space between fields, none at the end"
unfoldable pub line_text : ℕ → ℕ → List ℕ → List ℕ
line_text index answer fields = decimal index ++ (marked space answer ++ (fields ++ (line_end ∷ [])))
