-- Laws of texts put one after the other, and how long numbers and lines are. Assumes nothing.
-- Stays: what the functions of text.rt, the runs and the bound of Bounds go by, and examples that docs/GUARANTEES.md names; of std are the lists and the digits.
use native.Mathlib.Decide.{dec_le}
use Rattle.std.proofs.Common.{rules, ◌≡◌, refl, sym, ◌∙◌, lt-ltb, ℕ, zero, suc, ◌+◌, ◌*◌, ◌/◌, ◌%◌, ◌^◌, ◌≤◌, ◌<◌, min, max, Bool, true, false, cond, ltb, List, [], ◌∷◌, ◌++◌, length, drop, take, get_or, set, arith, length-append}
use Rattle.std.proofs.Math.Nat.{add-zero}
use Rattle.std.proofs.Math.Seq.{set_out, sets, length-sets, sets-eq, take-suc}
use native.Mathlib.Numerals.{add-one}
use Rattle.std.proofs.lemmas.Fmt.{AppendsLastDigit, decimal_from_appends, length-decimal-le}
use Rattle.std.proofs.lemmas.Grind.{common_steps}
use Rattle.std.proofs.lemmas.List.Elements.{All-head, All-tail}
use Rattle.std.specs.Borrow.{MutBor}
use Rattle.std.specs.Fmt as fmt
use Rattle.std.specs.List.{All}
use Rattle.config.specs.Config.{class_number}
use Rattle.config.specs.Refusal.{number_of}
use Rattle.config.specs.declared.config.Priority.TheVariants.{P0, P1}
use Rattle.config.specs.declared.refusal.Refusal.TheVariants.{KindUnknown}
use Rattle.control.specs.BudgetAllocator.{writer_of, one}
use Rattle.control.specs.declared.budget_allocator.WriterInfo.{WriterInfo}
use Rattle.tape.specs.Text.{lines_in, written, ended, added, decimal_by, decimal, glyph, space, marked, fields_text, update_text, each_text, updates_text, line_text}
use Rattle.tape.specs.declared.text.Fields.{Fields}
use Rattle.tape.specs.declared.text.Fields.TheVariants.{Nothing, Flag, Unchanged, Sent, Empty, Wait}
use Rattle.tape.specs.declared.text.Lines.{Lines}

-- ---- texts one after the other

written-sets : (ls : List ℕ) (at : ℕ) (text : List ℕ) → written ls at text ≡ sets ls at text
unfolding written
written-sets ls at [] = refl
written-sets ls at (b ∷ bs) = written-sets (set ls at b) (suc at) bs

length-written : (ls : List ℕ) (at : ℕ) (text : List ℕ) → length (written ls at text) ≡ length ls
length-written ls at text = rw written-sets (length-sets ls at text)

-- beyond the end nothing is written
written_beyond : (ls : List ℕ) (at : ℕ) (text : List ℕ) → length ls ≤ at → written ls at text ≡ ls
unfolding written
written_beyond ls at [] h = refl
written_beyond ls at (b ∷ bs) h = rw (set_out ls at b h) (written_beyond ls (suc at) bs (omega arith))

written-append :
    (ls : List ℕ) (at : ℕ) (a b : List ℕ) → written ls at (a ++ b) ≡ written (written ls at a) (at + length a) b
unfolding written
written-append ls at [] b = rw add-zero
written-append ls at (x ∷ xs) b =
    let e : suc at + length xs ≡ at + suc (length xs) = omega arith in
    rw (← e) (written-append (set ls at x) (suc at) xs b)

-- two texts, the second put where the first ended
written-written :
    (ls : List ℕ) (at : ℕ) (a b : List ℕ)
    → written (written ls at a) (ended (length ls) at (length a)) b ≡ written ls at (a ++ b)
unfolding ended
written-written ls at a b = go (dec_le (at + length a) (length ls))
  where
    go : Dec (at + length a ≤ length ls) → written (written ls at a) (ended (length ls) at (length a)) b ≡ written ls at (a ++ b)
    go (yes h) =
        let e : ended (length ls) at (length a) ≡ at + length a = omega arith in
        rw e (sym (written-append ls at a b))
    go (no h) =
        written_beyond (written ls at a) _ b (rw length-written (omega arith))
        ∙ sym (written-append ls at a b ∙ written_beyond (written ls at a) _ b (rw length-written (omega arith)))

ended-ended : (m at a b : ℕ) → ended m (ended m at a) b ≡ ended m at (a + b)
unfolding ended
ended-ended m at a b = omega arith

pub added_both : (ls : Lines) (a b : List ℕ) → added (added ls a) b ≡ added ls (a ++ b)
unfolding added
added_both ls a b =
    rw (written-written ls.bytes.now ls.end a b, length-written ls.bytes.now ls.end a, length-append a b, ended-ended (length ls.bytes.now) ls.end (length a) (length b)) refl

pub added_nothing : (ls : Lines) → ls ≡ added ls []
unfolding added written ended
added_nothing ls =
    let stays : max ls.end (min (ls.end + 0) (length ls.bytes.now)) ≡ ls.end = omega arith in
    rw stays

-- a text put into a buffer from a place on, and the place behind it
pub added_from :
    (bytes : MutBor (List ℕ)) (at : ℕ) (text : List ℕ)
    → added (record { bytes = bytes; end = at }) text
    ≡ record { bytes = record bytes { now = written bytes.now at text }; end = ended (length bytes.now) at (length text) }
unfolding added
added_from bytes at text = refl

-- ---- a byte

pub added_inside :
    (ls : Lines) (b : ℕ) → ls.end < length ls.bytes.now
    → record { bytes = record ls.bytes { now = set ls.bytes.now ls.end b }; end = ls.end + 1 } ≡ added ls (b ∷ [])
unfolding added written ended
added_inside ls b h =
    let next : max ls.end (min (ls.end + 1) (length ls.bytes.now)) ≡ ls.end + 1 = omega arith in
    rw next

pub added_beyond : (ls : Lines) (b : ℕ) → length ls.bytes.now ≤ ls.end → ls ≡ added ls (b ∷ [])
unfolding added written ended
added_beyond ls b h =
    let stays : max ls.end (min (ls.end + 1) (length ls.bytes.now)) ≡ ls.end = omega arith in
    rw (stays, set_out ls.bytes.now ls.end b h)

-- a byte more of a text that was put from a place on
pub put_inside :
    (ls : List ℕ) (at : ℕ) (a : List ℕ) (b : ℕ) → ended (length ls) at (length a) < length ls
    → (set (written ls at a) (ended (length ls) at (length a)) b ≡ written ls at (a ++ (b ∷ [])))
    × (ended (length ls) at (length a) + 1 ≡ ended (length ls) at (length (a ++ (b ∷ []))))
unfolding written ended
put_inside ls at a b h = (written-written ls at a (b ∷ []), rw length-append (omega arith))

-- .. and where there is no room for it
pub put_beyond :
    (ls : List ℕ) (at : ℕ) (a : List ℕ) (b : ℕ) → length ls ≤ ended (length ls) at (length a)
    → (written ls at (a ++ (b ∷ [])) ≡ written ls at a) × (ended (length ls) at (length (a ++ (b ∷ []))) ≡ ended (length ls) at (length a))
unfolding written ended
put_beyond ls at a b h =
    (sym (written-written ls at a (b ∷ [])) ∙ set_out (written ls at a) _ b (rw length-written h), rw length-append (omega arith))

-- the same of the byte at a place of the text
pub put_more :
    (ls : List ℕ) (at : ℕ) (text : List ℕ) (k : ℕ) {left : List ℕ} {next : ℕ} → k < length text → left ≡ written ls at (take k text)
    → next ≡ ended (length ls) at (length (take k text)) → next < length left
    → (set left next (get_or text k 0) ≡ written ls at (take (k + 1) text)) × (next + 1 ≡ ended (length ls) at (length (take (k + 1) text)))
put_more ls at text k inside p q room =
    rw (p, q, add-one, take-suc text k 0 inside) (put_inside ls at (take k text) (get_or text k 0) (rw (p, q, length-written) at room))

pub put_lost :
    (ls : List ℕ) (at : ℕ) (text : List ℕ) (k : ℕ) {left : List ℕ} {next : ℕ} → k < length text → left ≡ written ls at (take k text)
    → next ≡ ended (length ls) at (length (take k text)) → length left ≤ next
    → (left ≡ written ls at (take (k + 1) text)) × (next ≡ ended (length ls) at (length (take (k + 1) text)))
put_lost ls at text k inside p q none =
    let same = put_beyond ls at (take k text) (get_or text k 0) (rw (p, q, length-written) at none) in
    rw (add-one, take-suc text k 0 inside) (p ∙ sym same.0, q ∙ sym same.1)

pub put_none : (ls : List ℕ) (at : ℕ) → (written ls at [] ≡ ls) × (ended (length ls) at 0 ≡ at)
unfolding written ended
put_none ls at = (refl, omega arith)

-- ---- where there is room

-- a text that fits a buffer without lines lies at its front, and the bytes behind it stay
pub filled :
    (bytes : MutBor (List ℕ)) (text : List ℕ) → length text ≤ length bytes.now
    → added (lines_in bytes) text ≡ record { bytes = record bytes { now = text ++ drop (length text) bytes.now }; end = length text }
unfolding added ended
filled bytes text h =
    let next : max 0 (min (0 + length text) (length bytes.now)) ≡ length text = omega arith in
    let none : 0 + length text ≡ length text = omega arith in
    rw (next, written-sets bytes.now 0 text, sets-eq text bytes.now 0 (omega arith), none)

-- ---- digits

appends : AppendsLastDigit decimal_by
unfolding decimal_by
appends = search rules

-- a number's digits are those that std prints
pub decimal_is : (n : ℕ) → n < 2 ^ 64 → fmt.decimal n ≡ decimal n
decimal_is n h = sym (decimal_from_appends decimal_by appends 20 n h (length-decimal-le 20 n (omega arith) (omega arith) h))

-- a number below 10 is a digit
pub decimal_digit : (n : ℕ) → n < 10 → decimal n ≡ glyph n ∷ []
unfolding decimal_by
decimal_digit n h = rw (lt-ltb n 10 h)

-- ---- what the writers of lines go by

pub ruleset number_steps = (common_steps, added_nothing, added_both, decimal_is, decimal_digit)

pub ruleset put_steps = (common_steps, added_inside, added_beyond)

pub ruleset text_steps = (common_steps, added_nothing, added_both)

pub ruleset line_steps = (common_steps, added_both, added_from)

-- ---- how long numbers and lines are

pub digits_most : (f n : ℕ) → length (decimal_by f n) ≤ f
unfolding decimal_by
digits_most zero n = omega arith
digits_most (suc f) n = go (ltb n 10) (digits_most f (n / 10))
  where
    go : (t : Bool) → length (decimal_by f (n / 10)) ≤ f → length (cond t (glyph n ∷ []) (decimal_by f (n / 10) ++ (glyph (n % 10) ∷ []))) ≤ suc f
    go true h = omega arith
    go false h = rw length-append (omega arith)

-- a number below 10 ^ k has at most k digits
pub digits_few : (k n : ℕ) → 1 ≤ k → n < 10 ^ k → n < 2 ^ 64 → length (decimal n) ≤ k
digits_few k n h q small = rw (← decimal_is n small) (length-decimal-le k n h q small)

line_length :
    (index answer : ℕ) (fields : List ℕ)
    → length (line_text index answer fields) ≡ length (decimal index) + length (decimal answer) + length fields + 2
unfolding line_text
line_length index answer fields = simp length-append (omega arith)

fields-length : (fields : Fields) → length (fields_text fields) ≤ 68
unfolding fields_text
fields-length Nothing = omega arith
fields-length (Flag true) = omega (arith, digits_most 20 1)
fields-length (Flag false) = omega (arith, digits_most 20 0)
fields-length Unchanged = omega arith
fields-length (Sent class sequence bytes) =
    simp length-append (omega (arith, digits_most 20 (class_number class), digits_most 20 sequence, digits_most 20 bytes))
fields-length Empty = omega arith
fields-length (Wait nanoseconds) = omega (arith, digits_most 20 nanoseconds)

-- a line has at most 168 bytes
pub short : (index answer : ℕ) (fields : Fields) → length (line_text index answer (fields_text fields)) ≤ 168
short index answer fields =
    rw line_length (omega (arith, digits_most 20 index, digits_most 20 answer, fields-length fields))

-- the line of a missing end, which has number 5 and no fields, at most 23
pub short-end : (index : ℕ) → length (line_text index (number_of KindUnknown) (fields_text Nothing)) ≤ 23
unfolding fields_text
short-end index =
    rw line_length (omega (arith, digits_most 20 index, digits_few 1 (number_of KindUnknown) (omega arith) (omega arith) (omega arith)))

-- an id of at most 8 digits, and budgets of at most 10
abbrev pub IsNarrow : WriterInfo → Type 0
IsNarrow w = (w.id < 10 ^ 8) × (w.budget_bps < 10 ^ 10) × (w.previous_bps < 10 ^ 10)

update_length : (w : WriterInfo) → IsNarrow w → length (update_text w) ≤ 31
unfolding update_text
update_length w h =
    simp length-append
    (omega (
      arith,
      digits_few 8 w.id (omega arith) h.0 (omega arith),
      digits_few 10 w.budget_bps (omega arith) h.1 (omega arith),
      digits_few 10 w.previous_bps (omega arith) h.2 (omega arith),
    ))

each-length : (ws : List WriterInfo) → All IsNarrow ws → length (each_text ws) ≤ 31 * length ws
unfolding each_text
each-length [] h = omega arith
each-length (w ∷ ws) h = rw length-append (omega (arith, update_length w (All-head IsNarrow w ws h), each-length ws (All-tail IsNarrow w ws h)))

updates-length : (ws : List WriterInfo) → length (updates_text ws) ≡ suc (length (decimal (length ws))) + length (each_text ws)
unfolding updates_text
updates-length ws = length-append (marked space (length ws)) (each_text ws)

-- a tape's station has four pacers
pub short-updates :
    (index answer : ℕ) (ws : List WriterInfo) → length ws ≤ 4 → All IsNarrow ws
    → length (line_text index answer (updates_text ws)) ≤ 168
short-updates index answer ws h narrow =
    rw (line_length, updates-length)
    (omega (
      arith,
      digits_most 20 index,
      digits_most 20 answer,
      digits_few 1 (length ws) (omega arith) (omega arith) (omega arith),
      each-length ws narrow,
    ))

-- ---- examples

-- Stays: an example that docs/GUARANTEES.md names.
pub decimal-zero : decimal 0 ≡ 48 ∷ []
unfolding decimal_by
decimal-zero = refl

-- Stays: an example that docs/GUARANTEES.md names.
pub decimal_ten_million : decimal 10000000 ≡ 49 ∷ 48 ∷ 48 ∷ 48 ∷ 48 ∷ 48 ∷ 48 ∷ 48 ∷ []
unfolding decimal_by
decimal_ten_million = refl

-- the largest number of 64 bits has 20 digits
-- Stays: an example that docs/GUARANTEES.md names.
pub decimal_largest : length (decimal 18446744073709551615) ≡ 20
unfolding decimal_by
decimal_largest = refl

-- document 01's line "4 0 2 1:0:10000000 2:0:28000000"
-- Stays: an example that docs/GUARANTEES.md names.
pub line_of-updates :
    line_text 4 0 (updates_text (writer_of 1 P0 one 10000000 0 ∷ writer_of 2 P1 one 28000000 0 ∷ []))
    ≡ 52 ∷ 32 ∷ 48 ∷ 32 ∷ 50 ∷ 32 ∷ 49 ∷ 58 ∷ 48 ∷ 58 ∷ 49 ∷ 48 ∷ 48 ∷ 48 ∷ 48 ∷ 48 ∷ 48 ∷ 48 ∷ 32 ∷ 50 ∷ 58 ∷ 48 ∷ 58 ∷ 50 ∷ 56 ∷ 48 ∷ 48 ∷ 48 ∷ 48 ∷ 48 ∷ 48 ∷ 10 ∷ []
unfolding decimal_by update_text each_text updates_text line_text
line_of-updates = refl

-- its line "5 0 empty"
-- Stays: an example that docs/GUARANTEES.md names.
pub line_of_empty : line_text 5 0 (fields_text Empty) ≡ 53 ∷ 32 ∷ 48 ∷ 32 ∷ 101 ∷ 109 ∷ 112 ∷ 116 ∷ 121 ∷ 10 ∷ []
unfolding decimal_by fields_text line_text
line_of_empty = refl
