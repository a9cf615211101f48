-- The run of a tape ("The tape"): what each item does to a station, the clock and the pool, and which line it prints.
-- Definitions only.
use Rattle.std.specs.Prelude.{◌≡◌, ℕ, ◌+◌, ◌*◌, ◌^◌, min, Bool, true, cond, List, [], ◌∷◌, ◌++◌, ltb, length, drop, replicate, Option, Result, Ok, Err}
use Rattle.std.specs.Float.{binary32}
use Rattle.std.specs.Float.Ieee.{of_bits}
use Rattle.std.specs.Option.{unwrap_or}
use Rattle.config.specs.Config.{defaults, settings_with}
use Rattle.config.specs.Refusal.{accepted, number_of, none_number, result_number}
use Rattle.config.specs.declared.alone.Left.{Left}
use Rattle.config.specs.declared.config.CongestionConfig.{CongestionConfig}
use Rattle.config.specs.declared.config.EcnMode.TheVariants.{Opportunistic}
use Rattle.config.specs.declared.config.Priority.{Priority}
use Rattle.config.specs.declared.refusal.Refusal.{Refusal}
use Rattle.config.specs.declared.refusal.Refusal.TheVariants.{KindUnknown, BufferTooShort}
use Rattle.queue.specs.Fates.{fate_number}
use Rattle.pacing.specs.WriterPacer.{action_number}
use Rattle.pacing.specs.declared.send_action.SendAction.{SendAction}
use Rattle.pacing.specs.declared.send_action.SendAction.TheVariants as action
use Rattle.signals.specs.RttEstimator.{any_inflated}
use Rattle.control.specs.BudgetAllocator.{writers_of}
use Rattle.control.specs.declared.budget_allocator.WriterInfo.{WriterInfo}
use Rattle.station.specs.Station.{Station, station_config_of, new_station, registered_station, eagain_station, nacks_station, tos_station, rtt_station, ticked_station, rated_station, handed_station, pool_handed, sent_station}
use Rattle.tape.specs.Item.{words_of, key_at, body_at, items_of}
use Rattle.tape.specs.Text.{added, header, fields_text, updates_text, line_text}
use Rattle.tape.specs.declared.item.Item.{Item}
use Rattle.tape.specs.declared.item.Item.TheVariants.{End, Broken, Advance, Register, Eagain, Tos, Nacks, Rtt, Tick, HandIn, Send, SetRate}
use Rattle.tape.specs.declared.item.Placed.{Placed}
use Rattle.tape.specs.declared.run.Player as lent
use Rattle.tape.specs.declared.text.Fields.{Fields}
use Rattle.tape.specs.declared.text.Lines.{Lines}
use Rattle.tape.specs.declared.text.Fields.TheVariants.{Nothing, Flag, Unchanged, Sent, Empty, Wait}

-- ---- what a run holds

-- "Defaults hold, with queue limits 2, 4, 2 and ECN opportunistic"
abbrev pub tape_settings : CongestionConfig
tape_settings = settings_with defaults true 2 4 2 Opportunistic

-- the station, the clock in nanoseconds, and the pool
pub record Player : Type 0 where
  pub station : Station
  pub clock : ℕ
  pub pool : List ℕ

abbrev pub player_of : Station → ℕ → List ℕ → Player
player_of s clock pool = record { station = s; clock = clock; pool = pool }

-- what the program's player holds, whose pool is lent
abbrev pub seen : lent.Player → Player
seen p = player_of p.station p.clock p.pool.now

-- what the program's player remembers of a station's peers, whether one is inflated, is so
abbrev pub Remembered : Option Bool → Station → Type 0
Remembered inflated s = unwrap_or inflated (any_inflated s.controller.tracker) ≡ any_inflated s.controller.tracker

-- 4 × 1,472 × (2 + 4 + 2) bytes
abbrev pub new_player : Player
new_player = player_of (new_station (station_config_of tape_settings) 0) 0 (replicate 47104 0)

-- "1 advance by value microseconds from 0, the clock stopping at 2^63"
abbrev pub advanced : ℕ → ℕ → ℕ
advanced clock micros = min (clock + 1000 * micros) (2 ^ 63)

-- ---- lines

-- what a line tells: fields, or the writers' updates
pub data Told : Type 0 where
  fields : Fields → Told
  updates : List WriterInfo → Told

abbrev pub told_text : Told → List ℕ
told_text (fields f) = fields_text f
told_text (updates ws) = updates_text ws

pub record Line : Type 0 where
  pub index : ℕ
  pub answer : ℕ
  pub told : Told

abbrev pub line_of : ℕ → ℕ → Told → Line
line_of k answer told = record { index = k; answer = answer; told = told }

-- "words turned down have no fields"
unfoldable pub fields_by : {T : Type 0} → (T → Fields) → Result T Refusal → Fields
fields_by f (Ok t) = f t
fields_by f (Err e) = Nothing

-- "send `sent` class sequence length, `empty`, or `wait` nanoseconds"
abbrev pub action_fields : SendAction → Fields
action_fields (action.Send c slot sequence n forced) = Sent c sequence n
action_fields action.Empty = Empty
action_fields (action.RateLimited wait) = Wait wait

-- "tick and set rate `none` or a count and id:previous:new"
abbrev pub updates_of : Station → List WriterInfo
updates_of s = writers_of s.controller.allocator.table

-- what the line of a tick tells, by whether the rate changed
unfoldable pub tick_told : List WriterInfo → Result Bool Refusal → Told
tick_told ws (Ok changed) = cond changed (updates ws) (fields Unchanged)
tick_told ws (Err e) = fields Nothing

-- what that of a rate setting tells
unfoldable pub rate_told : List WriterInfo → Result Unit Refusal → Told
rate_told ws (Ok u) = updates ws
rate_told ws (Err e) = fields Nothing

-- ---- one item

-- what an item prints, and what it leaves
pub record Step : Type 0 where
  pub lines : List Line
  pub player : Player

abbrev pub silent : Player → Step
silent p = record { lines = []; player = p }

abbrev pub saying : Line → Player → Step
saying line p = record { lines = line ∷ []; player = p }

-- a call that leaves the pool, by the number of what it gives
abbrev pub called : {T : Type 0} → (T → ℕ) → Player → ℕ → Told → Left Station T → Step
called number p k told x = saying (line_of k (result_number number x.answer) told) (player_of x.state p.clock p.pool)

-- the same of a call that gives nothing, of a TOS byte, of a tick, of a rate setting and of a send attempt
abbrev pub plain : Player → ℕ → Left Station Unit → Step
plain p k x = called none_number p k (fields Nothing) x

abbrev pub flagged : Player → ℕ → Left Station Bool → Step
flagged p k x = called (λ b. accepted) p k (fields (fields_by Flag x.answer)) x

abbrev pub ticked : Player → ℕ → Left Station Bool → Step
ticked p k x = called (λ b. accepted) p k (tick_told (updates_of x.state) x.answer) x

abbrev pub rated : Player → ℕ → Left Station Unit → Step
rated p k x = called none_number p k (rate_told (updates_of x.state) x.answer) x

abbrev pub sent_by : Player → ℕ → Left Station SendAction → Step
sent_by p k x = called action_number p k (fields (fields_by action_fields x.answer)) x

-- the hand-in that begins at word k, of n bytes
abbrev pub handed_by : List ℕ → Player → ℕ → ℕ → Priority → ℕ → Step
handed_by bytes p k i c n =
    called fate_number
    (player_of p.station p.clock (pool_handed p.station (length p.pool) p.clock i c (key_at bytes k c) (body_at bytes k c n) n p.pool))
    k (fields Nothing) (handed_station p.station (length p.pool) p.clock i c (key_at bytes k c) n)

-- any item; its first word is word k
unfoldable pub played : List ℕ → Player → ℕ → Item → Step
played bytes p k End = silent p
played bytes p k Broken = saying (line_of k (number_of KindUnknown) (fields Nothing)) p
played bytes p k (Advance micros) = silent (player_of p.station (advanced p.clock micros) p.pool)
played bytes p k (Register c id) = plain p k (registered_station p.station p.clock id c)
played bytes p k Eagain = plain p k (eagain_station p.station p.clock)
played bytes p k (Tos tos) = flagged p k (tos_station p.station p.clock tos)
played bytes p k (Nacks count) = plain p k (nacks_station p.station p.clock count)
played bytes p k (Rtt peer bits) = plain p k (rtt_station p.station p.clock peer (of_bits binary32 bits))
played bytes p k Tick = ticked p k (ticked_station p.station p.clock)
played bytes p k (HandIn i c n) = handed_by bytes p k i c n
played bytes p k (Send i) = sent_by p k (sent_station p.station (length p.pool) p.clock i)
played bytes p k (SetRate rate) = rated p k (rated_station p.station p.clock rate)

-- ---- the whole tape

-- the lines of the items, in turn
unfoldable pub lines_of : List ℕ → Player → List Placed → List Line
lines_of bytes p [] = []
lines_of bytes p (x ∷ xs) =
    (played bytes p x.index x.item).lines ++ lines_of bytes (played bytes p x.index x.item).player xs

unfoldable pub text_of : List Line → List ℕ
text_of [] = []
text_of (l ∷ ls) = line_text l.index l.answer (told_text l.told) ++ text_of ls

-- a player and the lines after a step: the player as it leaves it, and its lines behind those that stood there
abbrev pub Leaves : Step → Player → Lines → Lines → Type 0
Leaves x p before after = (p ≡ x.player) × (after ≡ added before (text_of x.lines))

-- "It prints the header, then for each word of kinds 2 to 7 its index, its answer .. and fields"
unfoldable pub tape_text : List ℕ → List ℕ
tape_text bytes = header ++ text_of (lines_of bytes new_player (items_of bytes))

-- "needs 24 + 192 times the tape's words as output bytes, else 8"
abbrev pub room_for : ℕ → ℕ
room_for bytes = 24 + 192 * words_of bytes

-- "its result being their length"
unfoldable pub ran_tape : List ℕ → ℕ → Result ℕ Refusal
ran_tape bytes room = cond (ltb room (room_for (length bytes))) (Err BufferTooShort) (Ok (length (tape_text bytes)))

-- a lent buffer after the run: bytes past the lines keep their old values
unfoldable pub lines_left : List ℕ → List ℕ → List ℕ
lines_left bytes ls =
    cond (ltb (length ls) (room_for (length bytes))) ls (tape_text bytes ++ drop (length (tape_text bytes)) ls)
