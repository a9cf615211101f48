-- Queues with room for some limits have room for a slot each, and those of 128, 512 and 128 slots for the limits of all settings that a making takes.
-- Assumes nothing.
-- Stays: what `Station::new` cites of the room for a slot, and the law `RoomForAllSettings` of specs/Station.antt; of limits and settings std has nothing.
use Rattle.std.proofs.Common.{◌≡◌, ℕ, ◌≤◌, Bool, true, false, not, ◌||◌, ◌&&◌, refl, arith}
use Rattle.std.proofs.lemmas.Grind.{common_steps}
use Rattle.config.specs.Config.{limit_beyond, queues_beyond}
use Rattle.config.specs.Refusal.{verdict_of}
use Rattle.config.specs.declared.config.CongestionConfig.{CongestionConfig}
use Rattle.queue.specs.Pool.{Limits, limit_of, limits_of}
use Rattle.queue.specs.Waiting.{limit_fits}
use Rattle.pacing.specs.WriterPacer.{fits}
use Rattle.station.specs.Station.{one_slot_each, RoomForAllSettings}

one_fits : (N l : ℕ) → limit_fits N l ≡ true → limit_fits N 1 ≡ true
one_fits N l = grind (arith, common_steps)

pub one_each_fits : (N0 N1 N2 : ℕ) (m : Limits) → fits N0 N1 N2 m ≡ true → fits N0 N1 N2 one_slot_each ≡ true
one_each_fits N0 N1 N2 m e = grind (arith, common_steps, one_fits N0 m.p0, one_fits N1 m.p1, one_fits N2 m.p2)

-- a limit that the settings may have
-- Stays: `queues_room` stands on it.
limit_taken : (N l : ℕ) → N ≤ 512 → limit_fits N (limit_of l) ≡ not (limit_beyond l N)
unfolding limit_beyond
limit_taken N l h = grind (arith, common_steps)

-- Stays: `queues_room` stands on it.
three : (a b c : Bool) → (a || (b || c)) || not (not a && not b && not c) ≡ a || (b || c)
three true b c = refl
three false true c = refl
three false false true = refl
three false false false = refl

-- settings whose limits are taken have room
-- Stays: `room_for_all` stands on it.
queues_room : (c : CongestionConfig) → queues_beyond c || not (fits 128 512 128 (limits_of c)) ≡ queues_beyond c
unfolding queues_beyond
queues_room c = rw (limit_taken 128 c.max_queue_p0 (omega arith), limit_taken 512 c.max_queue_p1 (omega arith), limit_taken 128 c.max_queue_p2 (omega arith)) (three (limit_beyond c.max_queue_p0 128) (limit_beyond c.max_queue_p1 512) (limit_beyond c.max_queue_p2 128))

-- Stays: the law `RoomForAllSettings` of specs/Station.antt, which docs/DECISIONS.md names.
pub room_for_all : RoomForAllSettings
unfolding verdict_of
room_for_all c time = rw queues_room refl
