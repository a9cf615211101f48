-- What settings that make a station promise, and that a station just made matches an empty book. Assumes nothing.
-- Stays: what Theorem cites of a station just made; the crates below say it of their own parts alone.
use Prim.Native.Nat.{ℕ, ◌≤◌}
use mathlib.Core.Bool.{Bool, true, false, true≢false, cond, ◌||◌}
use mathlib.Core.List.{List, []}
use mathlib.Core.Path.{◌≡◌, refl}
use native.Mathlib.Omega.{arith}
use borrow.Author.Tests.{ltb-false}
use lib.Dec.{ltb}
use lib.ListN.{length}
use Rattle.std.proofs.lemmas.Bool.{or_parts, not-false}
use Rattle.std.specs.Prelude.{Result, Ok, Err, not}
use Rattle.config.proofs.Refusals.{Verdict, NoneApplies, none_where_accepted}
use Rattle.config.specs.Config.{is_invalid, failed_check, rates_beyond, floats_beyond, queues_beyond}
use Rattle.config.specs.Refusal.{verdict_of}
use Rattle.config.specs.declared.config.CongestionConfig.{CongestionConfig}
use Rattle.config.specs.declared.config.InvalidSetting.{InvalidSetting}
use Rattle.config.specs.declared.config.InvalidSetting.TheVariants.{Rates}
use Rattle.config.specs.declared.refusal.Refusal.TheVariants.{SettingsInvalid, SettingsBeyond}
use Rattle.control.proofs.Writers.{in_order}
use Rattle.control.specs.Controller.{new_controller}
use Rattle.queue.specs.Pool.{bytes_of, limits_of}
use Rattle.pacing.proofs.RecordsLimits.{IsLimited, limited_made}
use Rattle.pacing.specs.WriterPacer.{made, fits}
use Rattle.station.specs.Station.{Station, slots_needed, station_config_of, new_station, room_checks, made_by, made_station}
use Rattle.guarantees.specs.Book.{empty_book}
use Rattle.guarantees.proofs.Budgets.{IsKnown}
use Rattle.guarantees.proofs.Fates.{balanced_empty}
use Rattle.guarantees.proofs.Paces.{IsTicking}
use Rattle.guarantees.proofs.Sound.{IsSound}

-- the domain, as far as the theorem needs it
pub record Domain (c : CongestionConfig) : Type 0 where
  pub least : 1 ≤ c.min_rate_bps
  pub ordered : c.min_rate_bps ≤ c.max_rate_bps
  pub most : c.max_rate_bps ≤ 1000000000
  pub limited : (time rate : ℕ) → IsLimited (limits_of c) (made time (limits_of c) rate)

-- ---- checks that none applies

-- `validate`'s first check: the largest rate is not below the least
rates_ordered : (c : CongestionConfig) → is_invalid (failed_check c) ≡ false → c.min_rate_bps ≤ c.max_rate_bps
unfolding failed_check
rates_ordered c e = ltb-false _ _ (go (ltb c.max_rate_bps c.min_rate_bps) _ e)
  where
    go : (t : Bool) (rest : Result Unit InvalidSetting) → is_invalid (cond t (Err Rates) rest) ≡ false → t ≡ false
    go true rest e = absurd (true≢false e)
    go false rest e = refl

-- what made a station accepted the settings, and the station is a new one
module _ (N0 N1 N2 : ℕ) (c : CongestionConfig) (time : ℕ) (s : Station) (made_it : made_station N0 N1 N2 c time ≡ Ok s) where
  abbrev new : Station
  new = new_station (station_config_of c) time

  passed : (verdict_of (room_checks N0 N1 N2 c time) ≡ Ok tt) × (s ≡ new)
  unfolding made_station made_by
  passed = go (verdict_of (room_checks N0 N1 N2 c time)) refl made_it
    where
      go : (v : Verdict) → verdict_of (room_checks N0 N1 N2 c time) ≡ v → made_by v new ≡ Ok s → (verdict_of (room_checks N0 N1 N2 c time) ≡ Ok tt) × (s ≡ new)
      go (Ok u) q e = (q, cc)
      go (Err r) q e = absurd (cc)

  pub station_is : s ≡ new
  station_is = passed.1

  none : NoneApplies (room_checks N0 N1 N2 c time)
  none = none_where_accepted (room_checks N0 N1 N2 c time) passed.0

  abbrev no_room : Bool
  no_room = not (fits N0 N1 N2 (limits_of c))

  beyond : (rates_beyond c ≡ false) × (floats_beyond c || (queues_beyond c || no_room) ≡ false)
  beyond = or_parts (rates_beyond c) (floats_beyond c || (queues_beyond c || no_room)) (none SettingsBeyond)

  has_room : fits N0 N1 N2 (limits_of c) ≡ true
  has_room =
      let rest = or_parts (floats_beyond c) (queues_beyond c || no_room) beyond.1 in
      not-false (fits N0 N1 N2 (limits_of c)) (or_parts (queues_beyond c) no_room rest.1).1

  -- ---- the domain

  rates-least : 1 ≤ c.min_rate_bps
  unfolding rates_beyond
  rates-least = ltb-false _ _ (or_parts (ltb c.min_rate_bps 1) _ beyond.0).0

  rates-most : c.max_rate_bps ≤ 1000000000
  unfolding rates_beyond
  rates-most =
      ltb-false _ _
      (or_parts (ltb 1000000000 c.max_rate_bps) _
      (or_parts (ltb 1000000000 c.min_rate_bps) _ (or_parts (ltb c.min_rate_bps 1) _ beyond.0).1).1).0

  pub domain : Domain c
  domain =
      record {
        least = rates-least;
        ordered = rates_ordered c (none SettingsInvalid);
        most = rates-most;
        limited = λ t r. limited_made N0 N1 N2 (limits_of c) t r has_room;
      }

-- ---- a station just made

-- over any pool that is long enough
pub sound_new :
    (c : CongestionConfig) (time : ℕ) (pool : List ℕ) → Domain c → bytes_of (slots_needed (limits_of c)) ≤ length pool
    → IsSound (limits_of c) pool (new_station (station_config_of c) time) empty_book
sound_new c time pool ok wide =
    record {
      seated = record { places = refl; fits = omega arith };
      same_limits = refl;
      limited = ok.limited;
      wide = wide;
      counted = omega arith;
      used = λ i. omega arith;
      balanced = λ i. balanced_empty;
      pages = λ i lo. absurd (omega arith);
      tallies = λ i lo. absurd (omega arith);
      few = λ i k lo lt ne. absurd (omega arith);
      unregistered = λ i h. refl;
    }

pub ticking_new : (c : CongestionConfig) (time : ℕ) → Domain c → IsTicking (new_station (station_config_of c) time)
ticking_new c time ok =
    record {
      least = ok.least;
      ordered = ok.ordered;
      most = ok.most;
      seated = record { places = refl; fits = omega arith };
      buckets = λ i lo. absurd (omega arith);
    }

pub known_new : (c : CongestionConfig) (time : ℕ) → IsKnown (new_station (station_config_of c) time)
unfolding new_controller
known_new c time =
    record {
      in_order = in_order [];
      few = omega arith;
      seated = record { places = refl; fits = omega arith };
      has = λ i lo. absurd (omega arith);
    }
