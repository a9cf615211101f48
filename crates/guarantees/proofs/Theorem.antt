-- Demand 3 holds of every list of calls on a new station. Assumes nothing.
-- Stays: `theorem`, what README.md and docs/GUARANTEES.md say of every list of calls; nothing cites it.
use Prim.Native.Nat.{ℕ, ◌≤◌}
use mathlib.Core.List.{List}
use mathlib.Core.Path.{◌≡◌, refl, sym, subst}
use native.Mathlib.Omega.{arith}
use lib.ListN.{length, replicate, length-replicate}
use Rattle.std.specs.Prelude.{Ok}
use Rattle.config.specs.declared.config.CongestionConfig.{CongestionConfig}
use Rattle.queue.specs.Pool.{bytes_of, limits_of}
use Rattle.station.specs.Station.{Station, slots_needed, made_station}
use Rattle.guarantees.specs.Book.{empty_book}
use Rattle.guarantees.specs.Theorem.{started, Theorem}
use Rattle.guarantees.proofs.Budgets.{IsKnown, settings}
use Rattle.guarantees.proofs.Contents.{contents}
use Rattle.guarantees.proofs.Paces.{IsTicking, allowance}
use Rattle.guarantees.proofs.Pages.{SomePool, fates}
use Rattle.guarantees.proofs.Sound.{IsSound}
use Rattle.guarantees.proofs.Starts.{Domain, station_is, domain, sound_new, ticking_new, known_new}
use Rattle.guarantees.proofs.Waits.{waits}

module _ (N0 N1 N2 : ℕ) (c : CongestionConfig) (time : ℕ) (s : Station) (made : made_station N0 N1 N2 c time ≡ Ok s) where
  in_domain : Domain c
  in_domain = domain N0 N1 N2 c time s made

  -- a station just made is sound over any pool that is long enough
  sound-made : (pool : List ℕ) → bytes_of (slots_needed (limits_of c)) ≤ length pool → IsSound (limits_of c) pool s empty_book
  sound-made pool wide =
      subst (λ (t : Station). IsSound (limits_of c) pool t empty_book) (sym (station_is N0 N1 N2 c time s made))
      (sound_new c time pool in_domain wide)

  ticking-made : IsTicking s
  ticking-made = subst IsTicking (sym (station_is N0 N1 N2 c time s made)) (ticking_new c time in_domain)

  known-made : IsKnown s
  known-made = subst IsKnown (sym (station_is N0 N1 N2 c time s made)) (known_new c time)

  -- whatever pool is lent first, as if over a pool of zeros
  some-made : (pool : List ℕ) → SomePool (limits_of c) (started s pool)
  some-made pool =
      record { pool = replicate needed 0; sound = sound-made (replicate needed 0) (rw (length-replicate {A = ℕ} needed 0) (omega arith)) }
    where
      needed : ℕ
      needed = bytes_of (slots_needed (limits_of c))

pub theorem : Theorem
theorem N0 N1 N2 c time pool s made calls =
    record {
      fates =
          fates (limits_of c) (started s pool) calls (some-made N0 N1 N2 c time s made pool) (λ i d. refl) (sound-made N0 N1 N2 c time s made pool);
      allowance =
          record {
            settings = settings (limits_of c) (started s pool) (known-made N0 N1 N2 c time s made) calls;
            within = allowance (started s pool).state (ticking-made N0 N1 N2 c time s made) calls;
          };
      waits = waits (limits_of c) (started s pool) calls (some-made N0 N1 N2 c time s made pool) (ticking-made N0 N1 N2 c time s made);
      contents = contents (started s pool).state calls;
    }
