-- What makes a pacer: queues that there is room for, and settings that have such limits. Assumes nothing.
-- Stays: what `WriterPacer::new` and `with_rate` cite; these are the settings' own limits.
use Rattle.std.proofs.Common.{◌≡◌, ◌≤◌, ℕ, Bool, true, false, true≢false, ◌||◌, cond, ltb, Option, Some, None, Ok, refl, ap, arith}
use Rattle.std.proofs.lemmas.Bool.{le-leb, or_parts, ltb-false}
use Rattle.std.specs.Option.{unwrap_or, is_some}
use Rattle.config.proofs.Refusals.{none_where_accepted}
use Rattle.config.specs.Config.{rates_beyond, floats_beyond, limit_beyond, queues_beyond}
use Rattle.config.specs.Refusal.{verdict_of}
use Rattle.config.specs.declared.config.CongestionConfig.{CongestionConfig}
use Rattle.config.specs.declared.refusal.Refusal.TheVariants.{SettingsBeyond}
use Rattle.queue.specs.Pool.{Limits, limit_of, limits_of}
use Rattle.queue.specs.Waiting.{limit_fits}
use Rattle.queue.proofs.Queues.{held_fits}
use Rattle.pacing.specs.TokenBucket as bucket
use Rattle.pacing.specs.WriterPacer.{Queues, Pacer, pacer_of, new_queues, queues_made, fits, made, limits_held, made_in, burst_of, no_counts}
use Rattle.pacing.specs.WriterPacerAlone.{making_checks}

-- a pacer over queues that were made
pub made_over :
    (N0 N1 N2 time : ℕ) (m : Limits) (rate : ℕ) (q : Queues) → Some q ≡ queues_made N0 N1 N2 m
    → Some (pacer_of q 0 (bucket.made time rate (burst_of rate)) no_counts) ≡ made_in N0 N1 N2 time m rate
made_over N0 N1 N2 time m rate q e = go (fits N0 N1 N2 m) e
  where
    go :
        (t : Bool) → Some q ≡ cond t (Some (new_queues m)) None
        → Some (pacer_of q 0 (bucket.made time rate (burst_of rate)) no_counts) ≡ cond t (Some (made time m rate)) None
    go true e =
        ap (λ (x : Option Queues). let p : Option Pacer = Some (pacer_of (unwrap_or x q) 0 (bucket.made time rate (burst_of rate)) no_counts) in p) e
    go false e = absurd (true≢false (ap is_some e))

-- a limit in its range
limit-fits : (limit most : ℕ) → most ≤ 512 → limit_beyond limit most ≡ false → limit_fits most (limit_of limit) ≡ true
unfolding limit_beyond
limit-fits limit most h e =
    let parts = or_parts (ltb limit 1) (ltb most limit) e in
    let least : 1 ≤ limit_of limit = omega (arith, ltb-false limit 1 parts.0) in
    let within : limit_of limit ≤ most = omega (arith, h, ltb-false most limit parts.1) in
    rw (le-leb 1 (limit_of limit) least, le-leb (limit_of limit) most within, le-leb most 512 h) refl

-- "Queue limits: P0 1 to 128, P1 1 to 512, P2 1 to 128"
pub limits-fit : (c : CongestionConfig) → queues_beyond c ≡ false → fits 128 512 128 (limits_of c) ≡ true
unfolding queues_beyond
limits-fit c e =
    let first = or_parts (limit_beyond c.max_queue_p0 128) _ e in
    let rest = or_parts (limit_beyond c.max_queue_p1 512) _ first.1 in
    rw (limit-fits c.max_queue_p0 128 (omega arith) first.0, limit-fits c.max_queue_p1 512 (omega arith) rest.0, limit-fits c.max_queue_p2 128 (omega arith) rest.1) refl

-- settings that are taken
pub settings-fit :
    (c : CongestionConfig) → (rates_beyond c || (floats_beyond c || queues_beyond c)) ≡ false → fits 128 512 128 (limits_of c) ≡ true
settings-fit c e = limits-fit c (or_parts (floats_beyond c) (queues_beyond c) (or_parts (rates_beyond c) _ e).1).1

-- what is accepted finds room
pub made_always :
    (c : CongestionConfig) (time rate : ℕ) → verdict_of (making_checks c time rate) ≡ Ok tt
    → made_in 128 512 128 time (limits_of c) rate ≡ Some (made time (limits_of c) rate)
made_always c time rate e = rw (settings-fit c (none_where_accepted (making_checks c time rate) e SettingsBeyond)) refl

-- limits that are held find room
pub made_held :
    (time : ℕ) (m : Limits) (rate : ℕ) → made_in 128 512 128 time (limits_held m) rate ≡ Some (made time (limits_held m) rate)
made_held time m rate =
    rw (held_fits 128 m.p0 (omega arith) (omega arith), held_fits 512 m.p1 (omega arith) (omega arith), held_fits 128 m.p2 (omega arith) (omega arith)) refl
