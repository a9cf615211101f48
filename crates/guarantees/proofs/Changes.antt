-- What a call does to a station, in six cases: it is turned down, steers the controller alone, gives new budgets, registers a writer,
-- hands in a record, or attempts to send one. Assumes nothing.
-- Stays: the six cases by which Budgets, Pages, Paces, Sound and Waits go over the calls (`by_case`); no crate below knows calls.
use Prim.Native.Nat.{ℕ, ◌^◌, ◌≤◌, ◌<◌}
use mathlib.Core.Bool.{Bool, false}
use mathlib.Core.List.{List}
use mathlib.Core.Logic.{◌≢◌}
use mathlib.Core.Path.{◌≡◌, refl, sym, subst, ◌∙◌}
use borrow.Author.Tests.{ne_eqb, ltb-false, leb-false}
use lib.Dec.{ltb, leb}
use lib.Ieee.{Float}
use lib.ListN.{length}
use Rattle.std.specs.Prelude.{Ok, Err}
use Rattle.config.proofs.Refusals.{Verdict, NoneApplies, none_where_accepted, no_refusal_zero, no_refusal_twelve}
use Rattle.config.specs.Ledger.{timed_checks, rate_checks}
use Rattle.config.specs.Refusal.{Check, applies, verdict_of, number_of}
use Rattle.config.specs.declared.alone.Left.{Left}
use Rattle.config.specs.declared.config.Priority.{Priority}
use Rattle.config.specs.declared.refusal.Refusal.{Refusal}
use Rattle.config.specs.declared.refusal.Refusal.TheVariants.{RecordTooLong, TimeBeyond, BufferTooShort, CallsUsedUp, TimeBack, WriterUnknown, TableFull}
use Rattle.control.specs.BudgetAllocator.{reallocated}
use Rattle.control.specs.Controller.{sampled, ticked_with, core_ticked, controller_ticked, controller_set}
use Rattle.control.specs.declared.controller.CongestionController.{CongestionController}
use Rattle.control.specs.declared.controller.ControllerCore.{ControllerCore}
use Rattle.numeric.proofs.Choice.{by_test}
use Rattle.queue.specs.Pool.{Limits, is_short}
use Rattle.queue.specs.declared.entry.InstanceKey.{InstanceKey}
use Rattle.pacing.specs.WriterPacer.{action_number, hand_in_stored}
use Rattle.pacing.specs.declared.send_action.SendAction.{SendAction}
use Rattle.pacing.specs.declared.send_action.SendAction.TheVariants.{Send, Empty, RateLimited}
use Rattle.signals.specs.RttEstimator.{any_inflated}
use Rattle.station.specs.Station.{Station, turned_down, left_by, answer_with, register_checks, register_leaves, registered_station, steered, eagain_station, nacks_station, tos_station, rtt_checks, rtt_station, allotted, tick_leaves, ticked_by, ticked_station, rated_station, limits_in, slots_needed, hand_in_checks, enqueued_in, hand_in_leaves, handed_station, pool_by, pool_handed, send_checks, attempt_in, send_leaves, sent_station}
use Rattle.guarantees.specs.Book.{Book, Sent, none, sent_in, noted}
use Rattle.guarantees.specs.Calls.{Lent, owed, Steering, eagain, tos, nacks, rtt, tick, set_rate, Call, register, control, hand_in, send, controlled, Reply, nothing, signal, unchanged, updates, action, Outcome, outcome_of, plain, signals, rows_of, allots, rates, hands, attempts, lent_length, lent_in, outcome, written}
use Rattle.guarantees.specs.Theorem.{is_updates, begins, paid_by}

-- ---- calls and replies that concern no record

-- a call that the book and the pool do not notice
pub record IsQuiet (x : Call) : Type 0 where
  pub book : (m : Limits) (b : Book) (answer : ℕ) (s : Sent) → noted m b x answer s ≡ b
  pub pool : (s : Station) (n : ℕ) (p : List ℕ) → written s n x p ≡ p
  pub lent : lent_in x ≡ owed
  pub pays : (i : ℕ) (reply : Reply) → paid_by i x reply ≡ 0
  pub registers_none : (i : ℕ) (s : Station) (answer : ℕ) → begins i s x answer ≡ false

quiet_control : (time : ℕ) (steering : Steering) → IsQuiet (control time steering)
unfolding noted written paid_by
quiet_control time steering =
    record {
      book = λ m b a s. refl;
      pool = λ s n p. refl;
      lent = refl;
      pays = λ i r. refl;
      registers_none = λ i s a. refl;
    }

-- a call turned down registers nobody
pub begins-down : (i : ℕ) (s : Station) (x : Call) (answer : ℕ) → answer ≢ 0 → begins i s x answer ≡ false
begins-down i s (register time id class) answer z = rw (ne_eqb answer 0 z)
begins-down i s (control time steering) answer z = refl
begins-down i s (hand_in time j class key bytes lent) answer z = refl
begins-down i s (send time j lent) answer z = refl

-- a reply that tells of no record and of no budgets
pub record IsSilent (r : Reply) : Type 0 where
  pub sends_none : sent_in r ≡ none
  pub no_updates : is_updates r ≡ false

-- ---- what an accepted call has passed

pub record Timed (s : Station) (time : ℕ) : Type 0 where
  pub latest : time ≤ 2 ^ 62
  pub room : s.ledger.calls < 2 ^ 40
  pub ahead : s.ledger.last ≤ time

timed_by :
    (s : Station) (time : ℕ) (checks : List Check) → applies checks TimeBeyond ≡ ltb (2 ^ 62) time → applies checks CallsUsedUp ≡ leb (2 ^ 40) s.ledger.calls
    → applies checks TimeBack ≡ ltb time s.ledger.last → NoneApplies checks → Timed s time
timed_by s time checks a b c n =
    record {
      latest = ltb-false _ _ (sym a ∙ n TimeBeyond);
      room = leb-false _ _ (sym b ∙ n CallsUsedUp);
      ahead = ltb-false _ _ (sym c ∙ n TimeBack);
    }

-- a call that answers by its checks is turned down for a reason, or has passed them all
by_verdict :
    {T : Type 0} (P : Left Station T → Type 0) (s : Station) (checks : List Check) (done : Left Station T)
    → ((e : Refusal) → verdict_of checks ≡ Err e → P (turned_down s e)) → (verdict_of checks ≡ Ok tt → NoneApplies checks → P done)
    → P (left_by (verdict_of checks) s done)
unfolding left_by
by_verdict P s checks done down go = by (verdict_of checks) refl
  where
    by : (v : Verdict) → verdict_of checks ≡ v → P (left_by v s done)
    by (Ok u) e = go e (none_where_accepted checks e)
    by (Err r) e = down r e

-- ---- the cases; n is the length of the pool that the last call left

pub record Cases (s : Station) (n : ℕ) (P : Call → Outcome → Type 0) : Type 0 where
  pub turned_down :
      (x : Call) (answer : ℕ) → answer ≢ 0 → answer ≢ 12 → ((p : List ℕ) → written s n x p ≡ p) → P x (outcome_of answer nothing s)
  pub steers :
      (x : Call) (time : ℕ) (reply : Reply) (c : CongestionController) → c.allocator ≡ s.controller.allocator → IsQuiet x → IsSilent reply → Timed s time
      → P x (outcome_of 0 reply (steered s time c))
  pub allots :
      (x : Call) (time : ℕ) (c : CongestionController) (rate : ℕ)
      → c.allocator ≡ reallocated s.controller.allocator s.config.controller.allocation rate → IsQuiet x → Timed s time
      → P x (outcome_of 0 (updates (rows_of (allotted s time c))) (allotted s time c))
  pub registers : (time id : ℕ) (class : Priority) → Timed s time → s.roster.count < 4 → P (register time id class) (outcome_of 0 nothing (register_leaves s time id class))
  pub hands :
      (time i : ℕ) (c : Priority) (key : InstanceKey) (bytes : List ℕ) (lent : Lent) → Timed s time → i < s.roster.count → length bytes ≤ 1472
      → is_short (lent_length n lent) (slots_needed (limits_in s)) ≡ false
      → ((p : List ℕ) → written s n (hand_in time i c key bytes lent) p ≡ hand_in_stored p (limits_in s) i c (enqueued_in s i c key (length bytes)).1 bytes)
      → P (hand_in time i c key bytes lent) (hands (hand_in_leaves s time i (enqueued_in s i c key (length bytes))))
  pub tries :
      (time i : ℕ) (lent : Lent) → Timed s time → i < s.roster.count → is_short (lent_length n lent) (slots_needed (limits_in s)) ≡ false
      → P (send time i lent) (outcome_of 0 (action (attempt_in s time i).1) (send_leaves s time i (attempt_in s time i)).state)

-- what a send attempt comes to is accepted
accepts : (a : SendAction) → action_number a ≡ 0
accepts (Send c slot sequence n forced) = refl
accepts Empty = refl
accepts (RateLimited wait) = refl

-- a send attempt is turned down, or comes to what its pacer's attempt does
module _ (s : Station) (n time i : ℕ) (lent : Lent) (P : Outcome → Type 0) where
  abbrev checks : List Check
  checks = send_checks s (lent_length n lent) time i

  abbrev tried : Left Station SendAction
  tried = send_leaves s time i (attempt_in s time i)

  pub by_send :
      ((answer : ℕ) → answer ≢ 0 → answer ≢ 12 → P (outcome_of answer nothing s))
      → (Timed s time → i < s.roster.count → is_short (lent_length n lent) (slots_needed (limits_in s)) ≡ false
      → P (outcome_of 0 (action (attempt_in s time i).1) tried.state))
      → P (outcome s n (send time i lent))
  unfolding outcome sent_station
  by_send down taken =
      by_verdict (λ (r : Left Station SendAction). P (attempts r)) s checks tried
      (λ e q. down (number_of e) (no_refusal_zero e) (no_refusal_twelve e))
      (λ q h.
      rw (accepts (attempt_in s time i).1)
      (taken (timed_by s time checks refl refl refl h) (leb-false _ _ (h WriterUnknown)) (h BufferTooShort)))

module _ (s : Station) (n : ℕ) (P : Call → Outcome → Type 0) (cases : Cases s n P) where
  -- a call that answers by its checks; `wrap` makes the outcome
  by-checks :
      {T : Type 0} (x : Call) (wrap : Left Station T → Outcome) (checks : List Check) (done : Left Station T)
      → ((e : Refusal) → wrap (turned_down s e) ≡ outcome_of (number_of e) nothing s)
      → ((e : Refusal) → verdict_of checks ≡ Err e → (p : List ℕ) → written s n x p ≡ p)
      → (verdict_of checks ≡ Ok tt → NoneApplies checks → P x (wrap done)) → P x (wrap (left_by (verdict_of checks) s done))
  by-checks {T} x wrap checks done down still go =
      by_verdict (λ (r : Left Station T). P x (wrap r)) s checks done
      (λ e q. subst (P x) (sym (down e)) (cases.turned_down x (number_of e) (no_refusal_zero e) (no_refusal_twelve e) (still e q))) go

  passed : (time : ℕ) → NoneApplies (timed_checks s.ledger time) → Timed s time
  passed time h = timed_by s time (timed_checks s.ledger time) refl refl refl h

  -- the controller is steered, and the reply tells of no record and no budgets
  steers-by :
      (time : ℕ) (steering : Steering) (reply : Reply) (c : CongestionController) → c.allocator ≡ s.controller.allocator → sent_in reply ≡ none
      → is_updates reply ≡ false → Timed s time → P (control time steering) (outcome_of 0 reply (steered s time c))
  steers-by time steering reply c same sends tells h =
      cases.steers (control time steering) time reply c same (quiet_control time steering) (record { sends_none = sends; no_updates = tells }) h

  ticks : (time : ℕ) (k : ControllerCore × Bool) → Timed s time → P (control time tick) (allots (tick_leaves s time (ticked_with s.controller s.config.controller k)))
  ticks time k h =
      by_test (λ (t : CongestionController × Bool). P (control time tick) (allots (tick_leaves s time t))) k.1
      (λ e. cases.allots (control time tick) time _ k.0.rate_controller.current_rate refl (quiet_control time tick) h)
      (λ e. steers-by time tick unchanged _ refl refl refl h)

  -- a sample leaves the allocator
  sample-leaves :
      (time peer : ℕ) (sample : Float) → (sampled s.controller s.config.controller time peer sample).allocator ≡ s.controller.allocator
  unfolding sampled
  sample-leaves time peer sample =
      by_test (λ (c : CongestionController). c.allocator ≡ s.controller.allocator) s.config.controller.enabled (λ e. refl) (λ e. refl)

  by-control : (time : ℕ) (steering : Steering) → P (control time steering) (controlled s time steering)
  unfolding controlled written eagain_station nacks_station tos_station rtt_station ticked_by ticked_station rated_station controller_ticked controller_set
  by-control time eagain =
      by-checks (control time eagain) plain (timed_checks s.ledger time) _ (λ e. refl) (λ e q p. refl)
      (λ q h. steers-by time eagain nothing _ refl refl refl (passed time h))
  by-control time (tos byte) =
      by-checks (control time (tos byte)) signals (timed_checks s.ledger time) _ (λ e. refl) (λ e q p. refl)
      (λ q h. steers-by time (tos byte) (signal _) _ refl refl refl (passed time h))
  by-control time (nacks count) =
      by-checks (control time (nacks count)) plain (timed_checks s.ledger time) _ (λ e. refl) (λ e q p. refl)
      (λ q h. steers-by time (nacks count) nothing _ refl refl refl (passed time h))
  by-control time (rtt peer sample) =
      by-checks (control time (rtt peer sample)) plain (rtt_checks s time peer sample) _ (λ e. refl) (λ e q p. refl)
      (λ q h.
      steers-by time (rtt peer sample) nothing _ (sample-leaves time peer sample) refl refl
      (timed_by s time (rtt_checks s time peer sample) refl refl refl h))
  by-control time tick =
      by-checks (control time tick) allots (timed_checks s.ledger time) (tick_leaves s time (controller_ticked s.controller s.config.controller time)) (λ e. refl) (λ e q p. refl)
      (λ q h. ticks time (core_ticked s.controller.core s.config.controller time (any_inflated s.controller.tracker)) (passed time h))
  by-control time (set_rate rate) =
      by-checks (control time (set_rate rate)) rates (rate_checks s.ledger time rate)
      (answer_with (Ok tt) (allotted s time (controller_set s.controller s.config.controller time rate))) (λ e. refl) (λ e q p. refl)
      (λ q h.
      cases.allots (control time (set_rate rate)) time (controller_set s.controller s.config.controller time rate) rate refl (quiet_control time (set_rate rate))
      (timed_by s time (rate_checks s.ledger time rate) refl refl refl h))

  -- every call is one of the cases
  pub by_case : (x : Call) → P x (outcome s n x)
  unfolding outcome written pool_by pool_handed registered_station handed_station
  by_case (register time id class) =
      by-checks (register time id class) plain (register_checks s time id) (answer_with (Ok tt) (register_leaves s time id class)) (λ e. refl) (λ e q p. refl)
      (λ q h. cases.registers time id class (timed_by s time (register_checks s time id) refl refl refl h) (leb-false _ _ (h TableFull)))
  by_case (control time steering) = by-control time steering
  by_case (hand_in time i c key bytes lent) =
      by-checks (hand_in time i c key bytes lent) hands (hand_in_checks s (lent_length n lent) time i (length bytes)) _ (λ e. refl) (λ e q p. rw q)
      (λ q h.
      cases.hands time i c key bytes lent (timed_by s time (hand_in_checks s (lent_length n lent) time i (length bytes)) refl refl refl h)
      (leb-false _ _ (h WriterUnknown)) (ltb-false _ _ (h RecordTooLong)) (h BufferTooShort) (λ p. rw q))
  by_case (send time i lent) =
      by_send s n time i lent (P (send time i lent)) (λ answer z t. cases.turned_down (send time i lent) answer z t (λ p. refl)) (cases.tries time i lent)
