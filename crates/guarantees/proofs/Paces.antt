-- The buckets of a station after every call: each stays as the settings have it, and what its pacer sends is covered by tokens and time,
-- from any station on, until its rate is set again. Assumes nothing.
-- Stays: what Theorem, Starts and Waits cite of the buckets of a station (`allowance`); the laws below it are of one bucket (Tokens).
use Prim.Native.Nat.{ℕ, ◌≤◌, ◌<◌}
use mathlib.Core.Bool.{false, true≢false}
use mathlib.Core.List.{List, [], ◌∷◌, ◌++◌}
use mathlib.Core.Logic.{◌≢◌}
use mathlib.Core.Path.{◌≡◌, refl, sym, ap, subst}
use native.Mathlib.Omega.{arith}
use borrow.Author.Tests.{eq-eqb, ne_eqb, eqb-false}
use lib.Dec.{eqb}
use lib.ListN.{length}
use Rattle.config.specs.Ledger.{moved}
use Rattle.config.specs.Refusal.{accepted}
use Rattle.config.specs.declared.config.Priority.{Priority}
use Rattle.control.specs.BudgetAllocator.{is_known}
use Rattle.control.specs.declared.budget_allocator.WriterTable.{WriterTable}
use Rattle.control.specs.declared.controller.CongestionController.{CongestionController}
use Rattle.numeric.proofs.Choice.{by_test}
use Rattle.pacing.specs.WriterPacer.{Pacer}
use Rattle.pacing.specs.declared.token_bucket.TokenBucket.{TokenBucket}
use Rattle.pacing.specs.declared.writer_pacer.PacerConfig.{PacerConfig}
use Rattle.station.specs.Station.{Writer, Roster, Station, station_of, writer_of, writer_at, pacer_in, with_pacer, joined, budgeted, budgeted_all, steered, allotted, register_leaves, first_pacer, paced, enqueued_in, attempt_in}
use Rattle.guarantees.specs.Calls.{Lent, Call, register, control, hand_in, send, nothing, action, Outcome, outcome, State, answered, after, run}
use Rattle.guarantees.specs.Theorem.{bucket_in, sets_by, sets, IsUnset, paid_by, paid, refills_by, refills, Allowance}
use Rattle.guarantees.proofs.Changes.{Timed, Cases, by_case, by_send}
use Rattle.guarantees.proofs.Rosters.{Seated, by_seat, seated_with, joined_other, by_newcomer, seated-joined, budgeted_at, seated-budgeted}
use Rattle.guarantees.proofs.Tokens.{Paced, paced-made, paced-later, paced-rated, paced-attempt, handed_tokens, Covers, refill_of, covers_same, refill-same, covers_then, covers_within, attempt-allowance}

-- ---- buckets as the settings have them

pub record IsTicking (s : Station) : Type 0 where
  pub least : 1 ≤ s.config.pacer.min_rate_bps
  pub ordered : s.config.pacer.min_rate_bps ≤ s.config.pacer.max_rate_bps
  pub most : s.config.pacer.max_rate_bps ≤ 1000000000
  pub seated : Seated s.roster
  pub buckets : (i : ℕ) → i < s.roster.count → Paced s.ledger.last (pacer_in s i).tokens

-- a budget is a rate setting, or nothing
paced-budgeted :
    (c : PacerConfig) (time last : ℕ) (t : WriterTable) (w : Writer) → 1 ≤ c.min_rate_bps → c.min_rate_bps ≤ c.max_rate_bps
    → c.max_rate_bps ≤ 1000000000 → Paced last w.pacer.tokens → last ≤ time → Paced time (budgeted c time t w).pacer.tokens
unfolding budgeted
paced-budgeted c time last t w l m u h ahead =
    by_test (λ (x : Writer). Paced time x.pacer.tokens) (is_known t w.id) (λ e. paced-rated w.pacer c time _ last l m u h ahead)
    (λ e. paced-later h ahead)

module _ (s : Station) (ok : IsTicking s) where
  later : (time : ℕ) → Timed s time → (i : ℕ) → i < s.roster.count → Paced time (pacer_in s i).tokens
  later time h i lo = paced-later (ok.buckets i lo) h.ahead

  -- another controller and roster
  ticking-roster :
      (time : ℕ) (x : CongestionController) (r : Roster) → Seated r
      → ((i : ℕ) → i < r.count → Paced time (writer_at r i).pacer.tokens) → IsTicking (station_of (moved s.ledger time) s.config x r)
  ticking-roster time x r seated buckets =
      record { least = ok.least; ordered = ok.ordered; most = ok.most; seated = seated; buckets = buckets }

  ticking-steered : (time : ℕ) → Timed s time → (x : CongestionController) → IsTicking (steered s time x)
  ticking-steered time h x = ticking-roster time x s.roster ok.seated (later time h)

  ticking-allotted : (time : ℕ) → Timed s time → (x : CongestionController) → IsTicking (allotted s time x)
  unfolding budgeted_all
  ticking-allotted time h x =
      ticking-roster time x _ (seated-budgeted s.config.pacer time x.allocator.table s.roster ok.seated)
      (λ i lo.
      subst (λ (w : Writer). Paced time w.pacer.tokens) (sym (budgeted_at s.config.pacer time x.allocator.table s.roster i ok.seated lo))
      (paced-budgeted s.config.pacer time s.ledger.last x.allocator.table (writer_at s.roster i) ok.least ok.ordered ok.most (ok.buckets i lo) h.ahead))

  ticking-registered : (time id : ℕ) (class : Priority) → Timed s time → s.roster.count < 4 → IsTicking (register_leaves s time id class)
  unfolding register_leaves joined
  ticking-registered time id class h lo =
      ticking-roster time _ (joined s.roster w) (seated-joined s.roster w ok.seated lo)
      (λ i below.
      by_newcomer (λ (j : ℕ) (x : Writer). Paced time x.pacer.tokens) s.roster w i ok.seated lo below
      (paced-made time s.config.pacer.limits s.config.pacer.min_rate_bps ok.least (omega (arith, ok.ordered, ok.most)))
      (later time h i))
    where
      w : Writer
      w = writer_of id (first_pacer s.config.pacer time)

  ticking-paced :
      (time i : ℕ) (p : Pacer) → Timed s time → i < s.roster.count → Paced time p.tokens → IsTicking (paced s time i p)
  unfolding with_pacer
  ticking-paced time i p h lo own =
      ticking-roster time s.controller (with_pacer s.roster i p) (seated_with s.roster i p ok.seated)
      (λ j below.
      by_seat (λ (k : ℕ) (w : Writer). Paced time w.pacer.tokens) s.roster i p j ok.seated lo own
      (λ ne. later time h j below))

  pub ticking_outcome : (n : ℕ) (x : Call) → IsTicking (outcome s n x).station
  ticking_outcome n x = by_case s n (λ y o. IsTicking o.station) cases x
    where
      cases : Cases s n (λ y o. IsTicking o.station)
      cases =
          record {
            turned_down = λ y answer z t still. ok;
            steers = λ y time reply c same q silent h. ticking-steered time h c;
            allots = λ y time c rate is q h. ticking-allotted time h c;
            registers = λ time id class h lo. ticking-registered time id class h lo;
            hands = λ time i c key bytes lent h lo short wide puts.
                ticking-paced time i _ h lo
                (subst (Paced time) (sym (handed_tokens (pacer_in s i) c key (length bytes))) (later time h i lo));
            tries = λ time i lent h lo wide.
                ticking-paced time i _ h lo
                (paced-attempt s.config.pacer.enabled (pacer_in s i) time s.ledger.last (ok.buckets i lo) h.ahead);
          }

pub ticking_run : (s : State) → IsTicking s.station → (xs : List Call) → IsTicking (run s xs).station
unfolding run after
ticking_run s ok [] = ok
ticking_run s ok (x ∷ xs) = ticking_run (after s x) (ticking_outcome s.station ok (length s.pool) x) xs

-- ---- what is sent

-- a call that tells nothing has sent nothing
pays-nothing : (i : ℕ) (x : Call) → paid_by i x nothing ≡ 0
unfolding paid_by
pays-nothing i (send time j lent) = by_test (λ (n : ℕ). n ≡ 0) (eqb j i) (λ e. refl) (λ e. refl)
pays-nothing i (register time id class) = refl
pays-nothing i (control time steering) = refl
pays-nothing i (hand_in time j class key bytes lent) = refl

-- a bucket that stays has sent nothing
still : {b b' : TokenBucket} (bytes : ℕ) → b ≡ b' → bytes ≡ 0 → Covers b b' bytes (refill_of b b')
still bytes e z = rw (z, refill-same e) (covers_same e)

-- what pacer i sends by a call that does not set its rate is covered
module _ (i : ℕ) (s : Station) (ok : IsTicking s) where
  -- the bucket of pacer i in a station
  abbrev tokens_in : Station → TokenBucket
  tokens_in t = (pacer_in t i).tokens

  abbrev CoversIn : Call → Outcome → Type 0
  CoversIn x o =
      sets_by i s x o ≡ false
      → Covers (tokens_in s) (tokens_in o.station) (paid_by i x o.reply) (refill_of (tokens_in s) (tokens_in o.station))

  registered-covers :
      (time id : ℕ) (class : Priority) → i ≢ s.roster.count
      → Covers (tokens_in s) (tokens_in (register_leaves s time id class)) 0 (refill_of (tokens_in s) (tokens_in (register_leaves s time id class)))
  unfolding register_leaves
  registered-covers time id class ne = still 0 (ap (λ (w : Writer). w.pacer.tokens) (sym (joined_other s.roster _ i ne))) refl

  handed-covers :
      (time j : ℕ) (p : Pacer) → j < s.roster.count → p.tokens ≡ (pacer_in s j).tokens
      → Covers (tokens_in s) (tokens_in (paced s time j p)) 0 (refill_of (tokens_in s) (tokens_in (paced s time j p)))
  handed-covers time j p lo same =
      by_seat (λ (k : ℕ) (w : Writer). Covers (pacer_in s k).tokens w.pacer.tokens 0 (refill_of (pacer_in s k).tokens w.pacer.tokens)) s.roster j p i
      ok.seated lo (still 0 (sym same) refl) (λ ne. still 0 refl refl)

  tried-covers :
      (time j : ℕ) (lent : Lent) → Timed s time → j < s.roster.count
      → let t : Station = paced s time j (attempt_in s time j).0 in
      Covers (tokens_in s) (tokens_in t) (paid_by i (send time j lent) (action (attempt_in s time j).1)) (refill_of (tokens_in s) (tokens_in t))
  unfolding paid_by
  tried-covers time j lent h lo =
      by_seat
      (λ (k : ℕ) (w : Writer).
      Covers (pacer_in s k).tokens w.pacer.tokens (paid_by k (send time j lent) (action (attempt_in s time j).1))
      (refill_of (pacer_in s k).tokens w.pacer.tokens))
      s.roster j (attempt_in s time j).0 i ok.seated lo
      (rw (eq-eqb j j refl) (attempt-allowance s.config.pacer.enabled (pacer_in s j) time s.ledger.last (ok.buckets j lo) h.ahead))
      (λ ne. rw (ne_eqb j i (λ (e : j ≡ i). ne (sym e))) (still 0 refl refl))

  pub covers_outcome : (n : ℕ) (x : Call) → CoversIn x (outcome s n x)
  unfolding sets_by paid_by
  covers_outcome n x = by_case s n CoversIn cases x
    where
      cases : Cases s n CoversIn
      cases =
          record {
            turned_down = λ y answer z t same e. still _ refl (pays-nothing i y);
            steers = λ y time reply c same q silent h e. still _ refl (q.pays i reply);
            allots = λ y time c rate is q h e. absurd (true≢false e);
            registers = λ time id class h lo e. registered-covers time id class (eqb-false _ _ e);
            hands = λ time j c key bytes lent h lo short wide puts e.
                handed-covers time j (enqueued_in s j c key (length bytes)).0 lo (handed_tokens (pacer_in s j) c key (length bytes));
            tries = λ time j lent h lo wide e. tried-covers time j lent h lo;
          }

-- ---- lists

-- what pacer i sends by a list that does not set its rate is covered
pub covers_run :
    (i : ℕ) (s : State) → IsTicking s.station → (xs : List Call) → IsUnset i s xs
    → Covers (bucket_in s i) (bucket_in (run s xs) i) (paid i s xs) (refills i s xs)
unfolding run paid refills refills_by IsUnset after
covers_run i s ok [] unset = covers_same refl
covers_run i s ok (x ∷ xs) unset =
    covers_then (paid_by i x (answered s x).reply) (paid i (after s x) xs) _ (refills i (after s x) xs)
    (covers_outcome i s.station ok (length s.pool) x unset.0)
    (covers_run i (after s x) (ticking_outcome s.station ok (length s.pool) x) xs unset.1)

-- one list after another
pub run-append : (s : State) (xs ys : List Call) → run s (xs ++ ys) ≡ run (run s xs) ys
unfolding run
run-append s [] ys = refl
run-append s (x ∷ xs) ys = run-append (after s x) xs ys

unset_more : (i : ℕ) (s : State) (xs : List Call) (x : Call) → IsUnset i s xs → sets i (run s xs) x ≡ false → IsUnset i s (xs ++ (x ∷ []))
unfolding IsUnset run
unset_more i s [] x unset e = (e, tt)
unset_more i s (y ∷ xs) x unset e = (unset.0, unset_more i (after s y) xs x unset.1 e)

-- a send attempt sets no rate
send_unset : (i : ℕ) (s : State) (time j : ℕ) (lent : Lent) → sets i s (send time j lent) ≡ false
unfolding sets_by
send_unset i s time j lent =
    by_send s.station (length s.pool) time j lent (λ o. sets_by i s.station (send time j lent) o ≡ false) (λ answer z t. refl) (λ h lo wide. refl)

-- an accepted one leaves no refill time after its own time
send-refill :
    (s : State) → IsTicking s.station → (time i : ℕ) (lent : Lent) → (answered s (send time i lent)).answer ≡ accepted
    → (bucket_in (after s (send time i lent)) i).last_refill ≤ time
unfolding after with_pacer
send-refill s ok time i lent taken =
    by_send s.station (length s.pool) time i lent
    (λ o. o.answer ≡ 0 → IsTicking o.station → (pacer_in o.station i).tokens.last_refill ≤ time)
    (λ answer z t e. absurd (z e))
    (λ h lo wide e tick. (tick.buckets i lo).before)
    taken
    (ticking_outcome s.station ok (length s.pool) (send time i lent))

-- from each setting of a pacer's rate to any accepted send attempt before the next
pub allowance : (start : State) → IsTicking start.station → (calls : List Call) → Allowance start calls
unfolding run after
allowance start ok calls i before set between time lent rest whole sets unset taken =
    covers_within (paid i t list) (refills i t list) time (covers_run i t ok_t list (unset_more i t between (send time i lent) unset (send_unset i (run t between) time i lent)))
    (subst (λ (u : State). (bucket_in u i).last_refill ≤ time) (sym (run-append t between (send time i lent ∷ [])))
    (send-refill (run t between) (ticking_run t ok_t between) time i lent taken))
  where
    t : State
    t = after (run start before) set

    list : List Call
    list = between ++ (send time i lent ∷ [])

    ok_t : IsTicking t.station
    ok_t = ticking_outcome (run start before).station (ticking_run start ok before) (length (run start before).pool) set
