-- A wait that was told is kept: where the next accepted call is that pacer's send attempt a nanosecond or more after it, the record for
-- which it was told goes. Assumes nothing.
-- Stays: what Theorem cites of waits that were told (`waits`); no crate below has calls between a wait and the attempt.
use Prim.Native.Nat.{ℕ, ◌+◌, ◌^◌, ◌≤◌, ◌<◌}
use mathlib.Core.Bool.{true, false}
use mathlib.Core.List.{List, [], ◌∷◌}
use mathlib.Core.Logic.{◌≢◌}
use mathlib.Core.Path.{◌≡◌, refl, sym, ap, subst, ◌∙◌}
use native.Mathlib.Omega.{arith}
use lib.ListN.{length, take}
use Rattle.std.proofs.lemmas.List.{nil_from_length, take_more}
use Rattle.config.specs.Refusal.{accepted}
use Rattle.config.specs.declared.config.Priority.{Priority}
use Rattle.config.specs.declared.config.Priority.TheVariants.{P0, P1, P2}
use Rattle.queue.specs.Entries.{no_entry, no_keyed_entry}
use Rattle.queue.specs.Fates.{fate_number}
use Rattle.queue.specs.declared.entry.Entry.{Entry}
use Rattle.queue.specs.declared.fate.Fate.{Fate}
use Rattle.queue.specs.declared.fate.Fate.TheVariants.{Full, Joined, PushedOut, Replaced}
use Rattle.queue.specs.Pool.{Limits}
use Rattle.pacing.proofs.Records.{Matches, length-waiting, get_or-waiting}
use Rattle.pacing.specs.Records.{Held, nobody, entry_at, held, waiting, parts_of}
use Rattle.pacing.specs.WriterPacer.{Pacer, waiting_in, slot_in, front_of, send_of, sent_from, sent_if}
use Rattle.pacing.specs.declared.send_action.SendAction.{SendAction}
use Rattle.pacing.specs.declared.send_action.SendAction.TheVariants.{RateLimited}
use Rattle.station.specs.Station.{Station, pacer_in, paced, enqueued_in, attempt_in}
use Rattle.guarantees.specs.Book.{Page, Book}
use Rattle.guarantees.specs.Calls.{Lent, Call, send, action, Outcome, outcome, State, answered, after, run}
use Rattle.guarantees.specs.Theorem.{Kept, keep, keeps, bucket_in, AllTurnedDown, HeadGoes}
use Rattle.guarantees.specs.Theorem as theorem
use Rattle.guarantees.proofs.Changes.{Timed, Cases, by_case, by_send}
use Rattle.guarantees.proofs.HandIns.{page_view, count_is}
use Rattle.guarantees.proofs.Paces.{IsTicking, ticking_run}
use Rattle.guarantees.proofs.Pages.{SomePool, some_step, kept_to}
use Rattle.guarantees.proofs.Rosters.{pacer-same}
use Rattle.guarantees.proofs.Sound.{IsSound}
use Rattle.guarantees.proofs.Tokens.{GoesAt, wait_enabled, wait_goes}

-- ---- calls turned down

-- a hand-in that the checks pass is answered 0 or 12
taken_or_full : (f : Fate) → fate_number f ≢ 0 → fate_number f ≢ 12 → ⊥
taken_or_full Full z t = t refl
taken_or_full Joined z t = z refl
taken_or_full PushedOut z t = z refl
taken_or_full Replaced z t = z refl

-- a call turned down leaves the station
still_outcome : (s : Station) (n : ℕ) (x : Call) → (outcome s n x).answer ≢ 0 → (outcome s n x).answer ≢ 12 → (outcome s n x).station ≡ s
still_outcome s n x = by_case s n P cases x
  where
    P : Call → Outcome → Type 0
    P x o = o.answer ≢ 0 → o.answer ≢ 12 → o.station ≡ s

    cases : Cases s n P
    cases =
        record {
          turned_down = λ x answer z t still a b. refl;
          steers = λ x time reply c same q silent h a b. absurd (a refl);
          allots = λ x time c rate is q h a b. absurd (a refl);
          registers = λ time id class h lo a b. absurd (a refl);
          hands = λ time i c key bytes lent h lo short wide puts a b. absurd (taken_or_full (enqueued_in s i c key (length bytes)).1.fate a b);
          tries = λ time i lent h lo wide a b. absurd (a refl);
        }

-- so does a list of them
still_run : (s : State) (xs : List Call) → AllTurnedDown s xs → (run s xs).station ≡ s.station
unfolding run after AllTurnedDown
still_run s [] down = refl
still_run s (x ∷ xs) down =
    still_run (after s x) xs down.1.1 ∙ still_outcome s.station (length s.pool) x down.0 down.1.0

-- ---- a wait told

-- what a station answered and left that told pacer i to wait
record Told (s : Station) (time i wait : ℕ) (t : Station) : Type 0 where
  timed : Timed s time
  seat : i < s.roster.count
  told : (attempt_in s time i).1 ≡ RateLimited wait
  left : t ≡ paced s time i (attempt_in s time i).0

told_by_lem :
    (s : Station) (n time i : ℕ) (lent : Lent) (wait : ℕ) → (outcome s n (send time i lent)).reply ≡ action (RateLimited wait)
    → Told s time i wait (outcome s n (send time i lent)).station
told_by_lem s n time i lent wait =
    by_send s n time i lent (λ o. o.reply ≡ action (RateLimited wait) → Told s time i wait o.station)
    (λ answer z t e. absurd (cc))
    (λ h lo wide e. record { timed = h; seat = lo; told = cc; left = refl })

-- ---- the record goes

-- a class's first entry stands in place 0 of its queue
front_is : (p : Pacer) (c : Priority) → front_of p.queues c ≡ (entry_at p.queues c 0).entry
front_is p P0 = refl
front_is p P1 = refl
front_is p P2 = refl

front_short : (m : Limits) (i : ℕ) (p : Pacer) (g : List ℕ) (b : Page) → Matches m i (parts_of p g) (page_view b) → (c : Priority) → 0 < waiting_in p.queues c
    → (front_of p.queues c).length ≤ 1472
front_short m i p g b ok P0 some = ok.short.p0 0 no_entry some
front_short m i p g b ok P1 some = ok.short.p1 0 no_entry some
front_short m i p g b ok P2 some = ok.short.p2 0 no_keyed_entry some

module _
    (m : Limits) (g : List ℕ) (s : Station) (b : Book) (ok : IsSound m g s b) (tick : IsTicking s) (time i wait : ℕ) (h : Timed s time)
    (lo : i < s.roster.count) (tells : (attempt_in s time i).1 ≡ RateLimited wait)
  where
    abbrev p : Pacer
    p = pacer_in s i

    abbrev q : Pacer
    q = (attempt_in s time i).0

    enabled : s.config.pacer.enabled ≡ true
    enabled = wait_enabled s.config.pacer.enabled p time wait tells

    -- control is on, so the attempt is the pacer's own
    own : (r : Pacer) (later : ℕ) → sent_from r later ≡ sent_if s.config.pacer.enabled r later
    unfolding sent_if
    own r later = rw enabled refl

    matches : Matches m i (parts_of p g) (page_view (b i))
    matches = ok.pages i lo

    goes_at : (later : ℕ) → later ≤ 2 ^ 62 → time + wait + 1 ≤ later → GoesAt p q wait later
    goes_at later most past =
        subst (λ (x : Pacer × SendAction). GoesAt p x.0 wait later) (own p time)
        (wait_goes p time s.ledger.last wait later (tick.buckets i lo) h.ahead most (front_short m i p g (b i) matches)
        (ap (λ (x : Pacer × SendAction). x.1) (own p time) ∙ tells) past)

    -- the first of the page's list is the one in the queue's first place
    abbrev head_of : Priority → Held
    head_of c = held m i c p g 0

    first_is : (c : Priority) → 0 < waiting_in p.queues c → take 1 ((b i).queues c).waiting ≡ head_of c ∷ []
    first_is c some =
        ap (take 1) (sym (matches.lists c)) ∙ take_more (waiting m i c p g) 0 nobody (rw (length-waiting m i p g c) some)
        ∙ ap (λ (x : Held). x ∷ []) (get_or-waiting m i p g c 0 nobody some)

    head_goes : (later : ℕ) → later ≤ 2 ^ 62 → time + wait + 1 ≤ later → HeadGoes (b i) q.tokens wait (action (sent_from q later).1)
    unfolding held
    head_goes later most past =
        let go : GoesAt p q wait later = goes_at later most past in
        record {
          class = go.class;
          head = head_of go.class;
          is_first = first_is go.class go.some;
          none_before = λ d lt.
              nil_from_length ((b i).queues d).waiting
              (sym (count_is m i (parts_of p g) (b i) matches d) ∙ go.none_before d lt);
          worked_out = rw (front_is p go.class) at go.worked_out;
          slot = slot_in q.queues go.class 0;
          goes = ap action go.goes ∙ ap (λ (e : Entry). action (send_of go.class (slot_in q.queues go.class 0) e false)) (front_is p go.class);
        }

    -- the station that told the wait, and its bucket
    abbrev left : Station
    left = paced s time i q

    head-goes-in :
        (later : ℕ) → later ≤ 2 ^ 62 → time + wait + 1 ≤ later
        → HeadGoes (b i) (pacer_in left i).tokens wait (action (attempt_in left later i).1)
    head-goes-in later most past =
        subst (λ (x : Pacer). HeadGoes (b i) x.tokens wait (action (sent_if s.config.pacer.enabled x later).1)) (sym (pacer-same s.roster i q tick.seated lo))
        (subst (λ (x : Pacer × SendAction). HeadGoes (b i) q.tokens wait (action x.1)) (own q later) (head_goes later most past))

-- ---- lists

module _ (m : Limits) (k : Kept) (ok : SomePool m k) (tick : IsTicking k.state.station) where
  abbrev s : Station
  s = k.state.station

  waits-here :
      (i time : ℕ) (lent : Lent) (between : List Call) (later : ℕ) (lent' : Lent) (wait : ℕ)
      → (answered k.state (send time i lent)).reply ≡ action (RateLimited wait)
      → AllTurnedDown (after k.state (send time i lent)) between
      → (answered (run (after k.state (send time i lent)) between) (send later i lent')).answer ≡ accepted
      → time + wait + 1 ≤ later
      → HeadGoes (k.book i) (bucket_in (after k.state (send time i lent)) i) wait
      (answered (run (after k.state (send time i lent)) between) (send later i lent')).reply
  unfolding after
  waits-here i time lent between later lent' wait tells down taken past =
      by_send w.station (length w.pool) later i lent' (λ o. o.answer ≡ 0 → HeadGoes (k.book i) (pacer_in t i).tokens wait o.reply)
      (λ answer z _ e. absurd (z e))
      (λ h lo wide e.
      subst (λ (x : Station). HeadGoes (k.book i) (pacer_in t i).tokens wait (action (attempt_in x later i).1)) (sym (still_run v between down))
      (subst (λ (x : Station). HeadGoes (k.book i) (pacer_in x i).tokens wait (action (attempt_in x later i).1)) (sym told.left)
      (head-goes-in m ok.pool s k.book ok.sound tick time i wait told.timed told.seat told.told later h.latest past)))
      taken
    where
      v : State
      v = after k.state (send time i lent)

      w : State
      w = run v between

      t : Station
      t = (outcome s (length k.state.pool) (send time i lent)).station

      told : Told s time i wait t
      told = told_by_lem s (length k.state.pool) time i lent wait tells

-- the book is kept beside the run
pub keeps-run : (m : Limits) (k : Kept) (xs : List Call) → (keeps m k xs).state ≡ run k.state xs
unfolding keeps keep run
keeps-run m k [] = refl
keeps-run m k (x ∷ xs) = keeps-run m (keep m k x) xs

pub waits : (m : Limits) (start : Kept) (calls : List Call) → SomePool m start → IsTicking start.state.station → theorem.Waits m start calls
waits m start calls ok tick i before time lent between later lent' rest wait whole tells down taken past =
    subst
    (λ (s : State).
    (answered s (send time i lent)).reply ≡ action (RateLimited wait)
    → AllTurnedDown (after s (send time i lent)) between
    → (answered (run (after s (send time i lent)) between) (send later i lent')).answer ≡ accepted
    → HeadGoes ((keeps m start before).book i) (bucket_in (after s (send time i lent)) i) wait
    (answered (run (after s (send time i lent)) between) (send later i lent')).reply)
    (keeps-run m start before)
    (λ e d a.
    waits-here m (keeps m start before) (kept_to m (λ (j : Kept) (ys : List Call). SomePool m j) (some_step m) start before [] ok)
    (subst (λ (x : State). IsTicking x.station) (sym (keeps-run m start before)) (ticking_run start.state tick before))
    i time lent between later lent' wait e d a (omega (arith, past)))
    tells down taken
