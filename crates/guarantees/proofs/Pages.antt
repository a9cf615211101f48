-- A sound station matches its book after every call of a list, and each record sent is the first that its page lists; in the owed pool
-- the bytes too. Assumes nothing.
-- Stays: what Theorem, Budgets and Waits cite of a station beside its book (`fates`, `each`); no crate below has the book.
use Prim.Native.Nat.{ℕ, ◌+◌, ◌≤◌, ◌<◌}
use mathlib.Core.Bool.{Bool, true, false}
use mathlib.Core.List.{List, [], ◌∷◌, ◌++◌, map}
use mathlib.Core.Path.{◌≡◌, refl, sym, ap, subst, ◌∙◌}
use native.Mathlib.Omega.{arith}
use borrow.Author.Tests.{ltb-false}
use lib.ListN.{length, get_or}
use Rattle.std.proofs.lemmas.List.{nil_from_length, take_more}
use Rattle.config.specs.declared.config.Priority.{Priority}
use Rattle.queue.specs.Pool.{Limits, bytes_of, is_short}
use Rattle.pacing.proofs.Records.{length-waiting, entries-waiting}
use Rattle.pacing.specs.Records.{Held, nobody, waiting, parts_of, Shows}
use Rattle.pacing.specs.WriterPacer.{sent_bytes}
use Rattle.pacing.specs.declared.send_action.SendAction.{SendAction}
use Rattle.pacing.specs.declared.send_action.SendAction.TheVariants.{Send, Empty, RateLimited}
use Rattle.station.specs.Station.{Station, pacer_in, limits_in, slots_needed, shown_bytes, attempt_in}
use Rattle.guarantees.specs.Book.{Page, Book, none, sent_in, noted}
use Rattle.guarantees.specs.Calls.{Lent, owed, instead, Call, register, control, hand_in, send, action, Outcome, outcome, lent_length, lent_in, in_place, written, shown_by, answered, after}
use Rattle.guarantees.specs.Theorem.{Kept, keep, keeps, Always, Each, enqueued_of, sent_of, dropped_of, coalesced_of, metrics_of, ring_in, queued, Matched, IsFated, ActionShows, ReplyShows, Sends, IsShown, HoldsBytes, FirstBytes, ShownBytes, IsOwedOrShort, IsOwed, Fates}
use Rattle.guarantees.proofs.Changes.{Cases, by_case, by_send}
use Rattle.guarantees.proofs.Fates.{one-fate}
use Rattle.guarantees.proofs.HandIns.{page_view, count_is, tries_out}
use Rattle.guarantees.proofs.Sound.{IsSound, noted-down, sound_outcome}
use Rattle.guarantees.proofs.Tallies.{IsTallied}

-- ---- what a match says

-- a page's list is the queue's, in order
module _ (m : Limits) (g : List ℕ) (s : Station) (b : Book) (ok : IsSound m g s b) (i : ℕ) (lo : i < s.roster.count) where
  in_order : (c : Priority) → queued s i c ≡ map (λ (x : Held). x.entry) ((b i).queues c).waiting
  in_order c = sym (entries-waiting m i (pacer_in s i) g c) ∙ ap (map (λ (x : Held). x.entry)) ((ok.pages i lo).lists c)

  tally : IsTallied (pacer_in s i) (b i)
  tally = ok.tallies i lo

  waiting_is : (c : Priority) → ring_in s i c ≡ length ((b i).queues c).waiting
  waiting_is c = count_is m i (parts_of (pacer_in s i) g) (b i) (ok.pages i lo) c

  own_sum :
      (c : Priority)
      → enqueued_of (metrics_of s i) c ≡ sent_of (metrics_of s i) c + dropped_of (metrics_of s i) c + coalesced_of (metrics_of s i) c + ring_in s i c
  own_sum c =
      omega (
        arith,
        (one-fate ((b i).queues c) _ ((ok.balanced i).balanced c)).sum,
        tally.accepted c,
        tally.sent c,
        tally.pushed_out c,
        tally.replaced c,
        waiting_is c,
      )

  matched : (c : Priority) → Matched s i c ((b i).queues c)
  matched c =
      record {
        in_order = in_order c;
        accepted_is = tally.accepted c;
        sent_is = tally.sent c;
        pushed_out_is = tally.pushed_out c;
        replaced_is = tally.replaced c;
        waiting_is = waiting_is c;
        own_sum = own_sum c;
      }

pub fated : (m : Limits) (g : List ℕ) (k : Kept) → IsSound m g k.state.station k.book → IsFated k
fated m g k ok =
    record {
      one-fate = λ i c. one-fate ((k.book i).queues c) _ ((ok.balanced i).balanced c);
      matched = λ i lo. matched m g k.state.station k.book ok i lo;
      unregistered = ok.unregistered;
      exact = λ i n lo lt ne. omega (arith, ok.few i n lo lt ne, ok.counted);
    }

-- ---- what is shown

module _ (m : Limits) (i : ℕ) (g : List ℕ) (p : Page) where
  action-shows : (a : SendAction) → Shows m i g (page_view p) a → ActionShows p a
  action-shows (Send c slot sequence n forced) w =
      record {
        first = get_or (p.queues c).waiting 0 nobody;
        is_first = take_more (p.queues c).waiting 0 nobody w.waits;
        sequence_is = w.sequence_is;
        length_is = w.length_is;
      }
  action-shows Empty w = tt
  action-shows (RateLimited wait) w = tt

  action-bytes : (a : SendAction) → Shows m i g (page_view p) a → FirstBytes p (sent_bytes m i a g) (action a)
  action-bytes (Send c slot sequence n forced) w = λ first e.
      sym w.bytes_are
      ∙ ap (λ (xs : List Held). (get_or xs 0 nobody).bytes) (sym (take_more (p.queues c).waiting 0 nobody w.waits) ∙ e)
  action-bytes Empty w = tt
  action-bytes (RateLimited wait) w = tt

-- a claim about send attempts is owed for a call that is one
by_sends : (P : ℕ → Type 0) (x : Call) → ((time i : ℕ) (lent : Lent) → x ≡ send time i lent → P i) → Sends P x
by_sends P (send time i lent) f = f time i lent refl
by_sends P (register time id class) f = tt
by_sends P (control time steering) f = tt
by_sends P (hand_in time i class key bytes lent) f = tt

-- a call shows the bytes of the first of a class of pacer i
abbrev BytesBy : Kept → ℕ → Call → Type 0
BytesBy k i x =
    FirstBytes (k.book i) (shown_by k.state.station i (answered k.state x).reply (in_place k.state.station (lent_in x) k.state.pool))
    (answered k.state x).reply

module _ (m : Limits) (g : List ℕ) (k : Kept) (ok : IsSound m g k.state.station k.book) where
  abbrev s : Station
  s = k.state.station

  shows : (time i : ℕ) → i < s.roster.count → Shows m i g (page_view (k.book i)) (attempt_in s time i).1
  shows time i lo = (tries_out m i (parts_of (pacer_in s i) g) (k.book i) s.config.pacer.enabled time (ok.pages i lo)).0

  pub shown : (x : Call) → IsShown k x
  unfolding IsShown
  shown x =
      by_sends (λ i. ReplyShows (k.book i) (answered k.state x).reply) x
      (λ time i lent e.
      subst (λ (y : Call). ReplyShows (k.book i) (answered k.state y).reply) (sym e)
      (by_send s (length k.state.pool) time i lent (λ o. ReplyShows (k.book i) o.reply) (λ answer z t. tt)
      (λ h lo wide. action-shows m i g (k.book i) (attempt_in s time i).1 (shows time i lo))))

  -- where the pool that a call is lent is g
  pub shown_bytes_lem : (x : Call) → in_place s (lent_in x) k.state.pool ≡ g → ShownBytes k x
  unfolding ShownBytes
  shown_bytes_lem x is =
      by_sends (λ i. BytesBy k i x) x
      (λ time i lent e.
      subst (BytesBy k i) (sym e)
      (by_send s (length k.state.pool) time i lent
      (λ o. FirstBytes (k.book i) (shown_by s i o.reply (in_place s lent k.state.pool)) o.reply) (λ answer z t. tt)
      (λ h lo wide.
      let a : SendAction = (attempt_in s time i).1 in
      subst (λ (pool : List ℕ). FirstBytes (k.book i) (shown_bytes s i a pool) (action a))
      (sym (subst (λ (y : Call). in_place s (lent_in y) k.state.pool ≡ g) e is))
      (subst (λ (l : Limits). FirstBytes (k.book i) (sent_bytes l i a g) (action a)) (sym ok.same_limits)
      (action-bytes m i g (k.book i) a (shows time i lo))))))

pub holds_bytes : (m : Limits) (k : Kept) → IsSound m k.state.pool k.state.station k.book → HoldsBytes k
holds_bytes m k ok i lo c =
    subst
    (λ (l : Limits).
    waiting l i c (pacer_in k.state.station i) k.state.pool ≡ ((k.book i).queues c).waiting)
    (sym ok.same_limits) ((ok.pages i lo).lists c)

-- ---- lists

-- what holds at the start of a list, and after a call of the rest of it
module _ (m : Limits) (I : Kept → List Call → Type 0) (step : (k : Kept) (x : Call) (xs : List Call) → I k (x ∷ xs) → I (keep m k x) xs) where
  pub always : (P : Kept → Type 0) → ((k : Kept) (xs : List Call) → I k xs → P k) → (k : Kept) (xs : List Call) → I k xs → Always m P k xs
  unfolding Always
  always P holds k [] i = holds k [] i
  always P holds k (x ∷ xs) i = (holds k (x ∷ xs) i, always P holds (keep m k x) xs (step k x xs i))

  pub each :
      (P : Kept → Call → Type 0) → ((k : Kept) (x : Call) (xs : List Call) → I k (x ∷ xs) → P k x) → (k : Kept) (xs : List Call) → I k xs
      → Each m P k xs
  unfolding Each
  each P holds k [] i = tt
  each P holds k (x ∷ xs) i = (holds k x xs i, each P holds (keep m k x) xs (step k x xs i))

  pub kept_to : (k : Kept) (xs ys : List Call) → I k (xs ++ ys) → I (keeps m k xs) ys
  unfolding keeps
  kept_to k [] ys i = i
  kept_to k (x ∷ xs) ys i = kept_to (keep m k x) xs ys (step k x (xs ++ ys) i)

-- sound over some pool: where others write in the pools that are lent, no pool has the bytes, and all else holds
pub record SomePool (m : Limits) (k : Kept) : Type 0 where
  pub pool : List ℕ
  pub sound : IsSound m pool k.state.station k.book

pub some_step : (m : Limits) (k : Kept) (x : Call) (xs : List Call) → SomePool m k → SomePool m (keep m k x)
unfolding keep after
some_step m k x xs ok =
    record {
      pool = written k.state.station (length k.state.pool) x ok.pool;
      sound = sound_outcome m ok.pool k.state.station k.book ok.sound (length k.state.pool) x;
    }

-- sound over the owed pool
pub record OwedPool (m : Limits) (k : Kept) (xs : List Call) : Type 0 where
  pub sound : IsSound m k.state.pool k.state.station k.book
  pub lent : IsOwed m xs

-- a pool as owed, or one too short, leaves the pool in place
owed_in : (m : Limits) (s : Station) → limits_in s ≡ m → (l : Lent) (pool : List ℕ) → IsOwedOrShort m l → in_place s l pool ≡ pool
unfolding in_place
owed_in m s e owed pool h = refl
owed_in m s e (instead other) pool h = rw (ap (λ (x : Limits). is_short (length other) (slots_needed x)) e ∙ h)

module _ (m : Limits) (k : Kept) (x : Call) (xs : List Call) (ok : OwedPool m k (x ∷ xs)) where
  in_place_lem : in_place k.state.station (lent_in x) k.state.pool ≡ k.state.pool
  in_place_lem = owed_in m k.state.station ok.sound.same_limits (lent_in x) k.state.pool ok.lent.0

  owed-step : OwedPool m (keep m k x) xs
  unfolding keep after
  owed-step =
      record {
        sound =
            rw in_place_lem
            (sound_outcome m k.state.pool k.state.station k.book ok.sound (length k.state.pool) x);
        lent = ok.lent.1;
      }

  owed-shown : ShownBytes k x
  owed-shown = shown_bytes_lem m k.state.pool k ok.sound x in_place_lem

-- ---- a first pool that is too short: every hand-in and send attempt is turned down, and nothing waits

record IsShortPool (m : Limits) (k : Kept) (xs : List Call) : Type 0 where
  some : SomePool m k
  short : is_short (length k.state.pool) (slots_needed m) ≡ true
  idle : (i : ℕ) (c : Priority) → ((k.book i).queues c).waiting ≡ []
  lent : IsOwed m xs

lent-short :
    (m : Limits) (l : Lent) (pool : List ℕ) → is_short (length pool) (slots_needed m) ≡ true → IsOwedOrShort m l
    → is_short (lent_length (length pool) l) (slots_needed m) ≡ true
lent-short m owed pool short h = short
lent-short m (instead other) pool short h = h

-- what a call that is lent such a pool leaves
record IsIdle (m : Limits) (b : Book) (s : Station) (n : ℕ) (p : List ℕ) (x : Call) (o : Outcome) : Type 0 where
  pool : written s n x p ≡ p
  book : noted m b x o.answer (sent_in o.reply) ≡ b

idle-outcome :
    (m : Limits) (b : Book) (s : Station) (n : ℕ) (p : List ℕ) (x : Call) → is_short (lent_length n (lent_in x)) (slots_needed (limits_in s)) ≡ true
    → IsIdle m b s n p x (outcome s n x)
unfolding written noted
idle-outcome m b s n p x = by_case s n P cases x
  where
    P : Call → Outcome → Type 0
    P x o = is_short (lent_length n (lent_in x)) (slots_needed (limits_in s)) ≡ true → IsIdle m b s n p x o

    cases : Cases s n P
    cases =
        record {
          turned_down = λ x answer z t still short. record { pool = still p; book = noted-down m b x answer z t };
          steers = λ x time reply c same q silent h short. record { pool = q.pool s n p; book = q.book m b 0 (sent_in reply) };
          allots = λ x time c rate is q h short. record { pool = q.pool s n p; book = q.book m b 0 none };
          registers = λ time id class h lo short. record { pool = refl; book = refl };
          hands = λ time i c key bytes lent h lo size wide puts short. absurd (cc);
          tries = λ time i lent h lo wide short. absurd (cc);
        }

module _ (m : Limits) (k : Kept) (x : Call) (xs : List Call) (ok : IsShortPool m k (x ∷ xs)) where
  too_short : is_short (lent_length (length k.state.pool) (lent_in x)) (slots_needed (limits_in k.state.station)) ≡ true
  too_short =
      ap (λ (l : Limits). is_short (lent_length (length k.state.pool) (lent_in x)) (slots_needed l)) ok.some.sound.same_limits
      ∙ lent-short m (lent_in x) k.state.pool ok.short ok.lent.0

  left-idle : (p : List ℕ) → IsIdle m k.book k.state.station (length k.state.pool) p x (answered k.state x)
  left-idle p = idle-outcome m k.book k.state.station (length k.state.pool) p x too_short

  same_pool : (after k.state x).pool ≡ k.state.pool
  unfolding after
  same_pool =
      (left-idle (in_place k.state.station (lent_in x) k.state.pool)).pool
      ∙ owed_in m k.state.station ok.some.sound.same_limits (lent_in x) k.state.pool ok.lent.0

  short-step : IsShortPool m (keep m k x) xs
  unfolding keep
  short-step =
      record {
        some = some_step m k x xs ok.some;
        short = ap (λ (p : List ℕ). is_short (length p) (slots_needed m)) same_pool ∙ ok.short;
        idle = λ i c. ap (λ (b : Book). ((b i).queues c).waiting) (left-idle []).book ∙ ok.idle i c;
        lent = ok.lent.1;
      }

  -- no send attempt is accepted
  short-shown : ShownBytes k x
  unfolding ShownBytes
  short-shown =
      by_sends (λ i. BytesBy k i x) x
      (λ time i lent e.
      subst (BytesBy k i) (sym e)
      (by_send k.state.station (length k.state.pool) time i lent
      (λ o. FirstBytes (k.book i) (shown_by k.state.station i o.reply (in_place k.state.station lent k.state.pool)) o.reply) (λ answer z t. tt)
      (λ h lo wide.
      let short = subst (λ (y : Call). is_short (lent_length (length k.state.pool) (lent_in y)) (slots_needed (limits_in k.state.station)) ≡ true) e too_short in
      absurd (cc))))

short_holds : (m : Limits) (k : Kept) (xs : List Call) → IsShortPool m k xs → HoldsBytes k
short_holds m k xs ok i lo c =
    nil_from_length _
    (length-waiting (limits_in s) i (pacer_in s i) k.state.pool c
    ∙ count_is m i (parts_of (pacer_in s i) ok.some.pool) (k.book i) (ok.some.sound.pages i lo) c
    ∙ ap length (ok.idle i c))
    ∙ sym (ok.idle i c)
  where
    s : Station
    s = k.state.station

-- ---- part 1

pub fates :
    (m : Limits) (k : Kept) (xs : List Call) → SomePool m k → ((i : ℕ) (c : Priority) → ((k.book i).queues c).waiting ≡ [])
    → (bytes_of (slots_needed m) ≤ length k.state.pool → IsSound m k.state.pool k.state.station k.book) → Fates m k xs
unfolding is_short
fates m k xs ok idle owns =
    record {
      fated = always m (λ (j : Kept) (ys : List Call). SomePool m j) (some_step m) IsFated (λ j ys i. fated m i.pool j i.sound) k xs ok;
      shown = each m (λ (j : Kept) (ys : List Call). SomePool m j) (some_step m) IsShown (λ j x ys i. shown m i.pool j i.sound x) k xs ok;
      bytes_held = λ lent. (bytes lent (is_short (length k.state.pool) (slots_needed m)) refl).0;
      bytes_shown = λ lent. (bytes lent (is_short (length k.state.pool) (slots_needed m)) refl).1;
    }
  where
    bytes : IsOwed m xs → (t : Bool) → is_short (length k.state.pool) (slots_needed m) ≡ t → Always m HoldsBytes k xs × Each m ShownBytes k xs
    bytes lent true e =
        let start : IsShortPool m k xs = record { some = ok; short = e; idle = idle; lent = lent } in
        (always m (IsShortPool m) (short-step m) HoldsBytes (short_holds m) k xs start, each m (IsShortPool m) (short-step m) ShownBytes (short-shown m) k xs start)
    bytes lent false e =
        let start : OwedPool m k xs = record { sound = owns (ltb-false _ _ e); lent = lent } in
        (always m (OwedPool m) (owed-step m) HoldsBytes (λ j ys i. holds_bytes m j i.sound) k xs start, each m (OwedPool m) (owed-step m) ShownBytes (owed-shown m) k xs start)
