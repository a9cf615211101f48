-- What holds of a station and its book after every list of calls, and that every call keeps it: the queues hold what the pages list, the
-- counts are the lists' lengths, and no counter has come near its largest value. Assumes nothing.
-- Stays: what Pages, Starts, Theorem and Waits cite of a station that matches its book (`sound_outcome`); no crate below has the book.
use Prim.Native.Nat.{ℕ, suc, ◌+◌, ◌*◌, ◌^◌, ◌≤◌, ◌<◌}
use mathlib.Core.Bool.{Bool, false, cond}
use mathlib.Core.List.{List}
use mathlib.Core.Logic.{◌≢◌}
use mathlib.Core.Path.{◌≡◌, refl, sym, ap, subst, ◌∙◌}
use native.Mathlib.Decide.{ℕ_discrete}
use native.Mathlib.Nat.{mul-le-mul_right, suc-mul}
use native.Mathlib.Omega.{arith}
use borrow.Author.Tests.{eq-eqb, ne_eqb}
use lib.Dec.{eqb}
use lib.ListN.{length, get_or, replicate}
use Rattle.std.proofs.lemmas.Grind.{common_steps}
use Rattle.std.proofs.lemmas.List.{get_or_past, get_or-replicate}
use Rattle.config.specs.Config.{class_number}
use Rattle.config.specs.Ledger.{moved}
use Rattle.config.specs.declared.config.Priority.{Priority}
use Rattle.config.specs.declared.config.Priority.TheVariants.{P0, P1, P2}
use Rattle.control.specs.BudgetAllocator.{is_known}
use Rattle.control.specs.declared.budget_allocator.WriterTable.{WriterTable}
use Rattle.control.specs.declared.controller.CongestionController.{CongestionController}
use Rattle.numeric.proofs.Choice.{by_test}
use Rattle.queue.specs.Fates.{is_full, fate_number}
use Rattle.queue.specs.Pool.{Limits, bytes_of, slots_of, limit_in}
use Rattle.queue.specs.declared.entry.InstanceKey.{InstanceKey}
use Rattle.queue.specs.declared.fate.Fate.{Fate}
use Rattle.queue.specs.declared.fate.Fate.TheVariants.{Full, Joined, PushedOut, Replaced}
use Rattle.queue.specs.declared.fate.Kept.{Kept}
use Rattle.pacing.proofs.Counts.{count_handed, count_sent}
use Rattle.pacing.proofs.Records.{Matches, get_or-waiting, short-at, length-handed, matches_other, stays, made-matches}
use Rattle.pacing.proofs.RecordsLimits.{IsLimited, keeps}
use Rattle.pacing.specs.Counts.{count_in, only_at, fate_adds, hand_adds, send_adds}
use Rattle.pacing.specs.Records.{Held, nobody, held, Parts, parts_of, Shows}
use Rattle.pacing.specs.WriterPacer.{Pacer, with_tokens, waiting_in, made, rate_set, hand_in_stored, sent_if}
use Rattle.pacing.specs.declared.send_action.SendAction.{SendAction}
use Rattle.pacing.specs.declared.send_action.SendAction.TheVariants.{Send, Empty, RateLimited}
use Rattle.pacing.specs.declared.token_bucket.TokenBucket.{TokenBucket}
use Rattle.pacing.specs.declared.writer_pacer.PacerConfig.{PacerConfig}
use Rattle.station.specs.Station.{Station, Roster, Writer, station_of, writer_of, writer_at, pacer_in, with_pacer, limits_in, slots_needed, joined, budgeted, budgeted_all, steered, allotted, register_leaves, first_pacer, paced, enqueued_in, attempt_in}
use Rattle.guarantees.specs.Book.{Page, Book, empty_page, with_page, Sent, none, one, sent_as, sent_in, handed_by, page_after_send, noted}
use Rattle.guarantees.specs.Calls.{Lent, Call, register, control, hand_in, send, Outcome, outcome, written}
use Rattle.guarantees.proofs.Changes.{Timed, Cases, by_case}
use Rattle.guarantees.proofs.Fates.{IsBalancedPage, balanced-noted}
use Rattle.guarantees.proofs.HandIns.{page_view, count_is, least, fate_is, hands_in, TriedBy, tries_out}
use Rattle.guarantees.proofs.Rosters.{Seated, pacer-same, pacer_other, seated_with, by_newcomer, seated-joined, budgeted_at, seated-budgeted}
use Rattle.guarantees.proofs.Tallies.{IsTallied, fate_of, handed_next, handed_tallied, Waits, sent_tallied, tallied_same, tallied_new}

-- `g` is a pool that was lent to every call: the owed one, or any that is long enough where others write in it
pub record IsSound (m : Limits) (g : List ℕ) (s : Station) (b : Book) : Type 0 where
  pub seated : Seated s.roster
  pub same_limits : limits_in s ≡ m
  pub limited : (time rate : ℕ) → IsLimited m (made time m rate)
  pub wide : bytes_of (slots_needed m) ≤ length g
  -- at most 2^40 accepted calls, each of which uses up one number of a pacer at most
  pub counted : s.ledger.calls ≤ 2 ^ 40
  pub used : (i : ℕ) → (b i).next ≤ s.ledger.calls
  pub balanced : (i : ℕ) → IsBalancedPage (b i)
  -- registered pacers; a call adds 1,474 to a count at most, a record's bytes and two more
  pub pages : (i : ℕ) → i < s.roster.count → Matches m i (parts_of (pacer_in s i) g) (page_view (b i))
  pub tallies : (i : ℕ) → i < s.roster.count → IsTallied (pacer_in s i) (b i)
  pub few : (i k : ℕ) → i < s.roster.count → k < 13 → k ≢ 2 → count_in (pacer_in s i) k ≤ s.ledger.calls * 1474
  -- places that nobody has yet
  pub unregistered : (i : ℕ) → s.roster.count ≤ i → b i ≡ empty_page

-- ---- the book's pages

page-same : (b : Book) (i : ℕ) (p : Page) → with_page b i p i ≡ p
unfolding with_page
page-same b i p = rw (eq-eqb i i refl)

page_other : (b : Book) (i : ℕ) (p : Page) (j : ℕ) → j ≢ i → with_page b i p j ≡ b j
unfolding with_page
page_other b i p j ne = rw (ne_eqb j i ne)

-- what holds of pacer i with its new page, and of the others as they were, holds of all
by_page : (P : ℕ → Page → Type 0) (b : Book) (i : ℕ) (p : Page) (j : ℕ) → P i p → (j ≢ i → P j (b j)) → P j (with_page b i p j)
by_page P b i p j here there = go (ℕ_discrete j i)
  where
    go : Dec (j ≡ i) → P j (with_page b i p j)
    go (yes e) = subst (λ (x : ℕ). P x (with_page b i p x)) (sym e) (subst (P i) (sym (page-same b i p)) here)
    go (no ne) = subst (P j) (sym (page_other b i p j ne)) (there ne)

-- a page put back changes nothing
page-back : (b : Book) (i : ℕ) → with_page b i (b i) ≡ b
page-back b i = λ t j. at j t
  where
    at : (j : ℕ) → with_page b i (b i) j ≡ b j
    at j = by_page (λ (k : ℕ) (p : Page). p ≡ b k) b i (b i) j refl (λ ne. refl)

-- a call turned down is not noted
pub noted-down : (m : Limits) (b : Book) (x : Call) (answer : ℕ) → answer ≢ 0 → answer ≢ 12 → noted m b x answer none ≡ b
unfolding noted handed_by page_after_send
noted-down m b (register time id class) answer z t = refl
noted-down m b (control time steering) answer z t = refl
noted-down m b (hand_in time i c key bytes lent) answer z t = rw (ne_eqb answer 0 z, ne_eqb answer 12 t) (page-back b i)
noted-down m b (send time i lent) answer z t = page-back b i

-- ---- no counter saturates

next_small : (m : Limits) (g : List ℕ) (s : Station) (b : Book) → IsSound m g s b → (i : ℕ) → (b i).next < 18446744073709551615
next_small m g s b ok i = omega (arith, ok.used i, ok.counted)

only_most : (at n k : ℕ) → only_at at n k ≤ n
unfolding only_at
only_most at n k = by_test (λ (x : ℕ). x ≤ n) (eqb k at) (λ e. omega arith) (λ e. omega arith)

fate-most : (c : Priority) (f : Fate) (k : ℕ) → fate_adds c f k ≤ 1
fate-most P0 f k = omega arith
fate-most P1 Full k = omega arith
fate-most P1 Joined k = omega arith
fate-most P1 PushedOut k = only_most 9 1 k
fate-most P1 Replaced k = omega arith
fate-most P2 Full k = omega arith
fate-most P2 Joined k = omega arith
fate-most P2 PushedOut k = only_most 1 1 k
fate-most P2 Replaced k = only_most 0 1 k

-- a call adds two to a count at most, bytes apart
hand-most : (c : Priority) (f : Fate) (k : ℕ) → hand_adds c f k ≤ 2
unfolding hand_adds
hand-most c f k =
    by_test (λ (n : ℕ). n ≤ 2) (is_full f) (λ e. omega arith) (λ e. omega (arith, only_most (3 + class_number c) 1 k, fate-most c f k))

-- a record that is sent is no longer than a slot
abbrev IsShortSend : SendAction → Type 0
IsShortSend (Send c slot sequence n forced) = n ≤ 1472
IsShortSend Empty = Unit {0}
IsShortSend (RateLimited wait) = Unit {0}

send-most : (a : SendAction) → IsShortSend a → (k : ℕ) → send_adds a k ≤ 1474
unfolding send_adds
send-most (Send c slot sequence n forced) h k =
    let more : cond forced (only_at 12 1 k) 0 ≤ 1 = by_test (λ (x : ℕ). x ≤ 1) forced (λ e. only_most 12 1 k) (λ e. omega arith) in
    omega (arith, only_most (6 + class_number c) 1 k, only_most 10 n k)
send-most Empty h k = omega arith
send-most (RateLimited wait) h k = omega (arith, only_most 11 1 k)

-- the first of a list that matches its queue is no longer than a slot
first_short :
    (m : Limits) (i : ℕ) (s : Parts) (p : Page) → Matches m i s (page_view p) → (c : Priority) → 0 < length (p.queues c).waiting
    → (get_or (p.queues c).waiting 0 nobody).entry.entry.length ≤ 1472
unfolding held
first_short m i s p ok c some =
    let waits : 0 < waiting_in s.pacer.queues c = omega (arith, count_is m i s p ok c) in
    subst (λ (xs : List Held). (get_or xs 0 nobody).entry.entry.length ≤ 1472) (ok.lists c)
    (rw (get_or-waiting m i s.pacer s.pool c 0 nobody waits) (short-at s.pacer c 0 ok.short waits))

short-send : (m : Limits) (i : ℕ) (s : Parts) (p : Page) → Matches m i s (page_view p) → (a : SendAction) → Shows m i s.pool (page_view p) a → IsShortSend a
short-send m i s p ok (Send c slot sequence n forced) w =
    subst (λ (x : ℕ). x ≤ 1472) w.length_is (first_short m i s p ok c w.waits)
short-send m i s p ok Empty w = tt
short-send m i s p ok (RateLimited wait) w = tt

-- a send attempt adds what it says; with control off nothing is sent, and nothing counted
count_tried :
    (enabled : Bool) (p : Pacer) (time k : ℕ) → k < 13 → k ≢ 2 → count_in p k + send_adds (sent_if enabled p time).1 k ≤ 18446744073709551615
    → count_in (sent_if enabled p time).0 k ≡ count_in p k + send_adds (sent_if enabled p time).1 k
unfolding sent_if send_adds
count_tried enabled p time k lo ne =
    by_test
    (λ (x : Pacer × SendAction). count_in p k + send_adds x.1 k ≤ 18446744073709551615 → count_in x.0 k ≡ count_in p k + send_adds x.1 k)
    enabled (λ e. count_sent p time k lo ne) (λ e h. omega arith)

-- a new pacer has counted nothing
count_made : (time : ℕ) (m : Limits) (rate k : ℕ) → count_in (made time m rate) k ≡ 0
count_made time m rate k = grind (arith, common_steps, get_or_past {X = ℕ} (replicate 13 0) k 0, get_or-replicate {A = ℕ} 13 k 0 0)

-- ---- a registered pacer and its page

-- a pacer's slots lie in a pool that has four pacers'
pub slots_wide : (m : Limits) (i : ℕ) (g : List ℕ) → i < 4 → bytes_of (slots_needed m) ≤ length g → bytes_of (i * slots_of m + slots_of m) ≤ length g
slots_wide m i g h wide = go (slots_of m) (mul-le-mul_right (slots_of m) (le h)) wide
  where
    le : i < 4 → suc i ≤ 4
    le h = omega arith

    go : (n : ℕ) → suc i * n ≤ 4 * n → 4 * n * 1472 ≤ length g → (i * n + n) * 1472 ≤ length g
    go n a b = omega (arith, suc-mul i n)

-- what holds of pacer i and its page after so many calls: a call adds 1,474 to a count at most, a record's bytes and two more
record IsPaged (m : Limits) (g : List ℕ) (calls i : ℕ) (p : Pacer) (b : Page) : Type 0 where
  matches : Matches m i (parts_of p g) (page_view b)
  tallied : IsTallied p b
  few : (k : ℕ) → k < 13 → k ≢ 2 → count_in p k ≤ calls * 1474

-- counts and queues do not depend on tokens
paged_rated :
    (m : Limits) (g : List ℕ) (calls i : ℕ) (p : Pacer) (b : Page) (tokens : TokenBucket)
    → IsPaged m g calls i p b → IsPaged m g calls i (with_tokens p tokens) b
paged_rated m g calls i p b tokens ok =
    record {
      matches = stays m i p (with_tokens p tokens) g (page_view b) refl refl ok.matches;
      tallied = tallied_same p (with_tokens p tokens) b refl ok.tallied;
      few = ok.few;
    }

paged_budgeted :
    (m : Limits) (g : List ℕ) (calls i : ℕ) (b : Page) (c : PacerConfig) (time : ℕ) (t : WriterTable) (w : Writer)
    → IsPaged m g calls i w.pacer b → IsPaged m g calls i (budgeted c time t w).pacer b
unfolding budgeted rate_set
paged_budgeted m g calls i b c time t w ok =
    by_test (λ (x : Writer). IsPaged m g calls i x.pacer b) (is_known t w.id) (λ e. paged_rated m g calls i w.pacer b _ ok) (λ e. ok)

-- a new pacer begins with an empty page
paged_new :
    (m : Limits) (g : List ℕ) (calls i time rate : ℕ) → IsLimited m (made time m rate) → bytes_of (i * slots_of m + slots_of m) ≤ length g
    → IsPaged m g calls i (made time m rate) empty_page
paged_new m g calls i time rate limited wide =
    record {
      matches = made-matches m i time rate g limited wide;
      tallied = tallied_new time m rate;
      few = λ k lt ne. omega (arith, count_made time m rate k);
    }

-- ---- every call keeps it

module _ (m : Limits) (g : List ℕ) (s : Station) (b : Book) (ok : IsSound m g s b) (time : ℕ) (h : Timed s time) where
  abbrev calls : ℕ
  calls = (moved s.ledger time).calls

  calls-next : calls ≡ s.ledger.calls + 1
  calls-next = omega (arith, h.room)

  counted_next : calls ≤ 2 ^ 40
  counted_next = omega (arith, h.room)

  used-next : (i : ℕ) → (b i).next ≤ calls
  used-next i = omega (arith, calls-next, ok.used i)

  -- a pacer that the call does not concern
  paged : (i : ℕ) → i < s.roster.count → IsPaged m g calls i (pacer_in s i) (b i)
  paged i lo =
      record { matches = ok.pages i lo; tallied = ok.tallies i lo; few = λ k lt ne. omega (arith, calls-next, ok.few i k lo lt ne) }

  -- another controller and roster, with no fewer writers; pool and book stay
  sound-roster :
      (x : CongestionController) (r : Roster) → Seated r → s.roster.count ≤ r.count
      → ((i : ℕ) → i < r.count → IsPaged m g calls i (writer_at r i).pacer (b i))
      → IsSound m g (station_of (moved s.ledger time) s.config x r) b
  sound-roster x r seated more pages =
      record {
        seated = seated;
        same_limits = ok.same_limits;
        limited = ok.limited;
        wide = ok.wide;
        counted = counted_next;
        used = used-next;
        balanced = ok.balanced;
        pages = λ i lo. (pages i lo).matches;
        tallies = λ i lo. (pages i lo).tallied;
        few = λ i k lo. (pages i lo).few k;
        unregistered = λ i above. ok.unregistered i (omega arith);
      }

  -- the controller alone
  sound-steered : (x : CongestionController) → IsSound m g (steered s time x) b
  sound-steered x = sound-roster x s.roster ok.seated (omega arith) paged

  -- a budget touches neither queues nor numbers
  sound-allotted : (x : CongestionController) → IsSound m g (allotted s time x) b
  unfolding budgeted_all
  sound-allotted x =
      sound-roster x _ (seated-budgeted s.config.pacer time x.allocator.table s.roster ok.seated)
      (omega arith)
      (λ i own.
      rw (budgeted_at s.config.pacer time x.allocator.table s.roster i ok.seated own)
      (paged_budgeted m g calls i (b i) s.config.pacer time x.allocator.table (writer_at s.roster i) (paged i own)))

  -- a newcomer begins with an empty page
  sound-registered : (id : ℕ) (class : Priority) → s.roster.count < 4 → IsSound m g (register_leaves s time id class) b
  unfolding register_leaves joined
  sound-registered id class lo =
      sound-roster _ (joined s.roster w) (seated-joined s.roster w ok.seated lo) (omega arith)
      (λ i below.
      by_newcomer (λ (j : ℕ) (x : Writer). IsPaged m g calls j x.pacer (b j)) s.roster w i ok.seated lo below new-page (paged i))
    where
      w : Writer
      w = writer_of id (first_pacer s.config.pacer time)

      new-page : IsPaged m g calls s.roster.count (first_pacer s.config.pacer time) (b s.roster.count)
      new-page =
          rw (ok.unregistered s.roster.count (omega arith))
          (subst (λ (l : Limits). IsPaged m g calls s.roster.count (made time l s.config.pacer.min_rate_bps) empty_page) (sym ok.same_limits)
          (paged_new m g calls s.roster.count time s.config.pacer.min_rate_bps (ok.limited time s.config.pacer.min_rate_bps)
          (slots_wide m s.roster.count g lo ok.wide)))

  -- ---- a call on pacer i

  module _ (i : ℕ) (lo : i < s.roster.count) where
    abbrev parts : Parts
    parts = parts_of (pacer_in s i) g

    -- another pacer in its place, and another page; the pool stays as long, and all other queues as their pages have them
    sound-paced :
        (g' : List ℕ) (p : Pacer) (page : Page) → length g' ≡ length g → page.next ≤ s.ledger.calls + 1
        → ((j : ℕ) → IsBalancedPage (with_page b i page j)) → IsPaged m g' calls i p page
        → ((j : ℕ) → j < s.roster.count → j ≢ i → Matches m j (parts_of (pacer_in s j) g') (page_view (b j)))
        → IsSound m g' (paced s time i p) (with_page b i page)
    unfolding with_pacer
    sound-paced g' p page long used balanced own others =
        record {
          seated = seated_with s.roster i p ok.seated;
          same_limits = ok.same_limits;
          limited = ok.limited;
          wide = rw long ok.wide;
          counted = counted_next;
          used = λ j. by_page (λ (k : ℕ) (p : Page). p.next ≤ calls) b i page j (omega (arith, calls-next)) (λ ne. used-next j);
          balanced = balanced;
          pages = λ j below. (pages j below).matches;
          tallies = λ j below. (pages j below).tallied;
          few = λ j k below. (pages j below).few k;
          unregistered = λ j above.
              page_other b i page j (λ (e : j ≡ i). omega arith) ∙ ok.unregistered j above;
        }
      where
        other : (j : ℕ) → j < s.roster.count → j ≢ i → IsPaged m g' calls j (pacer_in s j) (b j)
        other j below ne =
            let before = paged j below in record { matches = others j below ne; tallied = before.tallied; few = before.few }

        pages : (j : ℕ) → j < s.roster.count → IsPaged m g' calls j (pacer_in (paced s time i p) j) (with_page b i page j)
        pages j below =
            by_page (λ (k : ℕ) (q : Page). IsPaged m g' calls k (pacer_in (paced s time i p) k) q) b i page j
            (rw (pacer-same s.roster i p ok.seated lo) own)
            (λ ne. subst (λ (w : Writer). IsPaged m g' calls j w.pacer (b j)) (sym (pacer_other s.roster i p j ne)) (other j below ne))

    -- ---- a hand-in

    module _ (c : Priority) (key : InstanceKey) (bytes : List ℕ) (n : length bytes ≤ 1472) where
      abbrev x : Pacer × Kept
      x = enqueued_in s i c key (length bytes)

      abbrev page : Page
      page = handed_by m (b i) c key bytes (fate_number x.1.fate)

      abbrev g' : List ℕ
      g' = hand_in_stored g m i c x.1 bytes

      slot_in : is_full x.1.fate ≡ false → x.1.slot < limit_in m c
      slot_in = (keeps m (pacer_in s i) (ok.pages i lo).limited c key (length bytes)).slot_in

      fate : x.1.fate ≡ fate_of m c key ((b i).queues c).waiting
      fate = fate_is m i parts (b i) (ok.pages i lo) c key (length bytes)

      adds_exactly : (k : ℕ) → k < 13 → k ≢ 2 → count_in x.0 k ≡ count_in (pacer_in s i) k + hand_adds c x.1.fate k
      adds_exactly k lt ne =
          count_handed (pacer_in s i) c key (length bytes) k lt ne
          (omega (arith, hand-most c x.1.fate k, ok.few i k lo lt ne, ok.counted))

      own_matches : Matches m i (parts_of x.0 g') (page_view page)
      own_matches =
          hands_in m i parts (b i) c key bytes (ok.pages i lo) n (next_small m g s b ok i)
          (omega (arith, next_small m g s b ok i, (ok.balanced i).fewer_p2))

      own_tally : IsTallied x.0 page
      own_tally =
          rw fate
          (handed_tallied m (b i) c key bytes (pacer_in s i) x.0 (ok.tallies i lo)
          (λ k lt ne. adds_exactly k (omega arith) ne ∙ ap (λ (f : Fate). count_in (pacer_in s i) k + hand_adds c f k) fate)
          (least m i parts (b i) (ok.pages i lo) c))

      own_page : IsPaged m g' calls i x.0 page
      own_page =
          record {
            matches = own_matches;
            tallied = own_tally;
            few = λ k lt ne. omega (arith, adds_exactly k lt ne, hand-most c x.1.fate k, ok.few i k lo lt ne, calls-next);
          }

      own_used : page.next ≤ s.ledger.calls + 1
      own_used = rw fate (omega (arith, handed_next m (b i) c key bytes, ok.used i))

      sound_handed : (lent : Lent) → IsSound m g' (paced s time i x.0) (noted m b (hand_in time i c key bytes lent) (fate_number x.1.fate) none)
      unfolding noted
      sound_handed lent =
          let wide = (ok.pages i lo).wide in
          sound-paced g' x.0 page (length-handed m i c g bytes n wide x.1 slot_in) own_used
          (balanced-noted m b (hand_in time i c key bytes lent) (fate_number x.1.fate) none ok.balanced) own_page
          (λ j below ne. matches_other m i c g bytes n wide x.1 slot_in j (pacer_in s j) (page_view (b j)) ne (ok.pages j below))

    -- ---- a send attempt

    abbrev a : Pacer × SendAction
    a = attempt_in s time i

    tried : TriedBy m i parts (b i) a
    tried = tries_out m i parts (b i) s.config.pacer.enabled time (ok.pages i lo)

    most : (k : ℕ) → send_adds a.1 k ≤ 1474
    most k = send-most a.1 (short-send m i parts (b i) (ok.pages i lo) a.1 tried.0) k

    sends_exactly : (k : ℕ) → k < 13 → k ≢ 2 → count_in a.0 k ≡ count_in (pacer_in s i) k + send_adds a.1 k
    sends_exactly k lt ne =
        count_tried s.config.pacer.enabled (pacer_in s i) time k lt ne (omega (arith, most k, ok.few i k lo lt ne, ok.counted))

    waits_there : (x : SendAction) → Shows m i g (page_view (b i)) x → Waits (b i) x
    waits_there (Send c slot sequence n forced) w = w.waits
    waits_there Empty w = tt
    waits_there (RateLimited wait) w = tt

    used_sent : (q : Sent) → (page_after_send (b i) q).next ≡ (b i).next
    unfolding page_after_send
    used_sent none = refl
    used_sent (one c) = refl

    tried_page : IsPaged m g calls i a.0 (page_after_send (b i) (sent_as a.1))
    tried_page =
        record {
          matches = tried.1;
          tallied =
              sent_tallied (b i) a.1 (pacer_in s i) a.0 (ok.tallies i lo) (λ k lt ne. sends_exactly k (omega arith) ne) (waits_there a.1 tried.0);
          few = λ k lt ne. omega (arith, sends_exactly k lt ne, most k, ok.few i k lo lt ne, calls-next);
        }

    sound_sent : (lent : Lent) → IsSound m g (paced s time i a.0) (noted m b (send time i lent) 0 (sent_as a.1))
    unfolding noted
    sound_sent lent =
        sound-paced g a.0 (page_after_send (b i) (sent_as a.1)) refl (omega (arith, used_sent (sent_as a.1), ok.used i))
        (balanced-noted m b (send time i lent) 0 (sent_as a.1) ok.balanced) tried_page (λ j below ne. ok.pages j below)

-- ---- every call; n is the length of the pool that the last call left

pub sound_outcome :
    (m : Limits) (g : List ℕ) (s : Station) (b : Book) → IsSound m g s b → (n : ℕ) (x : Call)
    → IsSound m (written s n x g) (outcome s n x).station (noted m b x (outcome s n x).answer (sent_in (outcome s n x).reply))
sound_outcome m g s b ok n x = by_case s n P cases x
  where
    P : Call → Outcome → Type 0
    P x o = IsSound m (written s n x g) o.station (noted m b x o.answer (sent_in o.reply))

    limits :
        (i : ℕ) (c : Priority) (kept : Kept) (bytes : List ℕ) → hand_in_stored g (limits_in s) i c kept bytes ≡ hand_in_stored g m i c kept bytes
    limits i c kept bytes = ap (λ (l : Limits). hand_in_stored g l i c kept bytes) ok.same_limits

    cases : Cases s n P
    cases =
        record {
          turned_down = λ x answer z t still. rw (still g, noted-down m b x answer z t) ok;
          steers = λ x time reply c same q silent h. rw (q.pool s n g, q.book m b 0 (sent_in reply)) (sound-steered m g s b ok time h c);
          allots = λ x time c rate is q h. rw (q.pool s n g, q.book m b 0 none) (sound-allotted m g s b ok time h c);
          registers = λ time id class h lo. unfold written noted in sound-registered m g s b ok time h id class lo;
          hands = λ time i c key bytes lent h lo short wide puts.
              rw (puts g, limits i c (enqueued_in s i c key (length bytes)).1 bytes) (sound_handed m g s b ok time h i lo c key bytes short lent);
          tries = λ time i lent h lo wide. unfold written in sound_sent m g s b ok time h i lo lent;
        }
