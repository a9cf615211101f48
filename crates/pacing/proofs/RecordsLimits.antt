-- What calls do to a pacer's queues: the limits stay, a record that is kept has a slot of its queue, and a send attempt takes the first of one
-- class or nothing. Assumes nothing.
-- Stays: what Records and guarantees/proofs (HandIns, Sound, Starts) cite; these are a pacer's own steps.
use Prim.Native.Nat.{ℕ, ◌≤◌, ◌<◌}
use mathlib.Core.Bool.{Bool, true, false, cond, ◌&&◌, true≢false, false≢true}
use mathlib.Core.Path.{◌≡◌, refl, sym, subst}
use native.Mathlib.Omega.{arith}
use lib.Dec.{eqb, ltb, leb}
use lib.ListN.{length}
use Rattle.std.specs.List.{position_or_len}
use Rattle.std.specs.Prelude.{Option}
use Rattle.std.proofs.lemmas.Bool.{and_parts, leb-true, ltb-true, lt-ltb, eqb-false}
use Rattle.std.proofs.lemmas.Iterator.Adapters.{position_from-zero}
use Rattle.config.specs.declared.config.Priority.{Priority}
use Rattle.config.specs.declared.config.Priority.TheVariants.{P0, P1, P2}
use Rattle.numeric.proofs.Choice.{by_test}
use Rattle.queue.specs.Coalescing.{Coalescing, inserted, inserted_at, replaced_at, joined_tail, popped_front}
use Rattle.queue.specs.Entries.{entry_of, has_key}
use Rattle.queue.specs.Fates.{is_full}
use Rattle.queue.specs.Pool.{Limits, limit_in}
use Rattle.queue.specs.Waiting.{limit_fits, has_room, popped}
use Rattle.queue.specs.declared.entry.InstanceKey.{InstanceKey}
use Rattle.queue.specs.declared.fate.Kept.{Kept}
use Rattle.pacing.specs.TokenBucket.{tried, told}
use Rattle.pacing.specs.WriterPacer.{Queues, Pacer, with_queues, with_tokens, waiting_in, slot_in, fits, made, numbered, enqueue_p0, enqueue_p1, enqueue_p2, inserted_into, enqueue, noted_hand_in, handed_in, front_of, popped_in, gone, attempt_p0, paid, waited, limited, attempt, noted_send, sent_from}
use Rattle.pacing.specs.declared.token_bucket.TokenBucket.{TokenBucket}
use Rattle.pacing.specs.declared.send_action.SendAction.{SendAction}
use Rattle.pacing.specs.declared.send_action.SendAction.TheVariants.{Send, Empty, RateLimited}
use Rattle.pacing.proofs.RecordsInSlots.{IsFit, fit_empty, fit_popped, fit_joined, fit_exchanged, slot_in_limit, next_slot_in_limit}

-- ---- the queues of a pacer with these limits: what the type's own invariant says

pub record IsLimited (m : Limits) (p : Pacer) : Type 0 where
  pub p0 : IsFit m.p0 p.queues.p0
  pub p1 : IsFit m.p1 p.queues.p1
  pub p2 : IsFit m.p2 p.queues.p2.waiting

fit_fits : (N limit : ℕ) → limit_fits N limit ≡ true → (1 ≤ limit) × (limit ≤ 512)
fit_fits N limit e =
    let both = and_parts (leb 1 limit && leb limit N) (leb N 512) e in
    let least = and_parts (leb 1 limit) (leb limit N) both.0 in
    (leb-true 1 limit least.0, omega (arith, leb-true limit N least.1, leb-true N 512 both.1))

pub limited_made : (N0 N1 N2 : ℕ) (m : Limits) (time rate : ℕ) → fits N0 N1 N2 m ≡ true → IsLimited m (made time m rate)
limited_made N0 N1 N2 m time rate e =
    let all = and_parts (limit_fits N0 m.p0 && limit_fits N1 m.p1) (limit_fits N2 m.p2) e in
    let two = and_parts (limit_fits N0 m.p0) (limit_fits N1 m.p1) all.0 in
    let a = fit_fits N0 m.p0 two.0 in
    let b = fit_fits N1 m.p1 two.1 in
    let c = fit_fits N2 m.p2 all.1 in
    record { p0 = fit_empty m.p0 a.0 a.1; p1 = fit_empty m.p1 b.0 b.1; p2 = fit_empty m.p2 c.0 c.1 }

-- ---- a new key, or one that waits

-- the place of the first record under a key, or as many as wait
abbrev pub place_in : InstanceKey → Coalescing → ℕ
place_in key q = position_or_len (has_key key) q.waiting.items

abbrev pub is_listed : InstanceKey → Coalescing → Bool
is_listed key q = ltb (place_in key q) (length q.waiting.items)

pub by_key :
    (P : Coalescing × Kept → Type 0) (q : Coalescing) (key : InstanceKey) (n : ℕ)
    → (is_listed key q ≡ true → P (replaced_at q (place_in key q) key n))
    → (is_listed key q ≡ false → P (joined_tail q key n)) → P (inserted q key n)
unfolding inserted
by_key P q key n old new =
    subst (λ (place : Option ℕ). P (inserted_at q key n place)) (position_from-zero (has_key key) q.waiting.items)
    (by_test (λ (place : Option ℕ). P (inserted_at q key n place)) (is_listed key q) old new)

-- ---- what a hand-in keeps: the limits, and a record that is kept has a slot of its queue

module _ (m : Limits) (p : Pacer) (ok : IsLimited m p) where
  pub record Keeps (c : Priority) (x : Pacer × Kept) : Type 0 where
    pub limited : IsLimited m x.0
    pub slot_in : is_full x.1.fate ≡ false → x.1.slot < limit_in m c

  pub keeps : (c : Priority) (key : InstanceKey) (n : ℕ) → Keeps c (handed_in p c key n)
  unfolding handed_in enqueue enqueue_p0 enqueue_p1 enqueue_p2
  keeps P0 key n =
      by_test (λ (x : Pacer × Kept). Keeps P0 (noted_hand_in P0 x)) (has_room p.queues.p0)
      (λ e.
      record {
        limited = record { p0 = fit_joined m.p0 p.queues.p0 (entry_of p.next_sequence n) ok.p0; p1 = ok.p1; p2 = ok.p2 };
        slot_in = λ f. next_slot_in_limit m.p0 p.queues.p0 ok.p0;
      })
      (λ e. record { limited = record { p0 = ok.p0; p1 = ok.p1; p2 = ok.p2 }; slot_in = λ f. absurd (true≢false f) })
  keeps P1 key n =
      record {
        limited = record { p0 = ok.p0; p1 = fit_joined m.p1 p.queues.p1 (entry_of p.next_sequence n) ok.p1; p2 = ok.p2 };
        slot_in = λ f. next_slot_in_limit m.p1 p.queues.p1 ok.p1;
      }
  keeps P2 key n =
      by_key (λ (x : Coalescing × Kept). Keeps P2 (noted_hand_in P2 (inserted_into (numbered p) x))) p.queues.p2 key n
      (λ e.
      record {
        limited = record { p0 = ok.p0; p1 = ok.p1; p2 = fit_exchanged m.p2 p.queues.p2.waiting _ _ ok.p2 };
        slot_in = λ f. slot_in_limit m.p2 p.queues.p2.waiting _ ok.p2;
      })
      (λ e.
      record {
        limited = record { p0 = ok.p0; p1 = ok.p1; p2 = fit_joined m.p2 p.queues.p2.waiting _ ok.p2 };
        slot_in = λ f. next_slot_in_limit m.p2 p.queues.p2.waiting ok.p2;
      })

-- ---- what a send attempt does to the queues: the first of one class goes, or nothing does

pub record Goes (p q : Pacer) (c : Priority) (slot sequence n : ℕ) : Type 0 where
  pub some : 0 < waiting_in p.queues c
  pub queues_are : q.queues ≡ popped_in p.queues c
  pub next_is : q.next_sequence ≡ p.next_sequence
  pub slot_is : slot ≡ slot_in p.queues c 0
  pub sequence_is : sequence ≡ (front_of p.queues c).sequence
  pub length_is : n ≡ (front_of p.queues c).length

pub record Stays (p q : Pacer) : Type 0 where
  pub queues_are : q.queues ≡ p.queues
  pub next_is : q.next_sequence ≡ p.next_sequence

abbrev pub FairBy : Pacer → Pacer → SendAction → Type 0
FairBy p q (Send c slot sequence n forced) = Goes p q c slot sequence n
FairBy p q Empty = Stays p q
FairBy p q (RateLimited wait) = Stays p q

module _ (p : Pacer) where
  abbrev IsFair : Pacer × SendAction → Type 0
  IsFair x = FairBy p (noted_send x).0 (noted_send x).1

  fair-gone : (c : Priority) (b : TokenBucket) (forced : Bool) → 0 < waiting_in p.queues c → IsFair (gone p c b forced)
  unfolding gone
  fair-gone c b forced some =
      record { some = some; queues_are = refl; next_is = refl; slot_is = refl; sequence_is = refl; length_is = refl }

  fair-waited : (b : TokenBucket) (time n : ℕ) → IsFair (waited (with_tokens p b) time n)
  unfolding waited
  fair-waited b time n =
      by_test IsFair (ltb 0 (told b time n).1) (λ e. record { queues_are = refl; next_is = refl })
      (λ e. record { queues_are = refl; next_is = refl })

  fair-limited : (b : TokenBucket) (time : ℕ) → IsFair (limited (with_tokens p b) time)
  unfolding limited
  fair-limited b time =
      by_test IsFair (ltb 0 (waiting_in p.queues P1)) (λ e. fair-waited b time _)
      (λ e.
      by_test IsFair (ltb 0 (waiting_in p.queues P2)) (λ f. fair-waited b time _) (λ f. record { queues_are = refl; next_is = refl }))

  paid-some : (b : TokenBucket) (c : Priority) (time : ℕ) → (paid b p.queues c time).1 ≡ true → 0 < waiting_in p.queues c
  unfolding paid
  paid-some b c time e = go (eqb (waiting_in p.queues c) 0) refl e
    where
      go :
          (t : Bool) → eqb (waiting_in p.queues c) 0 ≡ t
          → (cond t (b, false) (tried b time (front_of p.queues c).length)).1 ≡ true
          → 0 < waiting_in p.queues c
      go true q e = absurd (false≢true e)
      go false q e = let h = eqb-false (waiting_in p.queues c) 0 q in omega arith

  fair-p0 : (time : ℕ) → 0 < waiting_in p.queues P0 → IsFair (attempt_p0 p time)
  unfolding attempt_p0
  fair-p0 time some =
      by_test IsFair (tried p.tokens time (front_of p.queues P0).length).1 (λ e. fair-gone P0 _ false some) (λ e. fair-gone P0 _ true some)

  pub fair_sent : (time : ℕ) → FairBy p (sent_from p time).0 (sent_from p time).1
  unfolding sent_from attempt
  fair_sent time =
      by_test IsFair (ltb 0 (waiting_in p.queues P0)) (λ e. fair-p0 time (ltb-true 0 (waiting_in p.queues P0) e))
      (λ e.
      by_test IsFair (paid p.tokens p.queues P1 time).1 (λ f. fair-gone P1 _ false (paid-some p.tokens P1 time f))
      (λ f.
      by_test IsFair (paid (paid p.tokens p.queues P1 time).0 p.queues P2 time).1
      (λ g. fair-gone P2 _ false (paid-some (paid p.tokens p.queues P1 time).0 P2 time g))
      (λ g. fair-limited _ time)))

-- the first of P2 leaves
pub popped-p2 : (q : Coalescing) → 0 < length q.waiting.items → (popped_front q).waiting ≡ popped q.waiting
unfolding popped_front
popped-p2 q some = rw (lt-ltb 0 (length q.waiting.items) some)

pub next-popped_p2 : (q : Coalescing) → (popped_front q).next_sequence ≡ q.next_sequence
unfolding popped_front
next-popped_p2 q =
    by_test (λ (x : Coalescing). x.next_sequence ≡ q.next_sequence) (ltb 0 (length q.waiting.items)) (λ e. refl) (λ e. refl)

pub limited-gone :
    (m : Limits) (p : Pacer) (c : Priority) → IsLimited m p → 0 < waiting_in p.queues c → IsLimited m (with_queues p (popped_in p.queues c))
limited-gone m p P0 ok some = record { p0 = fit_popped m.p0 p.queues.p0 ok.p0; p1 = ok.p1; p2 = ok.p2 }
limited-gone m p P1 ok some = record { p0 = ok.p0; p1 = fit_popped m.p1 p.queues.p1 ok.p1; p2 = ok.p2 }
limited-gone m p P2 ok some =
    record {
      p0 = ok.p0;
      p1 = ok.p1;
      p2 = subst (IsFit m.p2) (sym (popped-p2 p.queues.p2 some)) (fit_popped m.p2 p.queues.p2.waiting ok.p2);
    }

-- the limits say nothing of tokens and counts
pub limited_as : (m : Limits) (p q : Pacer) → q.queues ≡ p.queues → IsLimited m p → IsLimited m q
limited_as m p q e ok =
    record {
      p0 = subst (λ (x : Queues). IsFit m.p0 x.p0) (sym e) ok.p0;
      p1 = subst (λ (x : Queues). IsFit m.p1 x.p1) (sym e) ok.p1;
      p2 = subst (λ (x : Queues). IsFit m.p2 x.p2.waiting) (sym e) ok.p2;
    }
