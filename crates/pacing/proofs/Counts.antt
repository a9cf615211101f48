-- A hand-in and a send attempt add to their pacer's counts what they say, where nothing saturates. Assumes nothing.
-- Stays: what guarantees/proofs/Sound cites; these are a pacer's own counts.
use Rattle.std.proofs.Common.{◌≡◌, ℕ, zero, suc, ◌+◌, ◌≤◌, ◌<◌, min, Bool, true, false, ltb, length, Option, Some, None, refl, sym, subst, arith}
use mathlib.Core.Logic.{◌≢◌}
use Rattle.config.specs.declared.config.Priority.{Priority}
use Rattle.config.specs.declared.config.Priority.TheVariants.{P0, P1, P2}
use Rattle.numeric.proofs.Choice.{by_test}
use Rattle.queue.specs.Coalescing.{Coalescing, found, inserted, inserted_at, popped_front}
use Rattle.queue.specs.Waiting.{has_room, joins}
use Rattle.queue.specs.declared.entry.InstanceKey.{InstanceKey}
use Rattle.queue.specs.declared.fate.Fate.{Fate}
use Rattle.queue.specs.declared.fate.Fate.TheVariants.{Full, Joined, PushedOut, Replaced}
use Rattle.queue.specs.declared.fate.Kept.{Kept}
use Rattle.pacing.specs.Counts.{count_in, only_at, hand_adds, send_adds, fate_adds}
use Rattle.pacing.specs.TokenBucket.{tried, told, forced}
use Rattle.pacing.specs.WriterPacer.{Pacer, with_counts, with_tokens, numbered, inserted_into, hand_in_noted, handed_in, enqueue, enqueue_p0, enqueue_p1, enqueue_p2, front_of, waiting_in, gone, by_p0, by_p1, by_p2, attempt, attempt_p0, paid, waited, waited_by, limited, send_noted, sent_from}
use Rattle.pacing.specs.declared.pacer_counts.PacerCounts.{PacerCounts}
use Rattle.pacing.specs.declared.send_action.SendAction.{SendAction}
use Rattle.pacing.specs.declared.send_action.SendAction.TheVariants.{Send, Empty, RateLimited}
use Rattle.pacing.specs.declared.token_bucket.TokenBucket.{TokenBucket}

-- ---- one count

-- so much more, where it does not saturate
abbrev More : ℕ → ℕ → ℕ → Type 0
More before after adds = before + adds ≤ 18446744073709551615 → after ≡ before + adds

same : (a : ℕ) → More a a 0
same a h = omega arith

more : (a : ℕ) → More a (min (a + 1) 18446744073709551615) 1
more a h = omega arith

by_n : (a n : ℕ) → More a (min (a + n) 18446744073709551615) (0 + n + 0)
by_n a n h = omega arith

-- ---- each count, but for P2's bytes that wait

each :
    (P : ℕ → Type 0) → P 0 → P 1 → P 3 → P 4 → P 5 → P 6 → P 7 → P 8 → P 9 → P 10 → P 11 → P 12 → (k : ℕ) → k < 13 → k ≢ 2 → P k
each P a b d e f g h i j l m n zero lo ne = a
each P a b d e f g h i j l m n (suc zero) lo ne = b
each P a b d e f g h i j l m n (suc (suc zero)) lo ne = absurd (ne refl)
each P a b d e f g h i j l m n (suc (suc (suc zero))) lo ne = d
each P a b d e f g h i j l m n (suc (suc (suc (suc zero)))) lo ne = e
each P a b d e f g h i j l m n (suc (suc (suc (suc (suc zero))))) lo ne = f
each P a b d e f g h i j l m n (suc (suc (suc (suc (suc (suc zero)))))) lo ne = g
each P a b d e f g h i j l m n (suc (suc (suc (suc (suc (suc (suc zero))))))) lo ne = h
each P a b d e f g h i j l m n (suc (suc (suc (suc (suc (suc (suc (suc zero)))))))) lo ne = i
each P a b d e f g h i j l m n (suc (suc (suc (suc (suc (suc (suc (suc (suc zero))))))))) lo ne = j
each P a b d e f g h i j l m n (suc (suc (suc (suc (suc (suc (suc (suc (suc (suc zero)))))))))) lo ne = l
each P a b d e f g h i j l m n (suc (suc (suc (suc (suc (suc (suc (suc (suc (suc (suc zero))))))))))) lo ne = m
each P a b d e f g h i j l m n (suc (suc (suc (suc (suc (suc (suc (suc (suc (suc (suc (suc zero)))))))))))) lo ne = n
each P a b d e f g h i j l m n (suc (suc (suc (suc (suc (suc (suc (suc (suc (suc (suc (suc (suc k))))))))))))) lo ne = absurd (omega arith)

-- ---- a hand-in

-- a record joined, as far as counts go: the queue of P2 counts what it replaces and pushes out
record Queued (c : Priority) (p : Pacer) (x : Pacer × Kept) : Type 0 where
  counts_same : x.0.counts ≡ p.counts
  coalesced : More p.queues.p2.coalesced x.0.queues.p2.coalesced (fate_adds c x.1.fate 0)
  dropped : More p.queues.p2.dropped x.0.queues.p2.dropped (fate_adds c x.1.fate 1)

queued_p0 : (p : Pacer) (sequence n : ℕ) → Queued P0 p (enqueue_p0 p sequence n)
unfolding enqueue_p0
queued_p0 p sequence n =
    by_test (Queued P0 p) (has_room p.queues.p0) (λ e. record { counts_same = refl; coalesced = same _; dropped = same _ })
    (λ e. record { counts_same = refl; coalesced = same _; dropped = same _ })

-- no count of P2's changes, whatever becomes of a record of P1
p1_adds : (f : Fate) → (fate_adds P1 f 0 ≡ 0) × (fate_adds P1 f 1 ≡ 0)
unfolding only_at
p1_adds Full = (refl, refl)
p1_adds Joined = (refl, refl)
p1_adds PushedOut = (refl, refl)
p1_adds Replaced = (refl, refl)

queued_p1 : (p : Pacer) (sequence n : ℕ) → Queued P1 p (enqueue_p1 p sequence n)
unfolding enqueue_p1
queued_p1 p sequence n =
    let none = p1_adds (joins p.queues.p1) in
    record { counts_same = refl; coalesced = λ h. omega (arith, none.0); dropped = λ h. omega (arith, none.1) }

queued_p2 : (p : Pacer) (key : InstanceKey) (n : ℕ) → Queued P2 p (enqueue_p2 p key n)
unfolding enqueue_p2 inserted joins only_at
queued_p2 p key n = go (found p.queues.p2 key)
  where
    go : (place : Option ℕ) → Queued P2 p (inserted_into p (inserted_at p.queues.p2 key n place))
    go (Some place) = record { counts_same = refl; coalesced = more _; dropped = same _ }
    go None = tail (has_room p.queues.p2.waiting) refl
      where
        tail : (t : Bool) → has_room p.queues.p2.waiting ≡ t → Queued P2 p (inserted_into p (inserted_at p.queues.p2 key n None))
        tail true e = record { counts_same = refl; coalesced = rw e (same _); dropped = rw e (same _) }
        tail false e = record { counts_same = refl; coalesced = rw e (same _); dropped = rw e (more _) }

queued : (p : Pacer) (c : Priority) (key : InstanceKey) (n : ℕ) → Queued c p (enqueue p c key n)
unfolding enqueue
queued p P0 key n = let q = queued_p0 (numbered p) p.next_sequence n in record { counts_same = q.counts_same; coalesced = q.coalesced; dropped = q.dropped }
queued p P1 key n = let q = queued_p1 (numbered p) p.next_sequence n in record { counts_same = q.counts_same; coalesced = q.coalesced; dropped = q.dropped }
queued p P2 key n = let q = queued_p2 (numbered p) key n in record { counts_same = q.counts_same; coalesced = q.coalesced; dropped = q.dropped }

-- what a hand-in does to count k, where q is what the queues leave
abbrev AfterHand : Priority → Fate → Pacer → Pacer → ℕ → Type 0
AfterHand c f p q k = More (count_in p k) (count_in (with_counts q (hand_in_noted p.counts c f)) k) (hand_adds c f k)

noted_hand :
    (c : Priority) (f : Fate) (p q : Pacer) → More p.queues.p2.coalesced q.queues.p2.coalesced (fate_adds c f 0)
    → More p.queues.p2.dropped q.queues.p2.dropped (fate_adds c f 1) → (k : ℕ) → k < 13 → k ≢ 2 → AfterHand c f p q k
unfolding hand_in_noted hand_adds only_at
noted_hand P0 Full p q a b = each (AfterHand P0 Full p q) a b (same _) (same _) (same _) (same _) (same _) (same _) (same _) (same _) (same _) (same _)
noted_hand P0 Joined p q a b = each (AfterHand P0 Joined p q) a b (more _) (same _) (same _) (same _) (same _) (same _) (same _) (same _) (same _) (same _)
noted_hand P0 PushedOut p q a b = each (AfterHand P0 PushedOut p q) a b (more _) (same _) (same _) (same _) (same _) (same _) (same _) (same _) (same _) (same _)
noted_hand P0 Replaced p q a b = each (AfterHand P0 Replaced p q) a b (more _) (same _) (same _) (same _) (same _) (same _) (same _) (same _) (same _) (same _)
noted_hand P1 Full p q a b = each (AfterHand P1 Full p q) a b (same _) (same _) (same _) (same _) (same _) (same _) (same _) (same _) (same _) (same _)
noted_hand P1 Joined p q a b = each (AfterHand P1 Joined p q) a b (same _) (more _) (same _) (same _) (same _) (same _) (same _) (same _) (same _) (same _)
noted_hand P1 PushedOut p q a b = each (AfterHand P1 PushedOut p q) a b (same _) (more _) (same _) (same _) (same _) (same _) (more _) (same _) (same _) (same _)
noted_hand P1 Replaced p q a b = each (AfterHand P1 Replaced p q) a b (same _) (more _) (same _) (same _) (same _) (same _) (same _) (same _) (same _) (same _)
noted_hand P2 Full p q a b = each (AfterHand P2 Full p q) a b (same _) (same _) (same _) (same _) (same _) (same _) (same _) (same _) (same _) (same _)
noted_hand P2 Joined p q a b = each (AfterHand P2 Joined p q) a b (same _) (same _) (more _) (same _) (same _) (same _) (same _) (same _) (same _) (same _)
noted_hand P2 PushedOut p q a b = each (AfterHand P2 PushedOut p q) a b (same _) (same _) (more _) (same _) (same _) (same _) (same _) (same _) (same _) (same _)
noted_hand P2 Replaced p q a b = each (AfterHand P2 Replaced p q) a b (same _) (same _) (more _) (same _) (same _) (same _) (same _) (same _) (same _) (same _)

-- a hand-in adds what it says
pub count_handed :
    (p : Pacer) (c : Priority) (key : InstanceKey) (n k : ℕ) → k < 13 → k ≢ 2
    → count_in p k + hand_adds c (handed_in p c key n).1.fate k ≤ 18446744073709551615
    → count_in (handed_in p c key n).0 k ≡ count_in p k + hand_adds c (handed_in p c key n).1.fate k
unfolding handed_in
count_handed p c key n k lo ne =
    let x = enqueue p c key n in
    let q = queued p c key n in
    subst (λ (m : PacerCounts). More (count_in p k) (count_in (with_counts x.0 (hand_in_noted m c x.1.fate)) k) (hand_adds c x.1.fate k)) (sym q.counts_same) (noted_hand c x.1.fate p x.0 q.coalesced q.dropped k lo ne)

-- ---- a send attempt

-- what a step leaves of the counts
abbrev Still : Pacer → Pacer × SendAction → Type 0
Still p x =
    (x.0.counts ≡ p.counts) × (x.0.queues.p2.coalesced ≡ p.queues.p2.coalesced) × (x.0.queues.p2.dropped ≡ p.queues.p2.dropped)

still_gone : (p : Pacer) (c : Priority) (b : TokenBucket) (t : Bool) → Still p (gone p c b t)
unfolding gone popped_front
still_gone p P0 b t = (refl, refl, refl)
still_gone p P1 b t = (refl, refl, refl)
still_gone p P2 b t =
    by_test (λ (q : Coalescing). (p.counts ≡ p.counts) × (q.coalesced ≡ p.queues.p2.coalesced) × (q.dropped ≡ p.queues.p2.dropped))
    (ltb 0 (length p.queues.p2.waiting.items)) (λ e. (refl, refl, refl)) (λ e. (refl, refl, refl))

still_p0 : (p : Pacer) (time n : ℕ) (x : TokenBucket × Bool) → Still p (by_p0 p time n x)
still_p0 p time n x = by_test (Still p) x.1 (λ e. still_gone p P0 x.0 false) (λ e. still_gone p P0 (forced x.0 time n) true)

still_waited : (p : Pacer) (x : TokenBucket × ℕ) → Still p (waited_by p x)
still_waited p x = by_test (Still p) (ltb 0 x.1) (λ e. (refl, refl, refl)) (λ e. (refl, refl, refl))

still_limited : (p : Pacer) (time : ℕ) → Still p (limited p time)
unfolding limited waited
still_limited p time =
    by_test (Still p) (ltb 0 (waiting_in p.queues P1)) (λ e. still_waited p (told p.tokens time (front_of p.queues P1).length))
    (λ e. by_test (Still p) (ltb 0 (waiting_in p.queues P2)) (λ e. still_waited p (told p.tokens time (front_of p.queues P2).length)) (λ e. (refl, refl, refl)))

still_p2 : (p : Pacer) (time : ℕ) (x : TokenBucket × Bool) → Still p (by_p2 p time x)
still_p2 p time x = by_test (Still p) x.1 (λ e. still_gone p P2 x.0 false) (λ e. still_limited (with_tokens p x.0) time)

still_p1 : (p : Pacer) (time : ℕ) (x : TokenBucket × Bool) → Still p (by_p1 p time x)
still_p1 p time x = by_test (Still p) x.1 (λ e. still_gone p P1 x.0 false) (λ e. still_p2 p time (paid x.0 p.queues P2 time))

still : (p : Pacer) (time : ℕ) → Still p (attempt p time)
unfolding attempt attempt_p0
still p time =
    let n = (front_of p.queues P0).length in
    by_test (Still p) (ltb 0 (waiting_in p.queues P0)) (λ e. still_p0 p time n (tried p.tokens time n))
    (λ e. still_p1 p time (paid p.tokens p.queues P1 time))

-- what a send attempt does to count k, where q is what its step leaves
abbrev AfterSend : SendAction → Pacer → Pacer → ℕ → Type 0
AfterSend a p q k = More (count_in p k) (count_in (with_counts q (send_noted p.counts a)) k) (send_adds a k)

noted_action :
    (a : SendAction) (p q : Pacer) → More p.queues.p2.coalesced q.queues.p2.coalesced 0 → More p.queues.p2.dropped q.queues.p2.dropped 0
    → (k : ℕ) → k < 13 → k ≢ 2 → AfterSend a p q k
unfolding send_noted send_adds only_at
noted_action (Send P0 slot sequence n true) p q a b =
    each (AfterSend (Send P0 slot sequence n true) p q) a b (same _) (same _) (same _) (more _) (same _) (same _) (same _) (by_n _ n) (same _) (more _)
noted_action (Send P0 slot sequence n false) p q a b =
    each (AfterSend (Send P0 slot sequence n false) p q) a b (same _) (same _) (same _) (more _) (same _) (same _) (same _) (by_n _ n) (same _) (same _)
noted_action (Send P1 slot sequence n true) p q a b =
    each (AfterSend (Send P1 slot sequence n true) p q) a b (same _) (same _) (same _) (same _) (more _) (same _) (same _) (by_n _ n) (same _) (more _)
noted_action (Send P1 slot sequence n false) p q a b =
    each (AfterSend (Send P1 slot sequence n false) p q) a b (same _) (same _) (same _) (same _) (more _) (same _) (same _) (by_n _ n) (same _) (same _)
noted_action (Send P2 slot sequence n true) p q a b =
    each (AfterSend (Send P2 slot sequence n true) p q) a b (same _) (same _) (same _) (same _) (same _) (more _) (same _) (by_n _ n) (same _) (more _)
noted_action (Send P2 slot sequence n false) p q a b =
    each (AfterSend (Send P2 slot sequence n false) p q) a b (same _) (same _) (same _) (same _) (same _) (more _) (same _) (by_n _ n) (same _) (same _)
noted_action Empty p q a b = each (AfterSend Empty p q) a b (same _) (same _) (same _) (same _) (same _) (same _) (same _) (same _) (same _) (same _)
noted_action (RateLimited wait) p q a b = each (AfterSend (RateLimited wait) p q) a b (same _) (same _) (same _) (same _) (same _) (same _) (same _) (same _) (more _) (same _)

-- a send attempt, likewise
pub count_sent :
    (p : Pacer) (time k : ℕ) → k < 13 → k ≢ 2 → count_in p k + send_adds (sent_from p time).1 k ≤ 18446744073709551615
    → count_in (sent_from p time).0 k ≡ count_in p k + send_adds (sent_from p time).1 k
unfolding sent_from
count_sent p time k lo ne =
    let x = attempt p time in
    let s = still p time in
    subst (λ (m : PacerCounts). More (count_in p k) (count_in (with_counts x.0 (send_noted m x.1)) k) (send_adds x.1 k)) (sym s.0)
    (noted_action x.1 p x.0 (λ h. omega (arith, s.1)) (λ h. omega (arith, s.2)) k lo ne)
