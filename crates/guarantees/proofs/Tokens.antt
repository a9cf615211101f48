-- What calls on one pacer do to its tokens: its bucket stays as the settings have it, a send attempt refills it once at most and pays
-- from it, and the record for which a wait was told goes once the wait and a nanosecond are over. Assumes nothing.
-- Stays: what Paces and Waits cite of one bucket over send attempts; pacing's Credit and Waits say it of one refill.
use Prim.Native.Nat.{ℕ, ◌+◌, ◌-◌, ◌*◌, ◌^◌, ◌≤◌, ◌<◌, min}
use mathlib.Core.Bool.{Bool, true, false, cond}
use mathlib.Core.Logic.{◌≢◌, ◌⊎◌, inl, inr}
use mathlib.Core.Path.{◌≡◌, refl, sym, ap, subst, ◌∙◌}
use native.Mathlib.Nat.{mul-le-mul_left}
use native.Mathlib.Omega.{arith}
use borrow.Author.Tests.{ltb-true, ltb-false, leb-true, eq-eqb, ne_eqb, le-ltb, le-leb}
use lib.Dec.{ltb, leb, eqb}
use Rattle.config.specs.Config.{class_number}
use Rattle.config.specs.declared.config.Priority.{Priority}
use Rattle.config.specs.declared.config.Priority.TheVariants.{P0, P1, P2}
use Rattle.numeric.proofs.Choice.{by_test}
use Rattle.queue.specs.Waiting.{has_room}
use Rattle.queue.specs.declared.entry.InstanceKey.{InstanceKey}
use Rattle.queue.specs.declared.fate.Kept.{Kept}
use Rattle.queue.specs.Pool.{Limits}
use Rattle.pacing.proofs.Credit.{credit-at_most, credit-none, wait_enough}
use Rattle.pacing.specs.TokenBucket.{credit, wait_of, earned, refilled, tried, forced, told, rated, resized}
use Rattle.pacing.specs.TokenBucket as bucket
use Rattle.pacing.specs.WriterPacer.{Queues, Pacer, with_tokens, with_counts, waiting_in, slot_in, made, enqueue_p0, enqueue_p1, enqueue_p2, enqueue, handed_in, front_of, send_of, gone, by_p0, by_p1, by_p2, attempt_p0, paid, waited_by, waited, limited, attempt, noted_send, sent_from, sent_if, rate_set, burst_of}
use Rattle.pacing.specs.declared.pacer_counts.PacerCounts.{PacerCounts}
use Rattle.pacing.specs.declared.send_action.SendAction.{SendAction}
use Rattle.pacing.specs.declared.send_action.SendAction.TheVariants.{Empty, RateLimited}
use Rattle.pacing.specs.declared.token_bucket.TokenBucket.{TokenBucket}
use Rattle.pacing.specs.declared.writer_pacer.PacerConfig.{PacerConfig}
use Rattle.guarantees.specs.Theorem.{paid_as}

-- ---- a bucket as the settings have it

-- its rate is in the domain, its capacity is the rate's, and its refill time is not after the last call's time
pub record Paced (last : ℕ) (b : TokenBucket) : Type 0 where
  pub least : 1 ≤ b.rate_bps
  pub most : b.rate_bps ≤ 1000000000
  pub burst : b.capacity ≡ burst_of b.rate_bps
  pub before : b.last_refill ≤ last

-- a new pacer's bucket
pub paced-made : (time : ℕ) (m : Limits) (rate : ℕ) → 1 ≤ rate → rate ≤ 1000000000 → Paced time (made time m rate).tokens
paced-made time m rate l u = record { least = l; most = u; burst = refl; before = omega arith }

-- a later call changes nothing of it
pub paced-later : {last time : ℕ} {b : TokenBucket} → Paced last b → last ≤ time → Paced time b
paced-later h l = record { least = h.least; most = h.most; burst = h.burst; before = omega (arith, h.before) }

-- neither does a change of the tokens
paced_tokens : {last : ℕ} {b : TokenBucket} (n : ℕ) → Paced last b → Paced last (bucket.with_tokens b n)
paced_tokens n h = record { least = h.least; most = h.most; burst = h.burst; before = h.before }

-- nor a refill
paced-refilled : {last : ℕ} (b : TokenBucket) (time : ℕ) → Paced last b → last ≤ time → Paced time (refilled b time)
unfolding refilled
paced-refilled b time h l =
    by_test (Paced time) (ltb 0 (earned b time))
    (λ e. record { least = h.least; most = h.most; burst = h.burst; before = omega arith })
    (λ e. paced-later h l)

-- a rate setting holds the rate to the settings' least and most
pub paced-rated : (p : Pacer) (c : PacerConfig) (time rate last : ℕ)
    → 1 ≤ c.min_rate_bps → c.min_rate_bps ≤ c.max_rate_bps → c.max_rate_bps ≤ 1000000000
    → Paced last p.tokens → last ≤ time → Paced time (rate_set p c time rate).tokens
unfolding rate_set rated resized
paced-rated p c time rate last l m u h t =
    record { least = omega arith; most = omega arith; burst = refl; before = (paced-refilled p.tokens time h t).before }

-- a hand-in leaves the tokens
pub handed_tokens : (p : Pacer) (c : Priority) (key : InstanceKey) (n : ℕ) → (handed_in p c key n).0.tokens ≡ p.tokens
unfolding handed_in enqueue enqueue_p0 enqueue_p1 enqueue_p2
handed_tokens p P0 key n = by_test (λ (x : Pacer × Kept). x.0.tokens ≡ p.tokens) (has_room p.queues.p0) (λ e. refl) (λ e. refl)
handed_tokens p P1 key n = refl
handed_tokens p P2 key n = refl

-- ---- what was sent, covered by tokens and time

-- the bytes sent and the tokens left are the tokens held, the rate times the time between the refill times, and a byte for each refill
-- at most; in billionths, and the rate times time added on both sides
pub record Covers (b b' : TokenBucket) (bytes refills : ℕ) : Type 0 where
  pub rate : b'.rate_bps ≡ b.rate_bps
  pub later : b.last_refill ≤ b'.last_refill
  pub covered :
      (bytes + b'.tokens) * 1000000000 + b.rate_bps * b.last_refill
      ≤ (b.tokens + refills) * 1000000000 + b.rate_bps * b'.last_refill

-- the refill of a call, seen by the refill time
abbrev pub refill_of : TokenBucket → TokenBucket → ℕ
refill_of b b' = cond (eqb b.last_refill b'.last_refill) 0 1

refill-none : (b : TokenBucket) → refill_of b b ≡ 0
refill-none b = rw (eq-eqb b.last_refill b.last_refill refl) refl

covers_none : (b : TokenBucket) → Covers b b 0 0
covers_none b = record { rate = refl; later = omega arith; covered = omega arith }

-- a bucket that stays has sent nothing
pub covers_same : {b b' : TokenBucket} → b ≡ b' → Covers b b' 0 0
covers_same {b} {b'} e = subst (λ (x : TokenBucket). Covers b x 0 0) e (covers_none b)

pub refill-same : {b b' : TokenBucket} → b ≡ b' → refill_of b b' ≡ 0
refill-same {b} {b'} e = subst (λ (x : TokenBucket). refill_of b x ≡ 0) e (refill-none b)

-- one call after another
pub covers_then : {b x z : TokenBucket} (m n f g : ℕ) → Covers b x m f → Covers x z n g → Covers b z (m + n) (f + g)
covers_then {b} {x} {z} m n f g h k =
    let t : (n + z.tokens) * 1000000000 + b.rate_bps * x.last_refill ≤ (x.tokens + g) * 1000000000 + b.rate_bps * z.last_refill = rw h.rate at k.covered in
    record { rate = k.rate ∙ h.rate; later = omega (arith, h.later, k.later); covered = omega (arith, h.covered, t) }

-- so what was sent is within the tokens held, the rate times the time since the refill time, and a byte for each refill
pub covers_within : {b b' : TokenBucket} (bytes refills time : ℕ) → Covers b b' bytes refills → b'.last_refill ≤ time
    → bytes * 1000000000 ≤ (b.tokens + refills) * 1000000000 + b.rate_bps * (time - b.last_refill)
covers_within {b} {b'} bytes refills time h t =
    let e : b'.last_refill ≡ b.last_refill + (b'.last_refill - b.last_refill) = omega (arith, h.later) in
    let m : b.rate_bps * (b'.last_refill - b.last_refill) ≤ b.rate_bps * (time - b.last_refill) = mul-le-mul_left b.rate_bps (omega arith) in
    omega (arith, h.covered, ap (λ (x : ℕ). b.rate_bps * x) e, m)

-- what stays of a bucket while it pays
covers_paid : {b x : TokenBucket} (left bytes f : ℕ) → Covers b x 0 f → bytes + left ≤ x.tokens → Covers b (bucket.with_tokens x left) bytes f
covers_paid left bytes f h l = record { rate = h.rate; later = h.later; covered = omega (arith, h.covered, l) }

-- ---- the ways of a send attempt

-- a bucket is as another was, or as that is once refilled at a time
abbrev Once : TokenBucket → ℕ → TokenBucket → Type 0
Once b time x = (x ≡ b) ⊎ (x ≡ refilled b time)

paced-once : {last : ℕ} {b x : TokenBucket} (time : ℕ) → Paced last b → last ≤ time → Once b time x → Paced time x
paced-once time h t (inl e) = subst (Paced time) (sym e) (paced-later h t)
paced-once {b = b} time h t (inr e) = subst (Paced time) (sym e) (paced-refilled b time h t)

-- the class whose first record is paid for or waits, where P0 is empty
abbrev Next : Queues → Priority → Type 0
Next q P0 = ⊥
Next q P1 = 0 < waiting_in q P1
Next q P2 = (waiting_in q P1 ≡ 0) × (0 < waiting_in q P2)

next-some : (q : Queues) (c : Priority) → Next q c → 0 < waiting_in q c
next-some q P0 n = absurd n
next-some q P1 n = n
next-some q P2 n = n.1

-- no class before it has a record
next-before : (q : Queues) (c d : Priority) → waiting_in q P0 ≡ 0 → Next q c → class_number d < class_number c → waiting_in q d ≡ 0
next-before q P0 d e n h = absurd n
next-before q P1 P0 e n h = e
next-before q P1 P1 e n h = absurd (omega arith)
next-before q P1 P2 e n h = absurd (omega arith)
next-before q P2 P0 e n h = e
next-before q P2 P1 e n h = n.0
next-before q P2 P2 e n h = absurd (omega arith)

none : (n : ℕ) → ltb 0 n ≡ false → n ≡ 0
none n e = let h : n ≤ 0 = ltb-false 0 n e in omega arith

-- a wait is told for that class, or nothing waits
limited_by : (P : Pacer × SendAction → Type 0) (p : Pacer) (time : ℕ)
    → ((c : Priority) → Next p.queues c → P (waited p time (front_of p.queues c).length))
    → P ((p, Empty)) → P (limited p time)
unfolding limited
limited_by P p time f g =
    by_test P (ltb 0 (waiting_in p.queues P1)) (λ e. f P1 (ltb-true _ _ e))
    (λ e. by_test P (ltb 0 (waiting_in p.queues P2)) (λ d. f P2 (none _ e, ltb-true _ _ d)) (λ d. g))

-- the wait for what is missing of n tokens
abbrev wait_for : TokenBucket → ℕ → ℕ
wait_for b n = wait_of (n - b.tokens) b.rate_bps

-- that wait is told of the bucket refilled, or none
waited_by_lem : (P : Pacer × SendAction → Type 0) (p : Pacer) (time n : ℕ)
    → ((a : SendAction) → (a ≡ Empty) ⊎ (a ≡ RateLimited (wait_for (refilled p.tokens time) n))
    → P ((with_tokens p (refilled p.tokens time), a)))
    → P (waited p time n)
unfolding waited told
waited_by_lem P p time n f =
    by_test (λ x. P (waited_by p x)) (leb n (refilled p.tokens time).tokens) (λ e. f Empty (inl refl))
    (λ e.
    by_test P (ltb 0 (wait_for (refilled p.tokens time) n)) (λ d. f (RateLimited (wait_for (refilled p.tokens time) n)) (inr refl))
    (λ d. f Empty (inl refl)))

-- what an attempt leaves: the bucket refilled once at most, less what was paid
record Drawn (b : TokenBucket) (time : ℕ) (x : Pacer × SendAction) : Type 0 where
  from : TokenBucket
  once : Once b time from
  left : ℕ
  leaves : x.0.tokens ≡ bucket.with_tokens from left
  pays : paid_as x.1 + left ≤ from.tokens

-- nothing is paid where nothing is sent
rests : {b : TokenBucket} {time : ℕ} (p : Pacer) (a : SendAction) → Once b time p.tokens → paid_as a ≡ 0 → Drawn b time ((p, a))
rests p a o z = record { from = p.tokens; once = o; left = p.tokens.tokens; leaves = refl; pays = omega arith }

-- ---- waits told, and records that go

-- with control off no wait is told
pub wait_enabled : (enabled : Bool) (p : Pacer) (time wait : ℕ) → (sent_if enabled p time).1 ≡ RateLimited wait → enabled ≡ true
unfolding sent_if
wait_enabled true p time wait z = refl
wait_enabled false p time wait z = absurd (cc)

-- what a wait tells: nothing waits in P0, the wait is that for the first of a class, and the bucket alone has changed
record Awaits (p : Pacer) (time wait : ℕ) (x : Pacer × SendAction) : Type 0 where
  left : TokenBucket
  leaves : x.0 ≡ with_tokens p left
  paced : Paced time left
  idle : waiting_in p.queues P0 ≡ 0
  class : Priority
  next : Next p.queues class
  told_as : wait ≡ wait_for left (front_of p.queues class).length

-- a class's first is paid for where the tokens are there
paid-goes : (b : TokenBucket) (q : Queues) (c : Priority) (time : ℕ) → 0 < waiting_in q c
    → (front_of q c).length ≤ (refilled b time).tokens → (paid b q c time).1 ≡ true
unfolding paid tried
paid-goes b q c time n m =
    rw (ne_eqb (waiting_in q c) 0 (λ (z : waiting_in q c ≡ 0). omega arith), le-leb (front_of q c).length (refilled b time).tokens m) refl

-- and an empty queue leaves the bucket
paid_empty : (b : TokenBucket) (q : Queues) (c : Priority) (time : ℕ) → waiting_in q c ≡ 0
    → paid b q c time ≡ (b, false)
unfolding paid
paid_empty b q c time n = rw (eq-eqb (waiting_in q c) 0 n) refl

-- so the first of the next class goes
next-goes : (p : Pacer) (time : ℕ) (c : Priority) → waiting_in p.queues P0 ≡ 0 → Next p.queues c
    → (front_of p.queues c).length ≤ (refilled p.tokens time).tokens
    → (attempt p time).1 ≡ send_of c (slot_in p.queues c 0) (front_of p.queues c) false
unfolding attempt gone
next-goes p time P0 e n m = absurd n
next-goes p time P1 e n m =
    rw (le-ltb 0 (waiting_in p.queues P0) (omega arith), paid-goes p.tokens p.queues P1 time n m) refl
next-goes p time P2 e n m =
    rw (le-ltb 0 (waiting_in p.queues P0) (omega arith), paid_empty p.tokens p.queues P1 time n.0, paid-goes p.tokens p.queues P2 time n.1 m) refl

-- the first of a class, for which the wait was worked out, goes at a later time
pub record GoesAt (p q : Pacer) (wait later : ℕ) : Type 0 where
  pub class : Priority
  pub some : 0 < waiting_in p.queues class
  pub none_before : (d : Priority) → class_number d < class_number class → waiting_in p.queues d ≡ 0
  pub worked_out : wait ≡ wait_of ((front_of p.queues class).length - q.tokens.tokens) q.tokens.rate_bps
  pub goes : (sent_from q later).1 ≡ send_of class (slot_in q.queues class 0) (front_of p.queues class) false
  pub queues : q.queues ≡ p.queues

-- ---- what the laws of credit and waits give

-- no time earns nothing
earned-none : (b : TokenBucket) (time : ℕ) → 1 ≤ b.rate_bps → b.rate_bps ≤ 1000000000 → time ≤ b.last_refill → earned b time ≡ 0
earned-none b time l u t = ap (λ (n : ℕ). credit n b.rate_bps) (omega arith) ∙ credit-none b.rate_bps l u

-- a second refill at a time adds nothing
refilled_again : {last : ℕ} (b : TokenBucket) (time : ℕ) → Paced last b → refilled (refilled b time) time ≡ refilled b time
unfolding refilled
refilled_again b time h =
    by_test (λ (x : TokenBucket). cond (ltb 0 (earned x time)) (bucket.credited x time (earned x time)) x ≡ x) (ltb 0 (earned b time))
    (λ e. rw (earned-none (bucket.credited b time (earned b time)) time h.least h.most (omega arith)) refl)
    (λ e. rw e refl)

once-refilled : {last : ℕ} {b x : TokenBucket} (time : ℕ) → Paced last b → Once b time x → Once b time (refilled x time)
once-refilled time h (inl e) = inr (ap (λ (y : TokenBucket). refilled y time) e)
once-refilled {b = b} time h (inr e) = inr (ap (λ (y : TokenBucket). refilled y time) e ∙ refilled_again b time h)

-- a credit above 0 is for a time after the refill time
refill_moves : {last : ℕ} (b : TokenBucket) (time : ℕ) → Paced last b → 0 < earned b time → b.last_refill ≢ time
refill_moves b time h e z = let n : earned b time ≡ 0 = earned-none b time h.least h.most (omega arith) in omega arith

-- a refill is covered by the time since the refill time, and a byte
covers_refilled : {last : ℕ} (b : TokenBucket) (time : ℕ) → Paced last b → last ≤ time → Covers b (refilled b time) 0 (refill_of b (refilled b time))
unfolding refilled
covers_refilled b time h l =
    by_test (λ (x : TokenBucket). Covers b x 0 (refill_of b x)) (ltb 0 (earned b time)) (λ e. credits (ltb-true _ _ e))
    (λ e. rw (refill-none b) (covers_none b))
  where
    sum : (tokens n cap rate last time : ℕ) → last ≤ time → min n cap * 1000000000 ≤ rate * (time - last) + 1000000000
        → (0 + min (tokens + n) cap) * 1000000000 + rate * last ≤ (tokens + 1) * 1000000000 + rate * time
    sum tokens n cap rate last time l m =
        let e : time ≡ last + (time - last) = omega arith in
        omega (arith, m, ap (λ (x : ℕ). rate * x) e)

    credits : 0 < earned b time → Covers b (bucket.credited b time (earned b time)) 0 (refill_of b (bucket.credited b time (earned b time)))
    credits e =
        rw (ne_eqb b.last_refill time (refill_moves b time h e))
        (record {
          rate = refl;
          later = omega (arith, h.before);
          covered =
              sum b.tokens (earned b time) b.capacity b.rate_bps b.last_refill time (omega (arith, h.before))
              (credit-at_most (time - b.last_refill) b.rate_bps b.capacity h.least h.most (omega (arith, h.most, h.burst)));
        })

-- the refill time moves exactly where the credit is above 0
-- Stays: docs/DECISIONS.md names it: what the theorem's count of refills counts.
pub refill-credit : {last : ℕ} (b : TokenBucket) (time : ℕ) → Paced last b → refill_of b (refilled b time) ≡ cond (ltb 0 (earned b time)) 1 0
unfolding refilled
refill-credit b time h = go (ltb 0 (earned b time)) refl
  where
    go : (t : Bool) → ltb 0 (earned b time) ≡ t → refill_of b (cond t (bucket.credited b time (earned b time)) b) ≡ cond t 1 0
    go true e = rw (ne_eqb b.last_refill time (refill_moves b time h (ltb-true _ _ e))) refl
    go false e = refill-none b

covers_once : {last : ℕ} {b x : TokenBucket} (time : ℕ) → Paced last b → last ≤ time → Once b time x → Covers b x 0 (refill_of b x)
covers_once {b = b} time h t (inl e) = rw (refill-same (sym e)) (covers_same (sym e))
covers_once {b = b} time h t (inr e) = subst (λ (y : TokenBucket). Covers b y 0 (refill_of b y)) (sym e) (covers_refilled b time h t)

-- n tokens are taken, or are not there, after a refill
tried_by_lem : {last : ℕ} {b : TokenBucket} (P : TokenBucket × Bool → Type 0) (x : TokenBucket) (time n : ℕ) → Paced last b → Once b time x
    → ((y : TokenBucket) → Once b time y → n ≤ y.tokens → P (bucket.with_tokens y (y.tokens - n), true))
    → ((y : TokenBucket) → Once b time y → P (y, false))
    → P (tried x time n)
unfolding tried
tried_by_lem P x time n h o f g =
    by_test P (leb n (refilled x time).tokens) (λ e. f (refilled x time) (once-refilled time h o) (leb-true _ _ e))
    (λ e. g (refilled x time) (once-refilled time h o))

-- the same of the first record of a class, whose queue may be empty
paid_by_lem : {last : ℕ} {b : TokenBucket} (P : TokenBucket × Bool → Type 0) (x : TokenBucket) (q : Queues) (c : Priority) (time : ℕ) → Paced last b → Once b time x
    → ((y : TokenBucket) → Once b time y → (front_of q c).length ≤ y.tokens → P (bucket.with_tokens y (y.tokens - (front_of q c).length), true))
    → ((y : TokenBucket) → Once b time y → P (y, false))
    → P (paid x q c time)
unfolding paid
paid_by_lem P x q c time h o f g =
    by_test P (eqb (waiting_in q c) 0) (λ e. g x o) (λ e. tried_by_lem P x time (front_of q c).length h o f g)

-- a class's first goes, and its cost of P1 or P2 is taken from the tokens; or none does
attempt_by_lem : {last : ℕ} (P : Pacer × SendAction → Type 0) (p : Pacer) (time : ℕ) → Paced last p.tokens
    → ((c : Priority) (y : TokenBucket) (left : ℕ) (short : Bool) → Once p.tokens time y
    → paid_as (send_of c (slot_in p.queues c 0) (front_of p.queues c) short) + left ≤ y.tokens
    → P (gone p c (bucket.with_tokens y left) short))
    → ((y : TokenBucket) → Once p.tokens time y → waiting_in p.queues P0 ≡ 0 → P (limited (with_tokens p y) time))
    → P (attempt p time)
unfolding attempt attempt_p0 forced
attempt_by_lem P p time h f g =
    by_test P (ltb 0 (waiting_in p.queues P0))
    (λ e.
    tried_by_lem (λ x. P (by_p0 p time n₀ x)) p.tokens time n₀ h (inl refl)
    (λ y o m. f P0 y (y.tokens - n₀) false o (omega arith))
    (λ y o. f P0 (refilled y time) ((refilled y time).tokens - n₀) true (once-refilled time h o) (omega arith)))
    (λ e.
    paid_by_lem (λ x. P (by_p1 p time x)) p.tokens p.queues P1 time h (inl refl)
    (λ y o m. f P1 y (y.tokens - (front_of p.queues P1).length) false o (omega arith))
    (λ y o.
    paid_by_lem (λ x. P (by_p2 p time x)) y p.queues P2 time h o
    (λ z k m. f P2 z (z.tokens - (front_of p.queues P2).length) false k (omega arith))
    (λ z k. g z k (none _ e))))
  where
    n₀ : ℕ
    n₀ = (front_of p.queues P0).length

drawn-attempt : {last : ℕ} (p : Pacer) (time : ℕ) → Paced last p.tokens → Drawn p.tokens time (attempt p time)
unfolding gone
drawn-attempt p time h =
    attempt_by_lem D p time h (λ c y left short o m. record { from = y; once = o; left = left; leaves = refl; pays = m })
    (λ y o e.
    limited_by D (with_tokens p y) time
    (λ c n. waited_by_lem D (with_tokens p y) time (front_of p.queues c).length (λ a w. rests _ a (once-refilled time h o) (free a w)))
    (rests _ Empty o refl))
  where
    D : Pacer × SendAction → Type 0
    D = Drawn p.tokens time

    free : {wait : ℕ} (a : SendAction) → (a ≡ Empty) ⊎ (a ≡ RateLimited wait) → paid_as a ≡ 0
    free a (inl e) = ap paid_as e
    free a (inr e) = ap paid_as e

-- counts are no tokens
drawn-noted : {b : TokenBucket} {time : ℕ} (x : Pacer × SendAction) → Drawn b time x → Drawn b time (noted_send x)
drawn-noted x d = record { from = d.from; once = d.once; left = d.left; leaves = d.leaves; pays = d.pays }

drawn : {last : ℕ} (enabled : Bool) (p : Pacer) (time : ℕ) → Paced last p.tokens → Drawn p.tokens time (sent_if enabled p time)
unfolding sent_if sent_from
drawn enabled p time h =
    by_test (Drawn p.tokens time) enabled (λ e. drawn-noted (attempt p time) (drawn-attempt p time h)) (λ e. rests p Empty (inl refl) refl)

pub paced-attempt : (enabled : Bool) (p : Pacer) (time last : ℕ) → Paced last p.tokens → last ≤ time
    → Paced time (sent_if enabled p time).0.tokens
paced-attempt enabled p time last h t =
    let d : Drawn p.tokens time (sent_if enabled p time) = drawn enabled p time h in
    subst (Paced time) (sym d.leaves) (paced_tokens d.left (paced-once time h t d.once))

-- an attempt's payment is covered
pub attempt-allowance : (enabled : Bool) (p : Pacer) (time last : ℕ) → Paced last p.tokens → last ≤ time
    → Covers p.tokens (sent_if enabled p time).0.tokens (paid_as (sent_if enabled p time).1)
    (refill_of p.tokens (sent_if enabled p time).0.tokens)
attempt-allowance enabled p time last h t =
    let d : Drawn p.tokens time (sent_if enabled p time) = drawn enabled p time h in
    subst (λ (x : TokenBucket). Covers p.tokens x (paid_as (sent_if enabled p time).1) (refill_of p.tokens x)) (sym d.leaves)
    (covers_paid d.left (paid_as (sent_if enabled p time).1) (refill_of p.tokens d.from) (covers_once time h t d.once) d.pays)

-- ---- waits

awaits : {last : ℕ} (p : Pacer) (time wait : ℕ) → Paced last p.tokens → last ≤ time
    → (attempt p time).1 ≡ RateLimited wait → Awaits p time wait (attempt p time)
unfolding gone
awaits p time wait h t =
    attempt_by_lem A p time h (λ c y left short o m z. absurd (cc))
    (λ y o e.
    limited_by A (with_tokens p y) time
    (λ c n.
    waited_by_lem A (with_tokens p y) time (front_of p.queues c).length
    (λ a w z.
    record {
      left = refilled y time;
      leaves = refl;
      paced = paced-once time h t (once-refilled time h o);
      idle = e;
      class = c;
      next = n;
      told_as = same w z;
    }))
    (λ z. absurd (cc)))
  where
    A : Pacer × SendAction → Type 0
    A x = x.1 ≡ RateLimited wait → Awaits p time wait x

    same : {a : SendAction} {k : ℕ} → (a ≡ Empty) ⊎ (a ≡ RateLimited k) → a ≡ RateLimited wait → wait ≡ k
    same (inl e) z = absurd (cc)
    same (inr e) z = cc

-- the credit of the wait and a nanosecond is what was missing
enough : {time : ℕ} (b : TokenBucket) (n later : ℕ) → Paced time b → n ≤ 1472 → later ≤ 2 ^ 62
    → time + wait_for b n + 1 ≤ later → n ≤ (refilled b later).tokens
unfolding refilled
enough b n later h m t w =
    by_test (λ (x : TokenBucket). n ≤ x.tokens) (ltb 0 (earned b later)) (λ e. omega (arith, earns, h.burst))
    (λ e. let z : earned b later ≡ 0 = none _ e in omega (arith, earns))
  where
    earns : n - b.tokens ≤ earned b later
    earns = wait_enough (n - b.tokens) b.rate_bps (later - b.last_refill) h.least h.most (omega arith) (omega arith) (omega (arith, h.before))

-- the record for which a wait was told goes, once the wait and a nanosecond are over
pub wait_goes : (p : Pacer) (time last wait later : ℕ) → Paced last p.tokens → last ≤ time → later ≤ 2 ^ 62
    → ((c : Priority) → 0 < waiting_in p.queues c → (front_of p.queues c).length ≤ 1472)
    → (sent_from p time).1 ≡ RateLimited wait → time + wait + 1 ≤ later → GoesAt p (sent_from p time).0 wait later
unfolding sent_from
wait_goes p time last wait later h t u s a w =
    subst (λ (x : Pacer). GoesAt p (with_counts x counts) wait later) (sym k.leaves)
    (record {
      class = k.class;
      some = next-some p.queues k.class k.next;
      none_before = λ d h. next-before p.queues k.class d k.idle k.next h;
      worked_out = k.told_as;
      goes =
          next-goes (with_counts (with_tokens p k.left) counts) later k.class k.idle k.next
          (enough k.left (front_of p.queues k.class).length later k.paced (s k.class (next-some p.queues k.class k.next)) u (rw k.told_as at w));
      queues = refl;
    })
  where
    k : Awaits p time wait (attempt p time)
    k = awaits p time wait h t a

    counts : PacerCounts
    counts = (sent_from p time).0.counts
