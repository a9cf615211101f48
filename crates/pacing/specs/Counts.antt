-- The thirteen counts of a pacer, and how much a call adds to count k; P2's waiting bytes, k = 2, are left out. Definitions only.
use Rattle.std.specs.Prelude.{ℕ, ◌+◌, cond, eqb, List, [], ◌∷◌, get_or}
use Rattle.config.specs.Config.{class_number}
use Rattle.config.specs.declared.config.Priority.{Priority}
use Rattle.config.specs.declared.config.Priority.TheVariants.{P0, P1, P2}
use Rattle.queue.specs.Fates.{is_full}
use Rattle.queue.specs.declared.fate.Fate.{Fate}
use Rattle.queue.specs.declared.fate.Fate.TheVariants.{Full, Joined, PushedOut, Replaced}
use Rattle.pacing.specs.WriterPacer.{Pacer}
use Rattle.pacing.specs.declared.send_action.SendAction.{SendAction}
use Rattle.pacing.specs.declared.send_action.SendAction.TheVariants.{Send, Empty, RateLimited}

-- 0 coalesced_p2, 1 dropped_p2, 2 P2's bytes that wait, 3 to 5 enqueued and 6 to 8 sent by class, 9 dropped_p1, 10 bytes_sent, 11 rate_limited,
-- 12 force_sends_p0
abbrev pub counts_of : Pacer → List ℕ
counts_of p =
    p.queues.p2.coalesced
    ∷ p.queues.p2.dropped
    ∷ p.queues.p2.total_bytes
    ∷ p.counts.enqueued.p0
    ∷ p.counts.enqueued.p1
    ∷ p.counts.enqueued.p2
    ∷ p.counts.sent.p0
    ∷ p.counts.sent.p1
    ∷ p.counts.sent.p2
    ∷ p.counts.dropped_p1
    ∷ p.counts.bytes_sent
    ∷ p.counts.rate_limited
    ∷ p.counts.force_sends_p0
    ∷ []

-- count k of a pacer, 0 beyond the last
abbrev pub count_in : Pacer → ℕ → ℕ
count_in p k = get_or (counts_of p) k 0

-- n at one count, nothing at any other
unfoldable pub only_at : ℕ → ℕ → ℕ → ℕ
only_at at n k = cond (eqb k at) n 0

abbrev pub drop_adds : Fate → ℕ → ℕ
drop_adds Full k = 0
drop_adds Joined k = 0
drop_adds PushedOut k = only_at 9 1 k
drop_adds Replaced k = 0

abbrev pub insert_adds : Fate → ℕ → ℕ
insert_adds Full k = 0
insert_adds Joined k = 0
insert_adds PushedOut k = only_at 1 1 k
insert_adds Replaced k = only_at 0 1 k

-- what became of the record, as its class counts it
abbrev pub fate_adds : Priority → Fate → ℕ → ℕ
fate_adds P0 f k = 0
fate_adds P1 f k = drop_adds f k
fate_adds P2 f k = insert_adds f k

-- a hand-in; a full queue adds nothing
unfoldable pub hand_adds : Priority → Fate → ℕ → ℕ
hand_adds c f k = cond (is_full f) 0 (only_at (3 + class_number c) 1 k + fate_adds c f k)

-- a send attempt
unfoldable pub send_adds : SendAction → ℕ → ℕ
send_adds (Send c slot sequence n forced) k =
    only_at (6 + class_number c) 1 k + only_at 10 n k + cond forced (only_at 12 1 k) 0
send_adds Empty k = 0
send_adds (RateLimited wait) k = only_at 11 1 k
