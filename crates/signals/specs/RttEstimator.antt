-- Round-trip times (RFC 6298, section 2): f32, alpha 0.125, beta 0.25. Definitions only.
use Rattle.std.specs.Prelude.{ℕ, ◌+◌, min, Bool, false, cond, List, Option, Some, None, ltb, leb, eqb, Float, get_or, set, replicate, take}
use Rattle.std.specs.Float.{nan, binary32}
use Rattle.std.specs.Float.Ieee.{of_bits, add, sub, mul, div, lt}
use Rattle.numeric.specs.Float.{max_of, abs_of}
use Rattle.numeric.specs.Search.{first}
use Rattle.signals.specs.declared.rtt_estimator.Peer.{Peer}
use Rattle.signals.specs.declared.rtt_estimator.PeerRttTracker.{PeerRttTracker}
use Rattle.signals.specs.declared.rtt_estimator.RttEstimator.{RttEstimator}

abbrev zero32 : Float
zero32 = of_bits binary32 0

-- 0.125, 0.25, 2, 4 and 1 as f32
abbrev pub alpha : Float
alpha = of_bits binary32 0x3e00_0000

abbrev pub beta : Float
beta = of_bits binary32 0x3e80_0000

abbrev pub two : Float
two = of_bits binary32 0x4000_0000

abbrev pub four : Float
four = of_bits binary32 0x4080_0000

abbrev pub one : Float
one = of_bits binary32 0x3f80_0000

-- the average, the least, the variance, the number of samples and the time of the last
abbrev pub estimator_of : Float → Float → Float → ℕ → Option ℕ → RttEstimator
estimator_of rtt least var samples last =
    record { rtt_ms = rtt; rtt_min_ms = least; rtt_var_ms = var; samples = samples; last_sample = last }

abbrev pub new_estimator : Float → RttEstimator
new_estimator x = estimator_of x x zero32 0 None

abbrev pub lesser_of : Float → Float → Float
lesser_of x least = cond (lt x least) x least

-- RFC 6298, 2.2: the first sample is the average, and half of it the variance
abbrev pub first_sample : ℕ → Float → RttEstimator
first_sample time x = estimator_of x x (div binary32 x two) 1 (Some time)

-- RFC 6298, 2.3: "One difference from the old average feeds both updates"
abbrev pub next_average : Float → Float → Float
next_average rtt diff = add binary32 rtt (mul binary32 alpha diff)

abbrev pub next_variance : Float → Float → Float
next_variance var diff = add binary32 var (mul binary32 beta (sub binary32 (abs_of diff) var))

abbrev pub next_sample : RttEstimator → ℕ → Float → RttEstimator
next_sample e time x =
    estimator_of (next_average e.rtt_ms (sub binary32 x e.rtt_ms)) (lesser_of x e.rtt_min_ms)
    (next_variance e.rtt_var_ms (sub binary32 x e.rtt_ms))
    (min (e.samples + 1) 18446744073709551615)
    (Some time)

unfoldable pub updated : RttEstimator → ℕ → Float → RttEstimator
updated e time x = cond (eqb e.samples 0) (first_sample time x) (next_sample e time x)

-- above twice the least sample
unfoldable pub inflated : RttEstimator → Bool
inflated e = lt (mul binary32 e.rtt_min_ms two) e.rtt_ms

-- "`rto` is at least 1 ms, where the RFC has 1 s"
abbrev pub rto_of : RttEstimator → Float
rto_of e = max_of (add binary32 e.rtt_ms (mul binary32 four e.rtt_var_ms)) one

-- ---- up to 64 peers

abbrev pub peer_of : ℕ → RttEstimator → Peer
peer_of id e = record { id = id; estimator = e }

abbrev pub tracker_of : List Peer → ℕ → Float → PeerRttTracker
tracker_of peers count x = record { peers = peers; count = count; default_ms = x }

abbrev pub new_tracker : Float → PeerRttTracker
new_tracker x = tracker_of (replicate 64 (peer_of 0 (new_estimator x))) 0 x

-- how many places of the table are taken
abbrev pub known_of : ℕ → ℕ
known_of count = min count 64

-- the peers that were entered
abbrev pub peers_of : PeerRttTracker → List Peer
peers_of t = take (known_of t.count) t.peers

-- what the language's reading gives beyond an array's end; no place taken lies there
abbrev pub no_peer : Peer
no_peer = peer_of 0 (estimator_of nan nan nan 0 None)

abbrev pub peer_at : PeerRttTracker → ℕ → Peer
peer_at t k = get_or t.peers k no_peer

-- whether the peer at a place has the id
abbrev pub is_at : PeerRttTracker → ℕ → ℕ → Bool
is_at t id k = eqb (peer_at t k).id id

-- the first place with the id, or the number of places taken
unfoldable pub place_of : PeerRttTracker → ℕ → ℕ
place_of t id = first (λ (k : ℕ). eqb (peer_at t k).id id) (known_of t.count)

-- what is shown of a place: the peer's, or zero where none stands
abbrev pub id_at : PeerRttTracker → ℕ → ℕ
id_at t k = cond (ltb k (known_of t.count)) (peer_at t k).id 0

abbrev pub shown_at : PeerRttTracker → ℕ → RttEstimator
shown_at t k = cond (ltb k (known_of t.count)) (peer_at t k).estimator (new_estimator zero32)

-- a peer after a sample
abbrev pub peer_updated : Peer → ℕ → Float → Peer
peer_updated p time x = peer_of p.id (updated p.estimator time x)

-- a peer with its first sample
abbrev pub peer_entered : Float → ℕ → ℕ → Float → Peer
peer_entered default time id x = peer_of id (updated (new_estimator default) time x)

-- a peer that is there, and one that is entered
abbrev pub updated_at : PeerRttTracker → ℕ → ℕ → Float → PeerRttTracker
updated_at t k time x = tracker_of (set t.peers k (peer_updated (peer_at t k) time x)) t.count t.default_ms

abbrev pub entered_at : PeerRttTracker → ℕ → ℕ → ℕ → Float → PeerRttTracker
entered_at t k time id x = tracker_of (set t.peers k (peer_entered t.default_ms time id x)) (k + 1) t.default_ms

unfoldable pub tracker_updated : PeerRttTracker → ℕ → ℕ → Float → PeerRttTracker
tracker_updated t time id x =
    cond (ltb (place_of t id) (known_of t.count)) (updated_at t (place_of t id) time x)
    (cond (ltb (known_of t.count) 64) (entered_at t (known_of t.count) time id x) t)

-- not there, and 64 are
unfoldable pub full_for : PeerRttTracker → ℕ → Bool
full_for t id = cond (ltb (place_of t id) (known_of t.count)) false (leb 64 (known_of t.count))

-- ---- the same on one row of the table: a sample reads and writes the row at `seat_of`, the count and the default, and nothing else. Nothing new: it
-- comes to `tracker_updated` and `full_for` (`row_like`, proofs/Peers.antt)

-- one place of a table, its count and its default
pub record PeerRow : Type 0 where
  pub peer : Peer
  pub count : ℕ
  pub default_ms : Float

abbrev pub row_of : Peer → ℕ → Float → PeerRow
row_of p count x = record { peer = p; count = count; default_ms = x }

-- the place that a peer's sample goes to: its own or the next, and the last where there is none
unfoldable pub seat_of : PeerRttTracker → ℕ → ℕ
seat_of t id = min (place_of t id) 63

abbrev pub row_at : PeerRttTracker → ℕ → PeerRow
row_at t k = row_of (peer_at t k) t.count t.default_ms

abbrev pub with_row : PeerRttTracker → ℕ → PeerRow → PeerRttTracker
with_row t k r = tracker_of (set t.peers k r.peer) r.count t.default_ms

-- row k after a peer's sample: behind the last row the peer is new, in its own row it has one sample more, and another's row stays: the table is full
unfoldable pub row_entered : PeerRow → ℕ → ℕ → ℕ → Float → Option PeerRow
row_entered r k time id x =
    cond (leb (known_of r.count) k)
    (Some (row_of (peer_entered r.default_ms time id x) (known_of r.count + 1) r.default_ms))
    (cond (eqb r.peer.id id) (Some (row_of (peer_updated r.peer time x) r.count r.default_ms)) None)

abbrev pub inflated_at : PeerRttTracker → ℕ → Bool
inflated_at t k = inflated (peer_at t k).estimator

-- whether one of the peers is inflated: a search finds one
unfoldable pub any_inflated : PeerRttTracker → Bool
any_inflated t = ltb (first (inflated_at t) (known_of t.count)) (known_of t.count)
