-- A table that is full for a peer takes no sample of it; a sample comes to the same on its row alone. Assumes nothing.
-- Stays: `full-kept`, `row_kept` and `row_like` are laws that docs/ name, and what they stand on; std has none of tables.
use Rattle.std.proofs.Common.{◌≡◌, ℕ, Bool, true, List, Float, ap, arith, nat_eq}
use Rattle.std.proofs.lemmas.List.{set-get_or}
use Rattle.std.specs.Option.{is_none, unwrap_or}
use Rattle.numeric.proofs.Search.{first-most, first_found, first-before}
use Rattle.signals.specs.RttEstimator.{place_of, known_of, tracker_of, peer_at, tracker_updated, full_for, no_peer, seat_of, row_at, with_row, row_entered}
use Rattle.signals.specs.declared.rtt_estimator.Peer.{Peer}
use Rattle.signals.specs.declared.rtt_estimator.PeerRttTracker.{PeerRttTracker}

pub full-kept : (t : PeerRttTracker) (time id : ℕ) (x : Float) → full_for t id ≡ true → tracker_updated t time id x ≡ t
unfolding tracker_updated full_for
full-kept t time id x e = grind arith

-- ---- a row of the table

-- a row put back leaves the table as it is
-- Stays: `row_like` stands on it.
pub row_kept : (t : PeerRttTracker) (k : ℕ) → with_row t k (row_at t k) ≡ t
row_kept t k = ap (λ (peers : List Peer). tracker_of peers t.count t.default_ms) (set-get_or t.peers k no_peer)

-- what a sample leaves on the row of its place: the row that it gives, or the row as it was, makes the table, and there is none where it is full
-- Stays: what `row_like` says.
abbrev pub RowLike : PeerRttTracker → ℕ → ℕ → ℕ → Float → Type 0
RowLike t k time id x =
    (with_row t k (unwrap_or (row_entered (row_at t k) k time id x) (row_at t k)) ≡ tracker_updated t time id x)
    × (is_none (row_entered (row_at t k) k time id x) ≡ full_for t id)

-- a sample comes to the same on its row alone
-- Stays: docs/GUARANTEES.md names it.
pub row_like : (t : PeerRttTracker) (k time id : ℕ) (x : Float) → k ≡ seat_of t id → RowLike t k time id x
unfolding seat_of row_entered tracker_updated full_for place_of
row_like t k time id x e =
    let has : ℕ → Bool = λ (j : ℕ). nat_eq (peer_at t j).id id in
    grind (arith, first_found has (known_of t.count), first-before has (known_of t.count) 63, first-most has (known_of t.count), row_kept t 63)
