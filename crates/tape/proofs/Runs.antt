-- The text of a run, one item at a time. Assumes nothing.
-- Stays: the sets of lemmas that run, play_tape, play_all and play cite (`using`), and their lemmas; std has none of runs.
use Rattle.std.proofs.Common.{◌≡◌, refl, sym, ◌∙◌, ℕ, ◌≤◌, List, [], ◌∷◌, length, arith, Ok, ltb, ltb-false, false}
use lib.Ieee.{le, of_bits}
use Rattle.std.proofs.lemmas.Grind.{common_steps}
use Rattle.std.specs.Borrow.{MutBor}
use Rattle.config.specs.Config.{failed_check, not_in_open_closed, not_in_open, not_in_closed, rates_beyond, floats_beyond, queues_beyond, limit_beyond}
use Rattle.config.specs.Refusal.{verdict_of}
use Rattle.station.specs.Station.{made_by, made_station}
use Rattle.station.proofs.Peers.{peers_kept}
use Rattle.tape.specs.Item.{items_of}
use Rattle.tape.specs.Run.{Player, tape_settings, new_player, played, lines_of, text_of, tape_text, room_for, lines_left}
use Rattle.tape.specs.Text.{added, lines_in, header}
use Rattle.tape.specs.declared.item.Placed.{Placed}
use Rattle.tape.specs.declared.text.Lines.{Lines}
use Rattle.tape.proofs.Bounds.{enough, text_append}
use Rattle.tape.proofs.Items.{items_stand, body_whole}
use Rattle.tape.proofs.Texts.{added_both, added_nothing, filled}

-- an item's lines put behind what stands there, the rest of the run stays as it was
pub told_more :
    (bytes : List ℕ) (ls : Lines) (p : Player) (x : Placed) (xs : List Placed)
    → added (added ls (text_of (played bytes p x.index x.item).lines)) (text_of (lines_of bytes (played bytes p x.index x.item).player xs))
    ≡ added ls (text_of (lines_of bytes p (x ∷ xs)))
unfolding lines_of
told_more bytes ls p x xs = rw (added_both, text_append)

-- .. and where none are left they are what they are
pub told_all : (bytes : List ℕ) (ls : Lines) (p : Player) (xs : List Placed) → xs ≡ [] → added ls (text_of (lines_of bytes p xs)) ≡ ls
unfolding lines_of text_of
told_all bytes ls p xs e = rw e (sym (added_nothing ls))

pub ruleset told_steps = (common_steps, told_more, told_all, items_stand)

pub ruleset play_steps = (common_steps, added_nothing, added_both, body_whole, peers_kept)

pub ruleset kept_steps = (common_steps, added_nothing, added_both, peers_kept)

-- the whole run told, the buffer holds the tape's text and what stood behind it
-- Stays: run cites it, by the set run_steps.
pub run_ends :
    (bytes : List ℕ) (b : MutBor (List ℕ))
    → ltb (length b.now) (room_for (length bytes)) ≡ false → length (tape_text bytes) ≤ room_for (length bytes)
    → added (added (lines_in b) header) (text_of (lines_of bytes new_player (items_of bytes)))
    ≡ record { bytes = record b { now = lines_left bytes b.now }; end = length (tape_text bytes) }
unfolding tape_text lines_left
run_ends bytes b room bound =
    let fit : length (tape_text bytes) ≤ length b.now = omega (arith, ltb-false (length b.now) (room_for (length bytes)) room) in
    rw room (added_both (lines_in b) header _ ∙ filled b (tape_text bytes) fit)

pub ruleset run_steps = (common_steps, run_ends, enough)

-- the settings of a tape are never turned down
pub player_made : made_station 2 4 2 tape_settings 0 ≡ Ok new_player.station
unfolding verdict_of failed_check not_in_open_closed not_in_open not_in_closed rates_beyond floats_beyond queues_beyond limit_beyond le of_bits made_by made_station
player_made = refl

pub ruleset made_steps = (common_steps, player_made, told_all)
