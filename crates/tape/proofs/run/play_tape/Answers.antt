use Rattle.std.proofs.Common.{◌≡◌}
use Rattle.tape.specs.Run.{new_player}
use Rattle.tape.proofs.Runs.{player_made}
use Rattle.tape.proofs.run.play_tape.Goals as goal

-- Stays: that the station which was made is a new tape's the check does not put into what `play_all` leaves; it stops at a limit of case splits.
pub returns-in-Ok-clause-lines_after : goal.returns-in-Ok-clause-lines_after
returns-in-Ok-clause-lines_after c =
    let made = player_made in
    let same : c.in-Ok.station ≡ new_player.station = cc in
    rw same at c.play_all.ensures
