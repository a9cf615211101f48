use Rattle.std.proofs.Common.{◌≡◌, true, arith}
use Rattle.std.proofs.lemmas.Grind.{common_steps}
use Rattle.queue.specs.Pool.{limits_of}
use Rattle.pacing.specs.WriterPacer.{fits}
use Rattle.station.specs.Station.{one_slot_each}
use Rattle.station.proofs.Rooms.{one_each_fits}
use Rattle.station.proofs.station.Station.new.Goals as goal

-- Stays: the check doesn't find that there is a roster: room for the limits, of which the making's checks tell, is room for a slot of each class.
pub returns-in_err-roster : goal.returns-in_err-roster
returns-in_err-roster g c =
    let room : fits g.row.P0 g.row.P1 g.row.P2 one_slot_each ≡ true = one_each_fits _ _ _ (limits_of c.args.config) c.in_ok-check_making.ensures.room in
    grind (arith, common_steps, room)
