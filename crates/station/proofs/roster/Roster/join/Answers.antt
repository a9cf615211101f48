use borrow.Author.Rules.{scaled_Fits}
use Rattle.std.proofs.Common.{rules, ◌<◌}
use Rattle.station.proofs.roster.Roster.join.Goals as goal

-- Stays: the check doesn't find that the newcomer's place lies in the array from a count below 4; with a number that is handed in (`hand_in`) it does.
pub offset_bounds-self-inside-self-inside : goal.offset_bounds-self-inside-self-inside
offset_bounds-self-inside-self-inside g c =
    let small : c.self.inside.count < 4 = search rules in
    scaled_Fits _ 4 _ small (search rules)
