use Rattle.std.proofs.Common.{◌≡◌}
use Rattle.std.specs.List.{AllByRecursion}
use Rattle.tape.specs.Item.{items_of, items_left, Stands}
use Rattle.tape.specs.Run.{seen, Remembered, lines_of, text_of}
use Rattle.tape.specs.Text.{added}
use Rattle.tape.proofs.run.Player.play_all.Given as goal

-- the items that are left take the lines where all of them take them, each stands at its index, and what is remembered of the peers is so
-- Stays: the check asks for the loop's invariant and finds none.
abbrev pub invariant-loop-placed : goal.invariant-loop-placed
invariant-loop-placed l = record {
  told : added l.lines (text_of (lines_of l.tape (seen l.self) (items_left l.placed-iterator))) ≡ added l.initial.lines (text_of (lines_of l.tape (seen l.initial.self) (items_of l.tape)));
  stand : AllByRecursion (Stands l.tape) (items_left l.placed-iterator);
  remembered : Remembered l.self.inflated l.self.station;
}
