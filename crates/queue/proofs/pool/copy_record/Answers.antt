use Prim.Native.Nat.{◌<◌}
use mathlib.Core.Path.{◌≡◌, ◌∙◌}
use native.Mathlib.Numerals.{add-one}
use native.Mathlib.Omega.{arith}
use borrow.Author.Tests.{le-leb, lt-leb}
use lib.ListN.{length, length-set}
use lib.Seq.{take-length}
use Rattle.queue.specs.Pool.{copied}
use Rattle.queue.proofs.Pools.{turn}
use Rattle.queue.proofs.pool.copy_record.Goals as goal

pub returns-then-slot-sample : goal.returns-then-slot-sample
unfolding copied
returns-then-slot-sample c = simp (lt-leb _ _ c.if-slot-sample.true)

pub loop-i-preserved : goal.loop-i-preserved
loop-i-preserved c = let l = c.loop-i in
    let a = c.args in
    let below : l.i < length a.slot.now = omega arith in (
      omega arith,
      (
        rw (l.invariant.1.0, add-one) (turn a.sample.now a.slot.now l.i c.loop-i-test.true below),
        simp length-set l.invariant.1.1,
      ),
    )

pub returns : goal.returns
unfolding copied
returns c = let l = c.loop-i in
    let e : l.i ≡ length c.args.sample.now = omega arith in
    l.invariant.1.0 ∙ simp (e, take-length, le-leb _ _ c.if-slot-sample.false)
