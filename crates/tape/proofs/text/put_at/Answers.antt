use Rattle.std.proofs.Common.{sym, ◌∙◌}
use Rattle.tape.proofs.Texts.{put_none, put_more, put_lost}
use Rattle.tape.proofs.text.put_at.Goals as goal
use Rattle.tape.proofs.text.put_at.Goals.{then-end-bytes, else-end-bytes}

-- Stays: the check finds no step over `written` and `ended`, which are recursive and a bound.
pub loop-byte-init : goal.loop-byte-init
loop-byte-init c =
    let none = put_none c.args.bytes.now c.args.at in
    record { put = sym none.0; place = sym none.1 }

-- Stays: the same.
pub loop-byte-preserved : goal.loop-byte-preserved
loop-byte-preserved c =
    let l = c.loop-byte in
    elim c.if-end-bytes.branch [
      | then-end-bytes w ↦
          let more = put_more c.args.bytes.now c.args.at c.args.text.now l.byte-index c.loop-byte-test.true l.invariant.put l.invariant.place w.if-end-bytes.true in
          record { put = w.bytes-is ∙ more.0; place = w.end-is ∙ more.1 }
      | else-end-bytes w ↦
          let lost = put_lost c.args.bytes.now c.args.at c.args.text.now l.byte-index c.loop-byte-test.true l.invariant.put l.invariant.place w.if-end-bytes.false in
          record { put = w.bytes-is ∙ lost.0; place = w.end-is ∙ lost.1 }
    ]
