-- By what a byte does, and at the end. Assumes nothing.
use Rattle.std.proofs.Common.{sym, ◌∙◌, arith}
use Rattle.text_forms.proofs.Meanings.{written_on, gone-on, too_long, gone-wrong, refused-long, refused-wrong, finished}
use Rattle.text_forms.proofs.escapes.unescape.Goals as goal
use Rattle.text_forms.proofs.escapes.unescape.Goals.{in-Writes+else-out-size, in-Goes}

pub returns-then-out-size : goal.returns-then-out-size
returns-then-out-size c =
    refused-long _ _ _
    (too_long _ _ _ _ _ _ _ c.loop-byte-test.true c.loop-byte.invariant.0 c.loop-byte.auto.out c.loop-byte.invariant.1 _
    (sym c.take_byte.ensures ∙ c.in-Writes.is) (omega arith))

pub returns-in-Wrong : goal.returns-in-Wrong
returns-in-Wrong c =
    refused-wrong _ _ _
    (gone-wrong _ _ _ _ _ _ _ c.loop-byte-test.true c.loop-byte.invariant.0 c.loop-byte.auto.out c.loop-byte.invariant.1
    (sym c.take_byte.ensures ∙ c.in-Wrong.is))

pub loop-byte-preserved : goal.loop-byte-preserved
loop-byte-preserved c =
    elim c.match-take_byte.branch [
      | in-Writes+else-out-size w ↦
          rw (w.size-is, w.out-is, w.reading-is) (
            omega arith,
            written_on _ _ _ _ _ _ _ c.loop-byte-test.true c.loop-byte.invariant.0 c.loop-byte.auto.out
                c.loop-byte.invariant.1 _ (sym c.take_byte.ensures ∙ w.in-Writes.is) (omega arith),
          )
      | in-Goes w ↦
          rw (w.size-is, w.out-is, w.reading-is) (
            omega arith,
            gone-on _ _ _ _ _ _ _ c.loop-byte-test.true c.loop-byte.invariant.0 c.loop-byte.auto.out
                c.loop-byte.invariant.1 _ (sym c.take_byte.ensures ∙ w.in-Goes.is),
          )
    ]

pub returns : goal.returns
returns c =
    finished _ _ _ _ _ _ _ c.ended.ensures (omega arith) c.loop-byte.invariant.0 c.loop-byte.auto.out
    c.loop-byte.invariant.1
