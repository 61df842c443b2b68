-- The rest of the line, after the bytes so far, means what the whole line means.
use Rattle.std.proofs.Common.{◌≡◌, ◌≤◌, [], length, take, drop}
use Rattle.text_forms.specs.declared.escapes.Reading.TheVariants.{Plain}
use Rattle.text_forms.specs.Escapes.{meaning}
use Rattle.text_forms.proofs.escapes.unescape.Given as goal

abbrev pub invariant-loop-byte : goal.invariant-loop-byte
invariant-loop-byte l =
    (l.size ≤ length l.initial.out)
    × (meaning (length l.initial.out) l.reading (take l.size l.out) (drop l.byte-index l.line)
    ≡ meaning (length l.initial.out) Plain [] l.line)
