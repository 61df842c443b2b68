-- `typing::type_text` meets its contract. The loop's invariant: i bytes are typed and their counts written. Assumes nothing.
use Rattle.end_code.specs.Sides.{side_of}
use Rattle.typing.proofs.Texting.{Typing}
use Rattle.tables.specs.Tables.{lent}
use Rattle.typing.proofs.type_text.Given as goal

abbrev pub invariant-loop-i : goal.invariant-loop-i
invariant-loop-i l = Typing (lent l.tables) (side_of l.side) l.text l.initial.counts l.i l.head.len l.states l.counts
