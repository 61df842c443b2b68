-- Whatever is at least the longest so far and each row left is at least each row.
use Rattle.std.proofs.Common.{◌-◌, length}
use Rattle.tool_io.proofs.Lengths.{Longest}
use Rattle.tool_io.proofs.rows.longest.Given as goal

abbrev pub invariant-loop-most : goal.invariant-loop-most
invariant-loop-most l = Longest l.file l.at l.most

abbrev pub decreases-loop-most : goal.decreases-loop-most
decreases-loop-most l = length l.file - l.at
