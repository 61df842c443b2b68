-- `in_two_parts` meets its contract by the law `fnv-cut`: the two parts make up the octets.
use Rattle.fnv.proofs.Laws.{fnv-cut}
use Rattle.edges.proofs.vectors.in_two_parts.Goals as goal

pub returns : goal.returns
returns c = rw (c.fnv1a.ensures, c.fnv1a-first.ensures, c.split_at.ensures.front, c.split_at.ensures.back) (fnv-cut _ _ _)
