-- The loop keeps that the first c prefixes are there and the entries from n on are as they were. Assumes nothing.
use Rattle.search_fill.proofs.Shortening.{Prefixed}
use Rattle.search_fill.proofs.fill_prefixes.Given as goal

abbrev pub invariant-loop-c : goal.invariant-loop-c
invariant-loop-c l = Prefixed l.rows.file.now l.rows.places.now l.rows.n l.area l.initial.prefixes l.c l.prefixes
