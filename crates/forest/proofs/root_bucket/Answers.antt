-- By the law of the bucket without a prefix. Assumes nothing.
use mathlib.Core.Path.{refl, sym}
use borrow.Author.Rules.{rules}
use Rattle.forest.proofs.Packing.{bucket_root}
use Rattle.forest.proofs.root_bucket.Goals as goal

pub returns : goal.returns
returns c = record { is = sym (bucket_root _ _ refl); below = search rules }
