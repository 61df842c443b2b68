-- Last codes give sizes, and these the tree tables. Assumes nothing.
use Rattle.interval_prepare.proofs.Preparing.{core_prepares}
use Rattle.interval_prepare.proofs.prepare_core.Goals as goal

pub returns : goal.returns
returns c = core_prepares _ _ _ _ _ _ _ _ c.requires _ c.encode_all_prefixes.ensures _ c.fill_sizes.ensures _ _ _ c.fill_tree.ensures
