-- The entries are filled in, and then the codes are read from them (Reading). Assumes nothing.
use Rattle.shortest_encoder.proofs.Reading.{minimal}
use Rattle.shortest_encoder.proofs.encode_minimal_core.Goals as goal

pub returns : goal.returns
returns c = minimal _ _ _ _ _ _ _ _ _ _ c.fill_entries.ensures c.read_codes.ensures
