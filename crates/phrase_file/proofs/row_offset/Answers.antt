-- The walk gives the places in order. Assumes nothing.
use mathlib.Core.Path.{◌≡◌, sym, ap, ◌∙◌}
use mathlib.Core.List.{List}
use Prim.Native.Nat.{ℕ}
use lib.ListN.{length}
use Rattle.std.specs.Prelude.{Option}
use Rattle.std.specs.List.{slice_get}
use Rattle.std.specs.Option.{unwrap_or}
use Rattle.std.proofs.lemmas.Option.{unwrap_or-slice_get}
use Rattle.std.proofs.lemmas.Iterator.Adapters.{option_map_id}
use Rattle.std.proofs.lemmas.Iterator.Consumers.{nth_from_yields_List}
use Rattle.phrase_file.specs.Form.{places}
use Rattle.phrase_file.proofs.Walking.{walk-yields, all-left}
use Rattle.phrase_file.proofs.row_offset.Goals as goal

pub returns : goal.returns
returns c =
    let found = nth_from_yields_List _ _ _ c.nth.ensures.ran (walk-yields _) in
    let is : c.nth.result ≡ slice_get (places c.args.file.now) c.args.row =
    sym (option_map_id _) ∙ found ∙ ap (λ (ps : List ℕ). slice_get ps c.args.row) (all-left _ c.new.result c.new.ensures.file_is c.new.ensures.at_start) in
    c.unwrap_or.ensures ∙ ap (λ (o : Option ℕ). unwrap_or o (length c.args.file.now)) is ∙ unwrap_or-slice_get (places c.args.file.now) c.args.row (length c.args.file.now)
