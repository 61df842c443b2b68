-- `Joins::join_at` meets its contract: its steps are those of `Joining`. Assumes nothing.
use mathlib.Core.Path.{refl, ap}
use Rattle.std.specs.Prelude.{unwrap_or}
use lib.ListN.{length-set}
use Rattle.merge_encoder.proofs.Queueing.{longer_same}
use Rattle.merge_encoder.proofs.Joining.{at_below, first-ready, turned-first, second-ready, turned-last}
use Rattle.merge_encoder.proofs.joins.Joins.join_at.Goals as goal

pub renew-requires : goal.renew-requires
renew-requires c =
    rw (length-set c.args.codes.now _ _) (first-ready _ _ _ _ _ _ _ _ _ _ c.requires.state.0 c.requires.state.1 _ refl, c.requires.below.1)

-- no live place is before it
pub returns-in_default : goal.returns-in_default
returns-in_default c =
    let renewed = rw (length-set c.args.codes.now c.args.at c.args.row) at c.renew.ensures in
    turned-first _ _ _ _ _ _ _ _ _ _ c.requires.state.0 c.requires.state.1 _ c.clear_bit.ensures.bits _ _ refl refl
    (longer_same _ _ refl refl refl) refl renewed (ap (λ o. unwrap_or o c.args.at) c.in_default.is)

-- the key of the one before it is found anew too
pub renew-requires-in-Some : goal.renew-requires-in-Some
renew-requires-in-Some c =
    let state = rw c.in-Some.is at c.requires.state in
    let below = rw c.in-Some.is at c.requires.below in
    let renewed = rw (length-set c.args.codes.now c.args.at c.args.row) at c.renew.ensures in
    rw (length-set c.args.codes.now _ _) (
      second-ready _ _ _ _ _ _ _ _ _ _ state.0 state.1 _ c.clear_bit.ensures.bits _ _ refl refl (longer_same _ _ refl refl refl) refl renewed below.0,
      at_below _ _ _ _ _ _ _ _ _ _ state.0 state.1,
    )

pub returns-in-Some : goal.returns-in-Some
returns-in-Some c =
    let state = rw c.in-Some.is at c.requires.state in
    let below = rw c.in-Some.is at c.requires.below in
    let renewed = rw (length-set c.args.codes.now c.args.at c.args.row) at c.renew.ensures in
    let renewed2 = rw (length-set c.args.codes.now c.args.at c.args.row) at c.renew-in-Some.ensures in
    rw c.in-Some.is
    (turned-last _ _ _ _ _ _ _ _ _ _ state.0 state.1 _ c.clear_bit.ensures.bits _ _ refl refl (longer_same _ _ refl refl refl) refl renewed below.0 _ renewed2)
