-- Each turn passes one record: the laws of one pass. Assumes nothing.
use mathlib.Core.Path.{refl}
use Prim.Native.Nat.{◌+◌}
use native.Mathlib.Omega.{arith}
use Rattle.phrase_file.proofs.Places.{none_found}
use Rattle.phrase_file.proofs.Scanning.{scan_start, scan_done, scan_skip, scan_mark}
use Rattle.phrase_file.proofs.Walking.{Passed, passed}
use Rattle.phrase_file.proofs.scan.Goals as goal
use Rattle.phrase_file.proofs.scan.Goals.{then-length-eq1, else-length-eq1}

pub loop-place-init : goal.loop-place-init
loop-place-init c = record { same = c.new-records.ensures.file_is; scanning = rw c.new-records.ensures.at_start (scan_start _) }

pub bounds-file-place : goal.bounds-file-place
bounds-file-place c =
    let turn : Passed c.args.file.now c.loop-place.records c.in-Some.place c.next.new.self = passed _ _ _ _ c.loop-place.invariant.same c.in-Some.ensures.steps in
    omega (arith, turn.row)

pub bounds-file-place-then-length-eq1 : goal.bounds-file-place-then-length-eq1
bounds-file-place-then-length-eq1 c =
    let turn : Passed c.args.file.now c.loop-place.records c.in-Some.place c.next.new.self = passed _ _ _ _ c.loop-place.invariant.same c.in-Some.ensures.steps in
    omega (arith, turn.row)

pub loop-place-preserved : goal.loop-place-preserved
loop-place-preserved c =
    let turn : Passed c.args.file.now c.loop-place.records c.in-Some.place c.next.new.self = passed _ _ _ _ c.loop-place.invariant.same c.in-Some.ensures.steps in
    let s = c.loop-place.invariant.scanning in
    elim c.if-length-eq1.branch [
      | then-length-eq1 w ↦ record { same = turn.same; scanning = rw (w.seen-is, turn.on) (scan_mark _ _ _ _ (rw turn.here at s) _ turn.row _ w.if-length-eq1.true refl (omega (arith, c.type_inv.file (c.in-Some.place + 3)))) }
      | else-length-eq1 w ↦ record { same = turn.same; scanning = rw (w.seen-is, turn.on) (scan_skip _ _ _ _ (rw turn.here at s) _ turn.row w.if-length-eq1.false) }
    ]

pub returns : goal.returns
returns c =
    let i = c.loop-place.invariant in
    let w = c.in_default.ensures.steps in
    rw w.kept (scan_done _ _ _ _ i.scanning (none_found _ _ (rw i.same at w.none)))
