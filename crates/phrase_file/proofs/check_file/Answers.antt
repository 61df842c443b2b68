-- Each answer is a case of the checks, by what the pass over the file found. Assumes nothing.
use mathlib.Core.Path.{◌≡◌, ◌∙◌}
use borrow.Author.Rules.{rules}
use lib.ListN.{length}
use Rattle.phrase_file.proofs.Checks.{counted, check-long, check_bad, check-few, check-many, check_missing, check-rows}
use Rattle.phrase_file.proofs.Scanning.{missing_is}
use Rattle.phrase_file.proofs.Bytes.{missing_some, missing_none}
use Rattle.phrase_file.proofs.check_file.Goals as goal

pub returns-then-file-gt65536 : goal.returns-then-file-gt65536
returns-then-file-gt65536 c = check-long _ c.if-file-gt65536.true

pub returns-then-end-file : goal.returns-then-end-file
returns-then-end-file c =
    let s = c.scan-found.ensures in
    check_bad _ _ _ c.if-file-gt65536.false s.ends s.count c.if-end-file.true

pub returns-then-n-lt256 : goal.returns-then-n-lt256
returns-then-n-lt256 c =
    let s = c.scan-found.ensures in
    check-few _ _ _ c.if-file-gt65536.false s.ends s.count c.if-end-file.false c.if-n-lt256.true

pub returns-then-n-gt4096 : goal.returns-then-n-gt4096
returns-then-n-gt4096 c =
    let s = c.scan-found.ensures in
    check-many _ _ _ c.if-file-gt65536.false s.ends s.count c.if-end-file.false c.if-n-gt4096.true

pub returns-in-Some : goal.returns-in-Some
returns-in-Some c =
    let s = c.scan-found.ensures in
    let l : length c.scan-found.result.seen ≡ 256 = search rules in
    let h = missing_some _ l _ c.in-Some.ensures in
    let k = counted _ _ _ _ c.if-file-gt65536.false s c.if-end-file.false c.if-n-lt256.false c.if-n-gt4096.false in
    check_missing _ _ k _ (h.0 ∙ missing_is _ _ _ _ s) h.1

pub returns-in-None : goal.returns-in-None
returns-in-None c =
    let s = c.scan-found.ensures in
    let l : length c.scan-found.result.seen ≡ 256 = search rules in
    let k = counted _ _ _ _ c.if-file-gt65536.false s c.if-end-file.false c.if-n-lt256.false c.if-n-gt4096.false in
    check-rows _ _ k _ (missing_is _ _ _ _ s) (missing_none _ l c.in-None.ensures)
