-- `byte_pair_encoding::is_valid_token_pair` meets its contract, by the cases of `PairAnswers`. Assumes nothing.
use native.Mathlib.Omega.{arith}
use Rattle.std.proofs.lemmas.Result.{err_from_is_err_and}
use Rattle.tables.proofs.Forming.{formed_ok, formed_err}
use Rattle.tables.proofs.Readiness.{ready}
use Rattle.byte_pair_encoding.proofs.PairAnswers.{pair_out, pair-first, pair-second, pair-ready, pair_made}
use Rattle.byte_pair_encoding.proofs.pairs.is_valid_token_pair.Goals as goal

pub returns-in_err-tables : goal.returns-in_err-tables
returns-in_err-tables c =
    let p = err_from_is_err_and c.from_residual.result c.from_residual.ensures.1 in
    let f = formed_err _ _ _ c.in_form.ensures c.in_err-tables.ensures.value in
    rw (p.1, p.2, f.0) (pair_out _ _ _ f.1)

pub returns-then-n-token1 : goal.returns-then-n-token1
returns-then-n-token1 c =
    pair-first _ _ _ _ (formed_ok _ _ _ c.in_form.ensures c.in_ok-tables.ensures.value) c.if-n-token1.true

pub returns-then-n-token2 : goal.returns-then-n-token2
returns-then-n-token2 c =
    pair-second _ _ _ _ (formed_ok _ _ _ c.in_form.ensures c.in_ok-tables.ensures.value) c.if-n-token1.false c.if-n-token2.true

pub overflow_cast-n : goal.overflow_cast-n
overflow_cast-n c =
    let f = (ready _ _ (formed_ok _ _ _ c.in_form.ensures c.in_ok-tables.ensures.value).formed).places_ready.placed.few in
    omega arith

pub is_valid_pair_by_parts-requires : goal.is_valid_pair_by_parts-requires
is_valid_pair_by_parts-requires c =
    pair-ready _ _ _ _ (formed_ok _ _ _ c.in_form.ensures c.in_ok-tables.ensures.value) c.if-n-token1.false c.if-n-token2.false

pub returns : goal.returns
returns c =
    pair_made _ _ _ _ (formed_ok _ _ _ c.in_form.ensures c.in_ok-tables.ensures.value) _ c.if-n-token1.false
    c.if-n-token2.false c.is_valid_pair_by_parts.ensures
