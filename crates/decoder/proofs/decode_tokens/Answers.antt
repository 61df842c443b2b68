-- `decoder::decode_tokens` meets its contract, by the cases of `Decoding`. Assumes nothing.
use mathlib.Core.Path.{◌∙◌}
use lib.Seq.{length-take-le}
use Rattle.std.proofs.lemmas.Result.{err_from_is_err_and}
use Rattle.tables.proofs.Forming.{formed_ok, formed_err}
use Rattle.decoder.proofs.Decoding.{too_many, out_of_form, decodes_refused, decodes-unknown, codes_ready, decodes-short, decodes-given}
use Rattle.decoder.proofs.decode_tokens.Goals as goal

pub returns-then-tokens-gt4096 : goal.returns-then-tokens-gt4096
returns-then-tokens-gt4096 c = decodes_refused _ _ _ _ (too_many _ _ _ c.if-tokens-gt4096.true)

pub returns-in_err-rows : goal.returns-in_err-rows
returns-in_err-rows c =
    let p = err_from_is_err_and c.from_residual.result c.from_residual.ensures.1 in
    let f = formed_err _ _ _ c.in_form.ensures c.in_err-rows.ensures.value in
    rw (p.1, p.2, f.0) (decodes_refused _ _ _ _ (out_of_form _ _ _ c.if-tokens-gt4096.false f.1))

pub returns-in-Some : goal.returns-in-Some
returns-in-Some c =
    let f = formed_ok _ _ _ c.in_form.ensures c.in_ok-rows.ensures.value in
    decodes-unknown _ _ _ c.if-tokens-gt4096.false _ f _ c.in-Some.ensures

pub spelled_length-size-requires : goal.spelled_length-size-requires
spelled_length-size-requires c =
    let f = formed_ok _ _ _ c.in_form.ensures c.in_ok-rows.ensures.value in
    codes_ready _ _ c.args.out.now c.if-tokens-gt4096.false _ f c.in_default.ensures

pub returns-then-out-size : goal.returns-then-out-size
returns-then-out-size c =
    let f = formed_ok _ _ _ c.in_form.ensures c.in_ok-rows.ensures.value in
    decodes-short _ _ _ c.if-tokens-gt4096.false _ f c.in_default.ensures _ c.spelled_length-size.ensures c.if-out-size.true

pub write_spelled-requires : goal.write_spelled-requires
write_spelled-requires c =
    let f = formed_ok _ _ _ c.in_form.ensures c.in_ok-rows.ensures.value in
    record {
      codes_ready = codes_ready _ _ c.args.out.now c.if-tokens-gt4096.false _ f c.in_default.ensures;
      exact = length-take-le _ _ c.if-out-size.false ∙ c.spelled_length-size.ensures;
    }

pub returns : goal.returns
returns c =
    let f = formed_ok _ _ _ c.in_form.ensures c.in_ok-rows.ensures.value in
    decodes-given _ _ _ c.if-tokens-gt4096.false _ f c.in_default.ensures _ c.spelled_length-size.ensures c.if-out-size.false _ c.write_spelled.ensures
