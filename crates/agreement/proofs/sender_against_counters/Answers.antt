-- `agreement::sender_against_counters` meets its contract, by the cases of `Agreeing`. Assumes nothing.
use Rattle.agreement.proofs.Agreeing.{send_refused, count-refused, count_differs, typing_differs, all_agree}
use Rattle.agreement.proofs.sender_against_counters.Goals as goal

pub returns-in_err-sent : goal.returns-in_err-sent
returns-in_err-sent c = send_refused _ _ _ _ _ _ _ _ c.encode_via_backtracking.ensures _ c.in_err-sent.was _ c.from_residual.ensures.1

pub returns-in_err-counted : goal.returns-in_err-counted
returns-in_err-counted c = count-refused _ _ _ _ _ _ _ _ c.encode_via_backtracking.ensures _ c.in_ok-sent.was _ _ c.count.ensures _ c.in_err-counted.was _

pub returns-then-sent-counted : goal.returns-then-sent-counted
returns-then-sent-counted c = count_differs _ _ _ _ _ _ _ _ c.encode_via_backtracking.ensures _ c.in_ok-sent.was _ _ c.count.ensures _ c.in_ok-counted.was c.if-sent-counted.true

pub returns-then-sent-typed_count : goal.returns-then-sent-typed_count
returns-then-sent-typed_count c = typing_differs _ _ _ _ _ _ _ _ c.encode_via_backtracking.ensures _ c.in_ok-sent.was _ _ c.count.ensures _ c.in_ok-counted.was c.if-sent-counted.false _ _ c.typed_count.ensures c.if-sent-typed_count.true

pub returns : goal.returns
returns c = all_agree _ _ _ _ _ _ _ _ c.encode_via_backtracking.ensures _ c.in_ok-sent.was _ _ c.count.ensures _ c.in_ok-counted.was c.if-sent-counted.false _ _ c.typed_count.ensures c.if-sent-typed_count.false
