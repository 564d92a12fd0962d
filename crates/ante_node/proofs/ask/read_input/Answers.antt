use Rattle.std.proofs.Common.{ap, Err}
use Rattle.std.proofs.lemmas.Result.{err_from_is_err_and}
use Rattle.ante_base.specs.declared.failure.ReadFailure.{ReadFailure}
use Rattle.ante_node.proofs.FirstLine.{answers_so, ended_so, failed_answers, some_input, whole_asks}
use Rattle.ante_node.proofs.ask.read_input.Goals as goal

pub returns-in_err-front-clause-asked : goal.returns-in_err-front-clause-asked
returns-in_err-front-clause-asked g c =
    let p = err_from_is_err_and c.from_residual.result c.from_residual.ensures.1 in
    let input = some_input (g.R.Source.left c.args.files.now) in
    (input.0, input.1, rw (p.1, p.2) (failed_answers c.in_err-front.field-0.0 _ _ (λ e. c.in_err-front.ensures.failed (ap (λ (f : ReadFailure). Err f) e))))

pub returns-clause-asked : goal.returns-clause-asked
returns-clause-asked g c =
    let whole = whole_asks _ _ c.in_ok-front.front.bytes.items c.in_ok-front.front.ended c.in_ok-front.ensures.taken c.in_ok-front.ensures.ended c.in_ok-front.ensures.cut in
    (whole.0, whole.1, answers_so c.read_asked.result _ _ _ whole.2 (rw c.as_slice.ensures.value at c.read_asked.ensures))

pub returns-clause-ended : goal.returns-clause-ended
returns-clause-ended g c =
    ended_so c.read_asked.result _ c.in_ok-front.front.bytes.items c.in_ok-front.front.ended c.in_ok-front.ensures.ended c.in_ok-front.ensures.cut
    (rw c.as_slice.ensures.value at c.read_asked.ensures)
