use Rattle.std.proofs.Common.{◌+◌, drop, get_or, sym, ap, ◌∙◌}
use Rattle.std.proofs.lemmas.List.{drop_more}
use Rattle.ante_wdecode.specs.Modules.{code}
use Rattle.ante_wdecode.proofs.Bodies.{body_read}
use Rattle.ante_wdecode.proofs.code.read_codes.Goals as goal

pub loop-n-preserved : goal.loop-n-preserved
loop-n-preserved c =
    let i = c.loop-n.n-index in
    let ns = c.args.functions.now in
    rw c.in_ok-push.ensures.ok (body_read c.args.types.now c.loop-n.codes (drop i ns) (drop (i + 1) ns) (get_or ns i 0) c.loop-n.rest.now c.in_ok-code.code c.in_ok-code.after.now _
    (drop_more ns i 0 c.loop-n-test.true)
    (ap (λ m. (code m).read c.loop-n.rest.now) (sym c.locals_of_type-most.ensures) ∙ c.in_ok-code.ensures)
    c.loop-n.invariant)
