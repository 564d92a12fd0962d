use Rattle.std.proofs.Common.{sym, ap, ◌∙◌, ◌==◌, Some}
use Rattle.ante_calls.specs.Calls as calls
use Rattle.ante_sysapi.proofs.FirstByte.{first_is_position}
use Rattle.ante_sysapi.proofs.text.before_zero.Goals as goal

pub returns-in-Some : goal.returns-in-Some
returns-in-Some c =
    let bytes = c.args.bytes.now in
    ap Some c.split_at.ensures.front ∙ ap (calls.up_to_zero bytes) (sym c.in-Some.is ∙ first_is_position (λ b. b == 0) bytes c.memchr.result c.memchr.ensures)

pub returns-in-None : goal.returns-in-None
returns-in-None c =
    let bytes = c.args.bytes.now in
    ap (calls.up_to_zero bytes) (sym c.in-None.is ∙ first_is_position (λ b. b == 0) bytes c.memchr.result c.memchr.ensures)
