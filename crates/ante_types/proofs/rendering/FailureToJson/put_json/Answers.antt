use Rattle.json.specs.Print.{escape_byte}
use Rattle.ante_pack.proofs.Pieces.{onto}
use Rattle.ante_types.specs.Traces.{failure_value}
use Rattle.ante_types.proofs.rendering.FailureToJson.put_json.Goals as goal

pub returns : goal.returns
unfolding failure_value escape_byte
returns c =
    let code = rw (c.from.ensures, c.failure_code.ensures) at c.in_ok-put_member.ensures in
    let name = rw c.failure_name.ensures at c.in_ok-put_member-2.ensures in
    onto c.in_ok-begin_object.ensures (onto c.in_ok-put_key.ensures (onto c.in_ok-put_arguments.ensures (onto code (onto name c.in_ok-end_object.ensures))))
