use Rattle.json.specs.Print.{escape_byte}
use Rattle.ante_pack.proofs.Pieces.{onto}
use Rattle.ante_types.specs.Traces.{trace_value}
use Rattle.ante_types.proofs.rendering.TraceToJson.put_json.Goals as goal

pub returns : goal.returns
unfolding trace_value escape_byte
returns c =
    let actions = rw c.as_slice.ensures at c.in_ok-put_array.ensures in
    let num = rw c.from.ensures at c.in_ok-put_member-2.ensures in
    onto c.in_ok-begin_object.ensures (onto c.in_ok-put_key.ensures (onto actions (onto c.in_ok-put_member.ensures (onto num
    (onto c.in_ok-put_key-2.ensures (onto c.in_ok-put_outcome.ensures (onto c.in_ok-put_member-3.ensures (onto c.in_ok-put_member-4.ensures
    (onto c.in_ok-put_member-5.ensures c.in_ok-end_object.ensures)))))))))
