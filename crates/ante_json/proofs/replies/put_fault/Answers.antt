use Rattle.json.specs.Print.{escape_byte}
use Rattle.ante_pack.proofs.Pieces.{onto}
use Rattle.ante_json.specs.Replies.{fault_value}
use Rattle.ante_json.proofs.replies.put_fault.Goals as goal

pub returns : goal.returns
unfolding fault_value escape_byte
returns c =
    let name = rw c.fault_name.ensures at c.in_ok-put_member.ensures in
    onto c.in_ok-begin_object.ensures (onto c.in_ok-put_key.ensures (onto c.in_ok-put_arguments.ensures (onto name c.in_ok-end_object.ensures)))
