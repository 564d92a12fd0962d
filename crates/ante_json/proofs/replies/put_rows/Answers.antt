use Rattle.json.specs.Print.{escape_byte}
use Rattle.ante_pack.proofs.Pieces.{onto}
use Rattle.ante_json.specs.Replies.{view_value}
use Rattle.ante_json.proofs.replies.put_rows.Goals as goal

pub returns : goal.returns
unfolding view_value escape_byte
returns c =
    let rows = rw c.as_slice.ensures at c.in_ok-put_hex_list.ensures in
    onto c.in_ok-begin_object.ensures (onto c.in_ok-put_member.ensures (onto c.in_ok-put_key.ensures (onto c.in_ok-put_next_key.ensures
    (onto c.in_ok-put_key-2.ensures (onto rows c.in_ok-end_object.ensures)))))
