use Rattle.ante_pack.proofs.Pieces.{onto}
use Rattle.ante_json_text.specs.Values.{hex_value}
use Rattle.ante_json_text.proofs.Rows.{adds_list}
use Rattle.ante_json.proofs.replies.put_hex_items.Goals as goal

pub returns : goal.returns
returns c =
    adds_list hex_value c.args.first.now c.args.later.now _ _
    (onto c.in_ok-put_raw.ensures (onto c.in_ok-put_hex.ensures (onto c.in_ok-put_later_hex.ensures c.in_ok-put_raw-2.ensures)))
