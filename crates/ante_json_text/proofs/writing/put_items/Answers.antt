use Rattle.ante_pack.proofs.Pieces.{onto}
use Rattle.ante_json_text.proofs.Rows.{adds_list}
use Rattle.ante_json_text.proofs.writing.put_items.Goals as goal

pub returns : goal.returns
returns g c =
    adds_list g.T.ToJson.value c.args.first.now c.args.later.now _ _
    (onto c.in_ok-put_text.ensures (onto c.in_ok-put_json.ensures (onto c.in_ok-put_later_items.ensures c.in_ok-put_text-2.ensures)))
