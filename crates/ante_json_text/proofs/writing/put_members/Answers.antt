use Rattle.ante_pack.proofs.Pieces.{onto}
use Rattle.ante_json_text.specs.Values.{pair_of}
use Rattle.ante_json_text.proofs.Rows.{adds_object}
use Rattle.ante_json_text.proofs.writing.put_members.Goals as goal

pub returns : goal.returns
returns c =
    adds_object pair_of c.args.first.now c.args.later.now _ _
    (onto c.in_ok-put_text.ensures (onto c.in_ok-put_member.ensures (onto c.in_ok-put_later_members.ensures c.in_ok-put_text-2.ensures)))
