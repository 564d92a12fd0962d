use Rattle.ante_pack.proofs.Pieces.{onto}
use Rattle.ante_http.proofs.reply.put_reply.Goals as goal

pub returns : goal.returns
returns c =
    onto c.in_ok-put_status_line.ensures (onto c.in_ok-put_line.ensures (onto c.in_ok-put_length_line.ensures (onto c.in_ok-put_close_line.ensures
    (onto c.in_ok-put_line-2.ensures c.in_ok-put_text.ensures))))
