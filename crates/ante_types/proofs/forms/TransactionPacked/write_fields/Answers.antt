use Rattle.ante_pack.proofs.Pieces.{onto}
use Rattle.ante_types.specs.Chain.{transaction}
use Rattle.ante_types.proofs.forms.TransactionPacked.write_fields.Goals as goal

pub returns : goal.returns
unfolding transaction
returns c =
    onto c.in_ok-put_u32.ensures.ok (onto c.in_ok-put_u16.ensures.ok (onto c.in_ok-put_u32-2.ensures.ok (onto c.in_ok-put_varuint.ensures.ok
    (onto c.in_ok-put_u8.ensures.ok (onto c.in_ok-put_varuint-2.ensures.ok (onto c.in_ok-write_seq_fields.ensures (onto c.in_ok-write_seq_fields-2.ensures c.in_ok-write_seq_fields-3.ensures)))))))
