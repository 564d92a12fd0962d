use Rattle.std.proofs.Common.{sym, ◌∙◌}
use Rattle.ante_control.proofs.Lengths.{room_more}
use Rattle.ante_control.proofs.sizes.has_room.Goals as goal

pub returns : goal.returns
returns c =
    room_more c.args.receipts.now c.args.packed.now c.args.signatures.now c.args.size c.count_size-count.result c.receipt_size.result (sym c.is_empty.ensures ∙ c.if-is_empty.false) c.requires.bytes
    c.count_size-count.ensures.size (c.receipt_size.ensures.size 0)
