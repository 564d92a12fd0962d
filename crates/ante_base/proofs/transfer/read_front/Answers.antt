use Rattle.std.proofs.Common.{◌++◌, take, arith, length-append, length-take}
use Rattle.ante_base.proofs.Known.{Consumes-then}
use Rattle.ante_base.proofs.transfer.read_front.Goals as goal

pub returns-in_err-extend_from_slice-in-Bytes-clause-bounded : goal.returns-in_err-extend_from_slice-in-Bytes-clause-bounded
returns-in_err-extend_from_slice-in-Bytes-clause-bounded g c =
    let piece = take c.in-Bytes.count c.read.new.into in
    let room = c.piece_len-room.ensures in
    let k = c.in-Bytes.ensures.count in (
      c.loop-piece.bytes.items ++ piece,
      simp (length-append, length-take) (omega (arith, room, simp length-take at k.1)),
      Consumes-then _ _ _ _ _ c.loop-piece.invariant.front c.in-Bytes.ensures.bytes,
    )
