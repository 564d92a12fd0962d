use Rattle.std.proofs.Common.{sym, arith}
use Rattle.std.proofs.lemmas.List.{take_all}
use Rattle.ante_http.proofs.cutting.head_room.Goals as goal

pub returns-then-bytes-lt-MOST_HEAD_BYTES : goal.returns-then-bytes-lt-MOST_HEAD_BYTES
returns-then-bytes-lt-MOST_HEAD_BYTES c = sym (take_all 8192 c.args.bytes.now (omega arith))
