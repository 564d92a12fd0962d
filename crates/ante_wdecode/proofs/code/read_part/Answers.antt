use Rattle.std.proofs.Common.{arith}
use Rattle.ante_wdecode.specs.Modules.{func}
use Rattle.ante_wdecode.proofs.Laws.{whole}
use Rattle.ante_wdecode.proofs.Modules.{exact_func}
use Rattle.ante_wdecode.proofs.Values.{left_small}
use Rattle.ante_wdecode.proofs.code.read_part.Goals as goal

pub moved-requires : goal.moved-requires
moved-requires c =
    let p = left_small (func c.args.most) (whole (func c.args.most) (exact_func c.args.most)) c.in-Err.why c.split_at.result.0.now c.in-Err.ensures in
    omega (arith, p, c.split_at.ensures.front_len, c.split_at.ensures.back_len)
