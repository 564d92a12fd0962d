use Rattle.std.proofs.Common.{false, sym, arith}
use Rattle.ante_wdecode.proofs.Lebs.{leb_found, unsigned_below}
use Rattle.ante_wdecode.proofs.integers.read_u32.Goals as goal

pub overflow_cast-result : goal.overflow_cast-result
overflow_cast-result c = let f = leb_found false 32 c.args.bytes.now (c.in-Ok.value, c.in-Ok.rest.now) (sym c.in-Ok.ensures) in omega (arith, unsigned_below 32 c.in-Ok.value f.0 f.1)
