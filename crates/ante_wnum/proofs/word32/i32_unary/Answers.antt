use Rattle.std.proofs.Common.{sym}
use Rattle.ante_wnum.proofs.Operations.{iclz-is, ictz-is, ipopcnt-is}
use Rattle.ante_wnum.proofs.word32.i32_unary.Goals as goal

pub returns-in-Clz : goal.returns-in-Clz
returns-in-Clz c = rw c.in-Clz.is (sym (iclz-is 32 c.args.a c.ranges.a.fits))

pub returns-in-Ctz : goal.returns-in-Ctz
returns-in-Ctz c = rw c.in-Ctz.is (sym (ictz-is 32 c.args.a))

pub returns-in-Popcnt : goal.returns-in-Popcnt
returns-in-Popcnt c = rw c.in-Popcnt.is (sym (ipopcnt-is 32 c.args.a c.ranges.a.fits))
