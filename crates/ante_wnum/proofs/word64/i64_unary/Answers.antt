use Rattle.std.proofs.Common.{sym, ◌∙◌}
use Rattle.ante_wnum.proofs.Operations.{iclz-is, ictz-is, ipopcnt-is}
use Rattle.ante_wnum.proofs.word64.i64_unary.Goals as goal

pub returns-in-Clz : goal.returns-in-Clz
returns-in-Clz c = rw c.in-Clz.is (c.from.ensures ∙ sym (iclz-is 64 c.args.a c.ranges.a.fits))

pub returns-in-Ctz : goal.returns-in-Ctz
returns-in-Ctz c = rw c.in-Ctz.is (c.from-in-Ctz.ensures ∙ sym (ictz-is 64 c.args.a))

pub returns-in-Popcnt : goal.returns-in-Popcnt
returns-in-Popcnt c = rw c.in-Popcnt.is (c.from-in-Popcnt.ensures ∙ sym (ipopcnt-is 64 c.args.a c.ranges.a.fits))
