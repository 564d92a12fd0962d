use Rattle.std.proofs.Common.{◌%◌, ap, sym, arith, Ok}
use Rattle.ante_wnum.proofs.Operations.{iand-is, ior-is, ixor-is}
use Rattle.ante_wnum.proofs.Shifts.{shl-is, shr-is}
use Rattle.ante_wnum.proofs.word64.i64_binary.Goals as goal

pub returns-in-And-clause-value : goal.returns-in-And-clause-value
returns-in-And-clause-value c = rw c.in-And.is (ap Ok (sym (iand-is 64 c.args.a c.args.b c.ranges.a.fits)))

pub returns-in-Or-clause-value : goal.returns-in-Or-clause-value
returns-in-Or-clause-value c = rw c.in-Or.is (ap Ok (sym (ior-is 64 c.args.a c.args.b c.ranges.a.fits c.ranges.b.fits)))

pub returns-in-Xor-clause-value : goal.returns-in-Xor-clause-value
returns-in-Xor-clause-value c = rw c.in-Xor.is (ap Ok (sym (ixor-is 64 c.args.a c.args.b c.ranges.a.fits c.ranges.b.fits)))

pub returns-in-Shl-clause-value : goal.returns-in-Shl-clause-value
returns-in-Shl-clause-value c = rw c.in-Shl.is (ap Ok (sym (shl-is 64 (c.args.b % 64) c.args.a (omega arith))))

pub returns-in-ShrU-clause-value : goal.returns-in-ShrU-clause-value
returns-in-ShrU-clause-value c = rw c.in-ShrU.is (ap Ok (sym (shr-is 64 (c.args.b % 64) c.args.a (omega arith) c.ranges.a.fits)))
