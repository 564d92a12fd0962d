use Rattle.std.proofs.Common.{sym}
use Rattle.ante_control.proofs.Lengths.{one_byte, two_bytes, three_bytes, four_bytes, five_bytes}
use Rattle.ante_control.proofs.sizes.count_size.Goals as goal

pub returns-then-count-lt128-clause-size : goal.returns-then-count-lt128-clause-size
returns-then-count-lt128-clause-size c = sym (one_byte c.args.count c.if-count-lt128.true)

pub returns-then-count-lt16384-clause-size : goal.returns-then-count-lt16384-clause-size
returns-then-count-lt16384-clause-size c = sym (two_bytes c.args.count c.if-count-lt128.false c.if-count-lt16384.true)

pub returns-then-count-lt2097152-clause-size : goal.returns-then-count-lt2097152-clause-size
returns-then-count-lt2097152-clause-size c = sym (three_bytes c.args.count c.if-count-lt16384.false c.if-count-lt2097152.true)

pub returns-then-count-lt268435456-clause-size : goal.returns-then-count-lt268435456-clause-size
returns-then-count-lt268435456-clause-size c = sym (four_bytes c.args.count c.if-count-lt2097152.false c.if-count-lt268435456.true)

pub returns-else-count-lt268435456-clause-size : goal.returns-else-count-lt268435456-clause-size
returns-else-count-lt268435456-clause-size c = sym (five_bytes c.args.count c.if-count-lt268435456.false)
