use Rattle.std.proofs.Common.{arith}
use Rattle.std.proofs.Math.Seq.{take-add}
use Rattle.ante_base.proofs.Known.{Appends-then}
use Rattle.ante_base.proofs.transfer.write_all.Goals as goal

pub loop-at-preserved : goal.loop-at-preserved
loop-at-preserved g c = record {
  within = omega (arith, c.in-Wrote.ensures.bytes.1, c.split_at.ensures.back_len);
  front =
      let e = take-add c.loop-at.at c.in-Wrote.count c.args.bytes.now in
      rw e (Appends-then _ _ _ _ _ c.loop-at.invariant.front (rw c.split_at.ensures.back at c.in-Wrote.ensures.bytes.2));
  later = omega (arith, c.loop-at.invariant.later, c.in-Wrote.ensures.cause.later);
}
