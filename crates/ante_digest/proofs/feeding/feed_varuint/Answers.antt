use Rattle.ante_digest.proofs.Spelling.{starts, goes_on, ends}
use Rattle.ante_digest.proofs.feeding.feed_varuint.Goals as goal

pub loop-left-init : goal.loop-left-init
loop-left-init c = starts c.args.hasher.now c.args.value c.ranges.value.fits

pub loop-left-preserved : goal.loop-left-preserved
loop-left-preserved c = goes_on c.args.hasher.now c.loop-left.hasher c.feed_raw.new.hasher c.loop-left.left c.args.value c.loop-left-test.true c.loop-left.invariant c.feed_raw.ensures

pub returns : goal.returns
returns c = ends c.args.hasher.now c.loop-left.hasher c.feed_raw-2.new.hasher c.loop-left.left c.args.value c.loop-left-test.false c.loop-left.invariant c.feed_raw-2.ensures
