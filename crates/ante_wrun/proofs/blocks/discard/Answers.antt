use Rattle.std.proofs.Common.{drop, ap, ◌∙◌}
use Rattle.std.proofs.lemmas.List.{drop-drop}
use Rattle.ante_wrun.proofs.blocks.discard.Goals as goal

pub loop-preserved : goal.loop-preserved
loop-preserved c = c.discard.ensures ∙ ap (drop 1) c.loop.invariant ∙ drop-drop 1 c.loop.counter c.args.frames.now
