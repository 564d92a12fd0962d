use Rattle.std.proofs.Common.{ap, ◌∙◌}
use Rattle.ante_types.specs.World.{World}
use Rattle.ante_undo.specs.Stack.{Stack, with_top}
use Rattle.ante_execution.specs.Blocks.{most_forgotten}
use Rattle.ante_transactions.proofs.Recents.{one_forgotten}
use Rattle.ante_transactions.proofs.acts.begin_block.Goals as goal

pub each-preserved : goal.each-preserved
each-preserved c = (
  one_forgotten c.args.info.slot most_forgotten c.each.more c.args.store.now.top.recent c.each.store.top.recent c.forget_first.new.store.top.recent
      c.in_ok-forget_first.field-0 c.each-test.true c.each.invariant.0 c.in_ok-forget_first.ensures.recent c.if-not-branch.false,
  c.in_ok-forget_first.ensures.world ∙ ap (λ (s : Stack World). with_top (record s.top { recent = c.forget_first.new.store.top.recent }) s) c.each.invariant.1,
)
