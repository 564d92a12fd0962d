use Rattle.std.proofs.Common.{◌+◌, ◌<◌, sym, ◌∙◌, subst}
use Rattle.ante_types.specs.Ids.{block_num}
use Rattle.ante_fork.proofs.Low.{front_length}
use Rattle.ante_fork.proofs.Best.{better_start, better_past}
use Rattle.ante_fork.proofs.walks.best_in.Goals as goal

pub loop-node-init : goal.loop-node-init
loop-node-init c = better_start c.args.genesis.now c.args.head.now c.args.nodes.now c.requires.named c.requires.placed

pub returns-then-is_past : goal.returns-then-is_past
returns-then-is_past c =
    c.above.ensures
    ∙ sym (better_past c.args.genesis.now c.args.head.now c.args.nodes.now c.loop-node.rest.now c.loop-node.best c.requires.first c.loop-node.invariant
    (subst (λ n. n + 1 < block_num c.loop-node.best) (sym (front_length c.loop-node.rest.now)) (c.is_past.ensures c.if-is_past.true)))
