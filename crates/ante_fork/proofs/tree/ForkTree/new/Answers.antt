use Rattle.std.proofs.Common.{ap, ◌∙◌, sym, subst}
use Rattle.ante_fork.specs.Tree.{IsTree, id_of, genesis_block}
use Rattle.ante_fork.specs.Shown.{newest}
use Rattle.ante_fork.proofs.Added.{rooted, head_id, genesis_tree}
use Rattle.ante_fork.proofs.tree.ForkTree.new.Goals as goal

pub invariant_of-result : goal.invariant_of-result
invariant_of-result c =
    let g = c.args.genesis.now in
    let head = head_id g c.args.head c.requires.head in
    let block = c.in_ok-block-2.ensures.ok ∙ c.in_ok-block.ensures in
    record {
      genesis = head ∙ ap id_of (sym block);
      tree =
          subst IsTree (sym (rooted c.in_ok-producers.producers g.producers c.in_ok-block-2.block.value (genesis_block g) (newest c.new-2.result) c.args.head.id c.in_ok-producers.ensures block (ap newest c.new-2.ensures) head))
          (genesis_tree g c.requires.some c.requires.few);
    }

pub returns : goal.returns
returns c =
    let g = c.args.genesis.now in
    rooted c.in_ok-producers.producers g.producers c.in_ok-block-2.block.value (genesis_block g) (newest c.new-2.result) c.args.head.id c.in_ok-producers.ensures (c.in_ok-block-2.ensures.ok ∙ c.in_ok-block.ensures) (ap newest c.new-2.ensures)
    (head_id g c.args.head c.requires.head)
