use Rattle.std.proofs.Common.{ap, ◌∙◌}
use Rattle.ante_fork.specs.Finality.{settled}
use Rattle.ante_fork.specs.Tree.{with_block, with_head}
use Rattle.ante_control.proofs.Standing.{entered_off, entered_gone}
use Rattle.ante_control.proofs.make.crown.Goals as goal

pub drop_block-requires : goal.drop_block-requires
drop_block-requires g c =
    entered_off c.args.tree.now c.add.new.self c.args.block c.block_id-id.result c.head-head.ensures.sound c.requires.passes c.requires.small c.block_id-id.ensures c.in-Ok.ensures.ok

pub returns-in-Err-finish-clause-err_tree : goal.returns-in-Err-finish-clause-err_tree
returns-in-Err-finish-clause-err_tree g c =
    entered_gone c.args.tree.now c.add.new.self c.drop_block.new.self c.args.block c.block_id-id.result c.head-head.ensures.sound c.requires.passes c.requires.small c.block_id-id.ensures c.in-Ok.ensures.ok c.drop_block.ensures

pub returns-clause-tree : goal.returns-clause-tree
returns-clause-tree g c =
    c.settle.ensures.tree
    ∙ ap settled (c.set_head.ensures ∙ ap (with_head c.block_id-id.result) c.in-Ok.ensures.ok ∙ ap (λ i. with_head i (with_block c.args.block c.args.tree.now)) c.block_id-id.ensures)
