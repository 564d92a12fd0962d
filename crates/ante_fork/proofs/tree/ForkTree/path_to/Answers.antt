use Rattle.std.proofs.Common.{ap, ◌∙◌, arith}
use Rattle.ante_types.specs.Ids.{block_num}
use Rattle.ante_fork.specs.Held.{tree_shown}
use Rattle.ante_fork.proofs.Branches.{is_path}
use Rattle.ante_fork.proofs.tree.ForkTree.path_to.Goals as goal

pub overflow_sub-result : goal.overflow_sub-result
overflow_sub-result c =
    let p = is_path (tree_shown c.self.inside) c.args.id.now c.self.invariant.tree (rw (← c.self.view_is) at c.requires) in
    let e = c.block_num-num.ensures ∙ ap block_num (rw c.as_slice.ensures.value at c.meet-fork.ensures) in
    omega (arith, p.num, p.fork, p.within, e, c.block_num.ensures)

pub returns-clause-above : goal.returns-clause-above
returns-clause-above c =
    let p = is_path (tree_shown c.self.inside) c.args.id.now c.self.invariant.tree (rw (← c.self.view_is) at c.requires) in
    let e = c.block_num-num.ensures ∙ ap block_num (rw c.as_slice.ensures.value at c.meet-fork.ensures) in
    rw (← c.self.view_is) (omega (arith, p.num, p.fork, p.within, e, c.block_num.ensures))
