use Rattle.std.proofs.Common.{◌+◌, sym, ap, ◌∙◌}
use Rattle.ante_fork.proofs.Low.{front_length}
use Rattle.ante_fork.proofs.Numbered.{sought_from}
use Rattle.ante_fork.proofs.walks.num_down.Goals as goal

pub numbered-requires-clause-all : goal.numbered-requires-clause-all
numbered-requires-clause-all c =
    let s = sought_from c.args.num c.args.genesis.now.block.value c.args.id.now c.loop-node.next c.args.nodes.now c.loop-node.rest.now c.in-Some.node.now c.in-Some.older.now c.requires.first c.loop-node.invariant.0
    c.in-Some.ensures.newest (c.has_all_below.ensures.id c.if-has_all_below.true)
    (c.has_all_below.ensures.num c.if-has_all_below.true ∙ ap (λ n. n + 2) (sym (front_length c.in-Some.older.now))) in
    s.0

pub returns-then-has_all_below : goal.returns-then-has_all_below
returns-then-has_all_below c =
    let s = sought_from c.args.num c.args.genesis.now.block.value c.args.id.now c.loop-node.next c.args.nodes.now c.loop-node.rest.now c.in-Some.node.now c.in-Some.older.now c.requires.first c.loop-node.invariant.0
    c.in-Some.ensures.newest (c.has_all_below.ensures.id c.if-has_all_below.true)
    (c.has_all_below.ensures.num c.if-has_all_below.true ∙ ap (λ n. n + 2) (sym (front_length c.in-Some.older.now))) in
    c.numbered.ensures ∙ sym s.1
