use Rattle.std.proofs.Common.{Some, ap, sym, ◌∙◌, arith}
use Rattle.ante_fork.proofs.Numbered.{num_place, num_first, num_none}
use Rattle.ante_fork.proofs.walks.numbered.Goals as goal

pub returns-then-num-eq0 : goal.returns-then-num-eq0
returns-then-num-eq0 c = sym (num_none c.args.num c.args.genesis.now.block.value c.args.nodes.now c.requires.first c.requires.all (omega arith))

pub returns-then-num-eq1 : goal.returns-then-num-eq1
returns-then-num-eq1 c = ap Some c.deref.ensures ∙ sym (num_first c.args.num c.args.genesis.now.block.value c.args.nodes.now c.requires.first c.requires.all (omega arith))

pub returns : goal.returns
returns c = c.block_at.ensures ∙ sym (num_place c.args.num c.args.genesis.now.block.value c.args.nodes.now c.requires.first c.requires.all (omega arith))
