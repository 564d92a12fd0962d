use Rattle.std.proofs.Common.{ℕ, ◌++◌, ◌∷◌, [], length, ap, sym, subst, ◌∙◌}
use Rattle.ante_types.specs.declared.chain.Head.{Head}
use Rattle.ante_verdicts.specs.Judge.{Judge}
use Rattle.ante_fork.specs.Finality.{settled}
use Rattle.ante_fork.specs.Tree.{branch}
use Rattle.ante_control.specs.Chosen.{play_of}
use Rattle.ante_control.specs.Tabled.{Holds, worlds}
use Rattle.ante_control.proofs.Open.{committed_holds}
use Rattle.ante_control.proofs.take.take_head.Goals as goal

pub returns-in-Ok-switch_to-clause-takes : goal.returns-in-Ok-switch_to-clause-takes
returns-in-Ok-switch_to-clause-takes g c =
    let head : ℕ → Head = λ k. record { num = k; id = c.args.id.now } in
    record {
      tree = c.settle.ensures.tree ∙ ap settled c.set_head.ensures;
      applied = c.in-Ok.ensures.ok ∙ ap (λ k. c.args.applied.now.items ++ head k ∷ []) c.block_num-num.ensures;
      place = ap length c.as_slice.ensures.value;
      mid = g.M.Worlds.stack c.switch_to.new.machine;
      replaced = c.in-Ok-switch_to.ensures.ok;
      stack = c.settle.ensures.stack;
    }

pub returns-in-Ok-switch_to-clause-tables : goal.returns-in-Ok-switch_to-clause-tables
returns-in-Ok-switch_to-clause-tables g c = λ first h.
    let judge : Judge = g.V.Verdicts.judge c.args.verdicts.now in
    let play = play_of g.M.BlockMachine.steps judge (g.M.Worlds.chain_id c.args.machine.now) first in
    subst (λ z. Holds play (branch c.args.id.now c.args.tree.now.kept) (worlds z)) (sym c.settle.ensures.stack)
    (committed_holds play (branch c.args.id.now c.args.tree.now.kept) c.settle.new.tree.irreversible (g.M.Worlds.stack c.switch_to.new.machine) (c.in-Ok-switch_to.ensures.tables first h))
