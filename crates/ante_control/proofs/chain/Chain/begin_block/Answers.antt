use Rattle.std.proofs.Common.{◌+◌, sym, ap, subst, refl, ◌∙◌}
use Rattle.ante_types.specs.Ids.{block_num}
use Rattle.ante_types.specs.declared.chain.BlockInfo.{BlockInfo}
use Rattle.ante_control.specs.Held.{IsNext}
use Rattle.ante_control.specs.Making.{IsTurn}
use Rattle.ante_control.specs.Shown.{making}
use Rattle.ante_control.proofs.Making.{begun_held, begun_made}
use Rattle.ante_control.proofs.Pushes.{same_standing}
use Rattle.ante_control.proofs.chain.Chain.begin_block.Goals as goal

pub invariant_of-self-2 : goal.invariant_of-self-2
invariant_of-self-2 g c =
    let info : BlockInfo = record { num = c.block_num.result + 1; slot = c.args.slot; producer = c.args.producer; previous = c.head-previous.result } in
    let next : IsNext c.self.inside.tree info = record {
      num = ap (λ n. n + 1) (c.block_num.ensures ∙ ap block_num c.head-previous.ensures.head);
      previous = c.head-previous.ensures.head;
      turn = subst (λ v. IsTurn v.choice.tree c.args.slot c.args.producer) (sym c.self.view_is) c.requires.turn;
    } in (
      same_standing c.self.inside.tree c.self.inside.tree c.self.inside.applied.items c.self.inside.applied.items (g.M.Worlds.chain_id c.self.inside.machine) (g.M.Worlds.chain_id c.begin.new.self)
          (g.M.Worlds.stack c.self.inside.machine) (g.M.Worlds.stack c.begin.new.self) (making c.self.inside.receipts.items (g.M.BlockMachine.pending c.self.inside.machine))
          (making c.clear.new.self.items (g.M.BlockMachine.pending c.begin.new.self)) (g.M.BlockMachine.counted c.self.inside.machine) (g.M.BlockMachine.counted c.begin.new.self) refl c.begin.ensures.stack
          c.self.invariant.0,
      begun_held c.self.inside.tree info (g.M.BlockMachine.steps.begin (g.M.Worlds.chain_id c.self.inside.machine) (g.M.Worlds.stack c.self.inside.machine).top info) c.clear.new.self.items (g.M.BlockMachine.pending c.begin.new.self) c.clear.ensures.items next c.in_ok-begin.ensures.ok,
    )

pub returns-clause-made : goal.returns-clause-made
returns-clause-made g c =
    rw (← c.self.view_is) (λ judge first.
    begun_made g.M.BlockMachine.steps (g.M.Worlds.chain_id c.self.inside.machine) judge (g.M.Worlds.stack c.self.inside.machine) (g.M.Worlds.stack c.begin.new.self) (record { num = c.block_num.result + 1; slot = c.args.slot; producer = c.args.producer; previous = c.head-previous.result }) c.clear.new.self.items
    (g.M.BlockMachine.pending c.begin.new.self) c.clear.ensures.items c.in_ok-begin.ensures.ok c.begin.ensures.stack)
