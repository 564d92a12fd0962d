use Rattle.std.proofs.Common.{◌≡◌, true, IsSome, IfSome, sym, subst, refl}
use Rattle.ante_control.specs.Making.{has_room}
use Rattle.ante_control.specs.Shown.{making}
use Rattle.ante_control.proofs.Making.{held_small, ran_held, ran_made}
use Rattle.ante_control.proofs.Pushes.{same_standing}
use Rattle.ante_control.proofs.chain.Chain.push_trx.Goals as goal

pub run_made-requires-clause-small : goal.run_made-requires-clause-small
run_made-requires-clause-small g c = held_small _ _ _ _ _ c.self.invariant.1

pub invariant_of-self-2 : goal.invariant_of-self-2
invariant_of-self-2 g c = (
  same_standing c.self.inside.tree c.self.inside.tree c.self.inside.applied.items c.self.inside.applied.items (g.M.Worlds.chain_id c.self.inside.machine) (g.M.Worlds.chain_id c.run_made.new.machine)
      (g.M.Worlds.stack c.self.inside.machine) (g.M.Worlds.stack c.run_made.new.machine) (making c.self.inside.receipts.items (g.M.BlockMachine.pending c.self.inside.machine))
      (making c.run_made.new.receipts.items (g.M.BlockMachine.pending c.run_made.new.machine)) (g.M.BlockMachine.counted c.self.inside.machine) (g.M.BlockMachine.counted c.run_made.new.machine) refl
      c.run_made.ensures.stack c.self.invariant.0,
  ran_held c.self.inside.tree c.self.inside.pending c.self.inside.receipts.items c.run_made.new.receipts.items c.self.inside.size c.run_made.new.size (g.M.BlockMachine.pending c.self.inside.machine)
      (g.M.BlockMachine.pending c.run_made.new.machine) c.args.packed.now c.args.signatures.now
      (λ w i. g.M.BlockMachine.steps.trx (g.M.Worlds.chain_id c.self.inside.machine) (g.V.Verdicts.judge c.args.verdicts.now) w i c.args.packed.now c.args.signatures.now) c.in_ok-trace.trace
      (λ w i. g.met.M.BlockMachine.sound (g.M.Worlds.chain_id c.self.inside.machine) (g.V.Verdicts.judge c.args.verdicts.now) w i c.args.packed.now c.args.signatures.now)
      (subst (λ v. IsSome v.pending) (sym c.self.view_is) c.requires.pending)
      (subst (λ v. IfSome v.pending (λ m. has_room m.receipts c.args.packed.now c.args.signatures.now ≡ true)) (sym c.self.view_is) c.requires.room) c.in_ok-trace.ensures.ok c.run_made.ensures.bytes
      c.self.invariant.1,
)

pub returns-clause-made : goal.returns-clause-made
returns-clause-made g c =
    rw (← c.self.view_is) (λ first made.
    ran_made g.M.BlockMachine.steps (g.M.Worlds.chain_id c.self.inside.machine) (g.V.Verdicts.judge c.args.verdicts.now) (g.M.Worlds.stack c.self.inside.machine) (g.M.Worlds.stack c.run_made.new.machine)
    c.self.inside.receipts.items c.run_made.new.receipts.items (g.M.BlockMachine.pending c.self.inside.machine) (g.M.BlockMachine.pending c.run_made.new.machine) c.args.packed.now c.args.signatures.now
    c.in_ok-trace.trace c.requires.reads
    (λ w i. g.met.M.BlockMachine.sound (g.M.Worlds.chain_id c.self.inside.machine) (g.V.Verdicts.judge c.args.verdicts.now) w i c.args.packed.now c.args.signatures.now) c.run_made.ensures.stack
    (subst (λ v. IsSome v.pending) (sym c.self.view_is) c.requires.pending) c.in_ok-trace.ensures.ok made)
