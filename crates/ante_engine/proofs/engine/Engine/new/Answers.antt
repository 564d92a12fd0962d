use Rattle.std.proofs.Common.{◌∙◌}
use Rattle.ante_engine.proofs.Founded.{founded_is}
use Rattle.ante_engine.proofs.engine.Engine.new.Goals as goal

pub returns-clause-founded : goal.returns-clause-founded
returns-clause-founded c =
    founded_is c.args.packed.now c.in_ok-genesis.genesis c.in_ok-store.store c.new-machine.result c.in_ok-genesis.ensures.genesis c.in_ok-store.ensures
    (c.new-machine.ensures.chain ∙ c.chain_id.ensures) c.new-machine.ensures.stack c.new-machine.ensures.idle c.new-machine.ensures.count
