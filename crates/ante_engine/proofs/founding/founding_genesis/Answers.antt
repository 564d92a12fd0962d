use Rattle.std.proofs.Common.{◌≡◌, Err, subst}
use Rattle.ante_accepts.specs.Accepting.{accepts}
use Rattle.ante_accepts.proofs.Accepted.{accepted}
use Rattle.ante_execution.specs.Answers.{ChecksGenesis}
use Rattle.ante_execution.specs.GenesisRules.{genesis_fault}
use Rattle.ante_engine.proofs.Founded.{accounts_rise, few_producers, no_genesis, some_producers}
use Rattle.ante_engine.proofs.founding.founding_genesis.Goals as goal

pub returns-in-Ok-clause-genesis : goal.returns-in-Ok-clause-genesis
returns-in-Ok-clause-genesis c = record { read = c.in_ok-genesis.ensures.read; faultless = c.in-Ok.ensures.checks accepts accepted }

pub returns-in-Ok-clause-rises : goal.returns-in-Ok-clause-rises
returns-in-Ok-clause-rises c = accounts_rise c.in_ok-genesis.genesis (c.in-Ok.ensures.checks accepts accepted)

pub returns-in-Ok-clause-some : goal.returns-in-Ok-clause-some
returns-in-Ok-clause-some c = some_producers c.in_ok-genesis.genesis (c.in-Ok.ensures.checks accepts accepted)

pub returns-in-Ok-clause-few : goal.returns-in-Ok-clause-few
returns-in-Ok-clause-few c = few_producers c.in_ok-genesis.genesis (c.in-Ok.ensures.checks accepts accepted)

pub returns-in-Err-clause-fault : goal.returns-in-Err-clause-fault
returns-in-Err-clause-fault c =
    no_genesis c.args.packed.now c.in_ok-genesis.genesis c.in_ok-genesis.ensures.read c.shown.result
    (c.shown.ensures (genesis_fault accepts c.in_ok-genesis.genesis) (c.in-Err.ensures.checks accepts accepted))
