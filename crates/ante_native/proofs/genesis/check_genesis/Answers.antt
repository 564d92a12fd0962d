use Rattle.ante_native.proofs.Founded.{founded}
use Rattle.ante_native.proofs.genesis.check_genesis.Goals as goal

pub returns-clause-codes : goal.returns-clause-codes
returns-clause-codes c = λ accepts is. founded accepts c.args.genesis.now c.check_rules.result (c.check_rules.ensures accepts is)
