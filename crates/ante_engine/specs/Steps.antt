-- What the engine does to a state: the first act of a block, a transaction of it, and its last act.
use Rattle.std.specs.Prelude.{ℕ, List}
use Rattle.ante_types.specs.declared.chain.BlockInfo.{BlockInfo}
use Rattle.ante_types.specs.declared.trace.Trace.{Trace}
use Rattle.ante_types.specs.World.{World}
use Rattle.ante_accepts.specs.Accepting.{chain_codes}
use Rattle.ante_execution.specs.Blocks.{begin_block, finish_block}
use Rattle.ante_execution.specs.Transactions.{Done}
use Rattle.ante_machine.specs.Steps.{Steps}
use Rattle.ante_transactions.specs.Transacting.{transact_packed}

abbrev pub both_of : Done → World × Trace
both_of done = (done.world, done.trace)

abbrev pub chain_steps : Steps World
chain_steps = record {
  begin = λ chain w info. begin_block info w;
  trx = λ chain judge w info packed signatures. both_of (transact_packed chain_codes judge.recovers chain info w packed signatures);
  finish = λ chain w num id. finish_block num id w;
}
