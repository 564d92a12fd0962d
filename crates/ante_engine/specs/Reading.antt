-- What the engine answers to a read-only transaction at a head, and how many looks at the stop that takes.
use Rattle.std.specs.Prelude.{ℕ}
use Rattle.ante_types.specs.declared.chain.Head.{Head}
use Rattle.ante_types.specs.declared.trace.Trace.{Trace}
use Rattle.ante_types.specs.Jobs.{Job}
use Rattle.ante_types.specs.World.{World}
use Rattle.ante_accepts.specs.Accepting.{chain_codes}
use Rattle.ante_execution.specs.Transactions.{read_only, reading_looks}

abbrev pub answer : World → (position : ℕ) → Head → (slot : ℕ) → Job → Trace
answer w position head slot job = read_only chain_codes w position head slot job.trx job.packed

abbrev pub looks : World → (slot : ℕ) → Job → ℕ
looks w slot job = reading_looks chain_codes w slot job.trx job.packed
