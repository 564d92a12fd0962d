-- The limits of the chain.
use Rattle.std.specs.Prelude.{ℕ}

-- the bytes of a packed transaction, together with its signatures where it has some
abbrev pub most_transaction_bytes : ℕ
most_transaction_bytes = 1500000

-- the steps that all runs of a transaction may take together
abbrev pub most_transaction_steps : ℕ
most_transaction_steps = 10000000
