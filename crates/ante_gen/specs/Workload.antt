-- The workload that a seed makes: a genesis with the ledger, what is added to it, and which keys are read.
use Rattle.std.specs.Prelude.{ℕ, zero, suc, ◌+◌, ◌*◌, ◌/◌, ◌%◌, ◌^◌, List, [], ◌∷◌, codes}
use Rattle.ante_pack.specs.declared.names.Name.{Name}
use Rattle.ante_pack.specs.Names.{name_number}
use Rattle.ante_types.specs.declared.chain.Genesis.{Genesis}
use Rattle.ante_types.specs.declared.chain.GenesisAccount.{GenesisAccount}
use Rattle.ante_types.specs.Genesis.{eosio, builtin_authority}
use Rattle.ante_gen.specs.Ledger.{ledger_code}

-- ---- the generator, a linear congruence modulo 2 ^ 64

abbrev pub next_state : ℕ → ℕ
next_state x = (x * 6364136223846793005 + 1442695040888963407) % 2 ^ 64

-- the number that a state gives: its high 31 bits
abbrev pub number_of : ℕ → ℕ
number_of x = x / 2 ^ 33

unfoldable pub after_draws : ℕ → ℕ → ℕ
after_draws zero x = x
after_draws (suc n) x = after_draws n (next_state x)

-- ---- what is drawn

-- a key is below 1,000
abbrev pub key_of : ℕ → ℕ
key_of x = number_of x % 1000

-- an amount is below 100
abbrev pub amount_of : ℕ → ℕ
amount_of x = number_of x % 100

-- so many pairs of a key and an amount, drawn from this state on
unfoldable pub pairs_from : ℕ → ℕ → List (ℕ × ℕ)
pairs_from zero x = []
pairs_from (suc n) x = let key = next_state x in let amount = next_state key in (key_of key, amount_of amount) ∷ pairs_from n amount

-- so many keys
unfoldable pub keys_from : ℕ → ℕ → List ℕ
keys_from zero x = []
keys_from (suc n) x = let key = next_state x in key_of key ∷ keys_from n key

-- the pairs that are added, and then the keys that are read
abbrev pub most_adds : ℕ
most_adds = 2000

abbrev pub most_reads : ℕ
most_reads = 2000

abbrev pub adds_of : (seed : ℕ) → List (ℕ × ℕ)
adds_of seed = pairs_from most_adds seed

abbrev pub reads_of : (seed : ℕ) → List ℕ
reads_of seed = keys_from most_reads (after_draws (2 * most_adds) seed)

-- ---- the genesis

abbrev pub ledger : Name
ledger = record { 0 = name_number (codes "ledger") }

abbrev pub with_code : Name → List ℕ → GenesisAccount
with_code name code = record { name = name; owner = builtin_authority; active = builtin_authority; code = code }

unfoldable pub ledger_genesis : Genesis
ledger_genesis = record { version = 1; slot = 0; producers = eosio ∷ []; accounts = with_code eosio [] ∷ with_code ledger ledger_code ∷ [] }
