-- Worked examples of what a genesis must be, with expected values from outside.
use Rattle.std.proofs.Common.{◌≡◌, refl, [], ◌∷◌, None, Some}
use Rattle.ante_pack.specs.Names.{name_number, number_of}
use Rattle.ante_types.specs.declared.chain.Genesis.{Genesis}
use Rattle.ante_types.specs.declared.chain.GenesisAccount.{GenesisAccount}
use Rattle.ante_types.specs.Genesis.{eosio, builtin_authority}
use Rattle.ante_execution.specs.declared.ends.GenesisFault.TheVariants as fault
use Rattle.ante_execution.specs.GenesisRules.{genesis_fault}
use Rattle.ante_execution.proofs.NativeExamples.{bob, no_codes}

abbrev account : GenesisAccount
account = record { name = eosio; owner = builtin_authority; active = builtin_authority; code = [] }

abbrev first : Genesis
first = record { version = 1; slot = 0; producers = eosio ∷ []; accounts = account ∷ [] }

good : genesis_fault no_codes first ≡ None
unfolding genesis_fault name_number number_of
good = refl

version : genesis_fault no_codes (record first { version = 2 }) ≡ Some (fault.Version 2)
unfolding genesis_fault
version = refl

no_producers : genesis_fault no_codes (record first { producers = [] }) ≡ Some fault.Producers
unfolding genesis_fault
no_producers = refl

twice : genesis_fault no_codes (record first { accounts = account ∷ account ∷ [] }) ≡ Some fault.AccountOrder
unfolding genesis_fault name_number number_of
twice = refl

no_system : genesis_fault no_codes (record first { accounts = record account { name = bob } ∷ [] }) ≡ Some fault.NoSystem
unfolding genesis_fault name_number number_of
no_system = refl

out_of_reach : genesis_fault no_codes (record first { accounts = record account { active = record builtin_authority { threshold = 2 } } ∷ [] }) ≡ Some (fault.BadAuthority eosio)
unfolding genesis_fault name_number number_of
out_of_reach = refl

bad_code : genesis_fault no_codes (record first { accounts = record account { code = 0 ∷ [] } ∷ [] }) ≡ Some (fault.BadCode eosio)
unfolding genesis_fault name_number number_of
bad_code = refl
