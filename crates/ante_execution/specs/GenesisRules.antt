-- What a genesis must be, and the first fault of one that isn't.
use Rattle.std.specs.Prelude.{ℕ, ◌==◌, nat_le, Bool, true, not, ◌&&◌, ◌||◌, List, [], ◌∷◌, length, Option, Some, option_map, find, if◌then◌else◌}
use Rattle.std.specs.List.{list_any, list_all}
use Rattle.std.specs.Option.{option_or}
use Rattle.std.specs.declared.cmp.Ordering.{Ordering}
use Rattle.ante_pack.specs.declared.authority.Authority.{Authority}
use Rattle.ante_pack.specs.declared.authority.Level.{Level}
use Rattle.ante_pack.specs.declared.names.Name.{Name}
use Rattle.ante_state.specs.Orders.{name_order}
use Rattle.ante_types.specs.declared.chain.Genesis.{Genesis}
use Rattle.ante_types.specs.declared.chain.GenesisAccount.{GenesisAccount}
use Rattle.ante_types.specs.Genesis.{eosio}
use Rattle.ante_calls.specs.Accounts.{same_name}
use Rattle.ante_execution.specs.declared.ends.GenesisFault.{GenesisFault}
use Rattle.ante_execution.specs.declared.ends.GenesisFault.TheVariants as fault
use Rattle.ante_execution.specs.Native.NewAccount.{is_new_level}
use Rattle.ante_execution.specs.Native.Rules.{rises, is_sound}

abbrev pub most_producers : ℕ
most_producers = 21

-- no name stands twice
abbrev pub are_distinct : List Name → Bool
are_distinct [] = true
are_distinct (n ∷ names) = not (list_any (same_name n) names) && are_distinct names

abbrev pub are_producers : List Name → Bool
are_producers names = nat_le 1 (length names) && nat_le (length names) most_producers && are_distinct names && list_all (λ n. not (n.0 == 0)) names

abbrev pub account_order : GenesisAccount → GenesisAccount → Ordering
account_order a b = name_order a.name b.name

-- each account of the genesis is there with `owner`, `active` and `eosio.code`
abbrev pub is_there_first : List GenesisAccount → Level → Bool
is_there_first accounts level = list_any (λ a. is_new_level a.name level) accounts

abbrev pub is_first_authority : List GenesisAccount → Authority → Bool
is_first_authority accounts a = length a.waits == 0 && is_sound (is_there_first accounts) a

abbrev pub has_bad_authority : List GenesisAccount → GenesisAccount → Bool
has_bad_authority accounts a = not (is_first_authority accounts a.owner && is_first_authority accounts a.active)

abbrev pub has_bad_code : (accepts : List ℕ → Bool) → GenesisAccount → Bool
has_bad_code accepts a = not (length a.code == 0 || accepts a.code)

-- the accounts' codes are looked at when all authorities have been
abbrev pub code_fault : (accepts : List ℕ → Bool) → List GenesisAccount → Option GenesisFault
code_fault accepts accounts = option_map (λ a. fault.BadCode a.name) (find (has_bad_code accepts) accounts)

abbrev pub authority_fault : List GenesisAccount → Option GenesisFault
authority_fault accounts = option_map (λ a. fault.BadAuthority a.name) (find (has_bad_authority accounts) accounts)

unfoldable pub genesis_fault : (accepts : List ℕ → Bool) → Genesis → Option GenesisFault
genesis_fault accepts g =
    if not (g.version == 1) then Some (fault.Version g.version)
    else if not (are_producers g.producers) then Some fault.Producers
    else if not (rises account_order g.accounts) then Some fault.AccountOrder
    else if not (list_any (λ a. same_name a.name eosio) g.accounts) then Some fault.NoSystem
    else option_or (authority_fault g.accounts) (code_fault accepts g.accounts)
