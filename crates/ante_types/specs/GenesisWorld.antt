-- The world of genesis.
use Rattle.std.specs.Prelude.{◌==◌, List, [], ◌∷◌, codes, map}
use Rattle.std.specs.List.{flat_map}
use Rattle.ante_pack.specs.declared.names.Name.{Name}
use Rattle.ante_pack.specs.declared.authority.Level.{Level}
use Rattle.ante_pack.specs.declared.authority.Authority.{Authority}
use Rattle.ante_pack.specs.Names.{name_number}
use Rattle.ante_state.specs.declared.objects.AccountRow.{AccountRow}
use Rattle.ante_state.specs.declared.objects.PermissionRow.{PermissionRow}
use Rattle.ante_types.specs.declared.chain.GenesisAccount.{GenesisAccount}
use Rattle.ante_types.specs.declared.chain.Genesis.{Genesis}
use Rattle.ante_types.specs.Genesis.{eosio, genesis_head}
use Rattle.ante_types.specs.World.{World}

abbrev pub owner : Name
owner = record { 0 = name_number (codes "owner") }

abbrev pub active : Name
active = record { 0 = name_number (codes "active") }

abbrev pub no_name : Name
no_name = record { 0 = 0 }

-- an account of genesis pays for itself, has no ABI, and is privileged if it is the system's
abbrev pub account_of : GenesisAccount → Name × AccountRow
account_of a = (a.name, record { payer = a.name; privileged = a.name.0 == eosio.0; code = a.code; abi = [] })

abbrev pub permission_of : Name → Name → Name → Authority → Level × PermissionRow
permission_of account permission parent authority = (record { actor = account; permission = permission }, record { parent = parent; authority = authority })

-- its two permissions, the lower number first: `active` stands under `owner`, and `owner` under none
abbrev pub permissions_of : GenesisAccount → List (Level × PermissionRow)
permissions_of a = permission_of a.name active owner a.active ∷ permission_of a.name owner no_name a.owner ∷ []

abbrev pub accounts_of : List GenesisAccount → List (Name × AccountRow)
accounts_of accounts = map account_of accounts

-- the accounts with their permissions, and nothing else
abbrev pub world_with : List GenesisAccount → World
world_with accounts = record {
  accounts = accounts_of accounts;
  permissions = flat_map permissions_of accounts;
  links = [];
  quotas = [];
  recent = [];
  references = [];
  tables = [];
  rows = [];
  index64 = [];
  index128 = [];
  index256 = [];
}

-- and the id of genesis as the reference of its number
abbrev pub genesis_world : Genesis → World
genesis_world g = record (world_with g.accounts) { references = (1, (genesis_head g).id) ∷ [] }
