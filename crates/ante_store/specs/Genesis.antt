-- How the store comes to the world of genesis.
use Rattle.std.specs.Prelude.{◌≡◌, T, List, Some}
use Rattle.std.specs.FinMap.Entries.{is_sorted}
use Rattle.ante_state.specs.Orders.{name_order}
use Rattle.ante_types.specs.declared.chain.GenesisAccount.{GenesisAccount}
use Rattle.ante_types.specs.GenesisWorld.{owner, active, no_name, account_of, accounts_of, world_with}
use Rattle.ante_types.specs.World.{World}
use Rattle.ante_store.specs.declared.change.Change.TheVariants as change
use Rattle.ante_store.specs.Changes.{after}
use Rattle.ante_store.specs.declared.parts.Maps.{Maps}
use Rattle.ante_store.specs.Worlds.{world_of, IsBilled}

-- the accounts rise by their numbers
abbrev pub Rises : List GenesisAccount → Type 0
Rises accounts = T (is_sorted name_order (accounts_of accounts))

-- the maps show these accounts of genesis with their permissions, and are billed
pub record Shows (accounts : List GenesisAccount) (m : Maps) : Type 0 where
  pub world : world_of m ≡ world_with accounts
  pub billed : IsBilled m

-- the changes that bring one more account
abbrev pub joined : GenesisAccount → World → World
joined a w =
    after (change.SetPermission (record { actor = a.name; permission = owner }) (Some (record { parent = no_name; authority = a.owner })))
    (after (change.SetPermission (record { actor = a.name; permission = active }) (Some (record { parent = owner; authority = a.active })))
    (after (change.SetAccount a.name (account_of a).1) w))
