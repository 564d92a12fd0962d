-- newaccount(creator, name, owner, active): a new account with its two permissions. The account is billed to the creator, the permissions to it.
use Rattle.std.specs.Prelude.{◌==◌, ◌%◌, Bool, false, not, ◌&&◌, ◌||◌, List, [], ◌∷◌, Option, Some, if◌then◌else◌}
use Rattle.std.specs.Option.{option_or}
use Rattle.ante_pack.specs.declared.authority.Level.{Level}
use Rattle.ante_pack.specs.declared.names.Name.{Name}
use Rattle.ante_types.specs.declared.failure.Failure.{Failure}
use Rattle.ante_types.specs.declared.failure.Failure.TheVariants as failure
use Rattle.ante_types.specs.Genesis.{eosio}
use Rattle.ante_types.specs.World.{World}
use Rattle.ante_store.specs.declared.change.Change.{Change}
use Rattle.ante_store.specs.declared.change.Change.TheVariants as change
use Rattle.ante_calls.specs.Accounts.{same_name, no_name, is_account}
use Rattle.ante_execution.specs.Native.Rules.{is_reserved, authority_refusal, is_there}
use Rattle.ante_execution.specs.NativeData.{NewAccount, owner, active, eosio_code}

-- at most twelve characters; only the system makes names that begin with `eosio.`
abbrev pub may_be_named : NewAccount → Bool
may_be_named d = not (d.name.0 == 0) && d.name.0 % 16 == 0 && (not (is_reserved d.name) || same_name d.creator eosio)

-- the new account counts as there, with its permissions
abbrev pub is_new_level : Name → Level → Bool
is_new_level name level =
    same_name level.actor name && (same_name level.permission owner || same_name level.permission active || same_name level.permission eosio_code)

abbrev pub is_there_then : Name → World → Level → Bool
is_there_then name w level = is_there w level || is_new_level name level

-- the name first, then both authorities
abbrev pub newaccount_refusal : NewAccount → World → Option Failure
newaccount_refusal d w =
    if is_account d.name w || not (may_be_named d) then Some (failure.Native 2)
    else option_or (authority_refusal (is_there_then d.name w) d.owner) (authority_refusal (is_there_then d.name w) d.active)

abbrev pub newaccount_changes : NewAccount → List Change
newaccount_changes d =
    change.SetAccount d.name (record { payer = d.creator; privileged = false; code = []; abi = [] })
    ∷ change.SetPermission (record { actor = d.name; permission = owner }) (Some (record { parent = no_name; authority = d.owner }))
    ∷ change.SetPermission (record { actor = d.name; permission = active }) (Some (record { parent = owner; authority = d.active })) ∷ []
