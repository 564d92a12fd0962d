-- linkauth(account, code, type, requirement): the permission that actions of a contract ask the account for.
use Rattle.std.specs.Prelude.{Bool, true, false, not, ◌&&◌, ◌||◌, List, [], ◌∷◌, Option, None, Some, if◌then◌else◌}
use Rattle.ante_pack.specs.declared.names.Name.{Name}
use Rattle.ante_types.specs.declared.failure.Failure.{Failure}
use Rattle.ante_types.specs.declared.failure.Failure.TheVariants as failure
use Rattle.ante_types.specs.Genesis.{eosio}
use Rattle.ante_types.specs.World.{World}
use Rattle.ante_store.specs.declared.change.Change.{Change}
use Rattle.ante_store.specs.declared.change.Change.TheVariants as change
use Rattle.ante_calls.specs.Accounts.{same_name, is_account, has_permission}
use Rattle.ante_execution.specs.Authorities.{link_at}
use Rattle.ante_execution.specs.declared.kinds.NativeAction.{NativeAction}
use Rattle.ante_execution.specs.declared.kinds.NativeAction.TheVariants as native
use Rattle.ante_execution.specs.NativeData.{LinkAuth, eosio_any, native_named}

-- the system's own actions on permissions and links
abbrev pub is_of_permissions : Option NativeAction → Bool
is_of_permissions None = false
is_of_permissions (Some native.UpdateAuth) = true
is_of_permissions (Some native.DeleteAuth) = true
is_of_permissions (Some native.LinkAuth) = true
is_of_permissions (Some native.UnlinkAuth) = true
is_of_permissions (Some native.NewAccount) = false
is_of_permissions (Some native.SetCode) = false
is_of_permissions (Some native.SetAbi) = false

abbrev pub asks_already : Option Name → Name → Bool
asks_already None requirement = false
asks_already (Some name) requirement = same_name name requirement

abbrev pub linkauth_refusal : LinkAuth → World → Option Failure
linkauth_refusal d w =
    if not (is_account d.code w) || not (has_permission (record { actor = d.account; permission = d.requirement }) w) || same_name d.requirement eosio_any
    || (same_name d.code eosio && is_of_permissions (native_named d.action)) || asks_already (link_at d.account d.code d.action w) d.requirement
    then Some (failure.Native 6)
    else None

abbrev pub linkauth_changes : LinkAuth → List Change
linkauth_changes d = change.SetLink d.account d.code d.action (Some d.requirement) ∷ []
