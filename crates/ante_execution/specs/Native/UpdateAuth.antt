-- updateauth(account, permission, parent, authority): a new permission, or another authority for one that is there.
use Rattle.std.specs.Prelude.{◌==◌, Bool, true, not, ◌||◌, List, [], ◌∷◌, Option, None, Some, if◌then◌else◌}
use Rattle.ante_pack.specs.declared.authority.Level.{Level}
use Rattle.ante_pack.specs.declared.names.Name.{Name}
use Rattle.ante_state.specs.declared.objects.PermissionRow.{PermissionRow}
use Rattle.ante_types.specs.declared.failure.Failure.{Failure}
use Rattle.ante_types.specs.declared.failure.Failure.TheVariants as failure
use Rattle.ante_types.specs.World.{World}
use Rattle.ante_store.specs.declared.change.Change.{Change}
use Rattle.ante_store.specs.declared.change.Change.TheVariants as change
use Rattle.ante_calls.specs.Accounts.{same_name, permission_at, has_permission}
use Rattle.ante_execution.specs.Native.Rules.{is_reserved, authority_refusal, is_there}
use Rattle.ante_execution.specs.NativeData.{UpdateAuth, owner, active}

abbrev pub updated_level : UpdateAuth → Level
updated_level d = record { actor = d.account; permission = d.permission }

-- `owner` has no parent, `active` has `owner`, and any other one that is there
abbrev pub may_be_parent : UpdateAuth → World → Bool
may_be_parent d w =
    if same_name d.permission owner then d.parent.0 == 0
    else if same_name d.permission active then same_name d.parent owner
    else has_permission (record { actor = d.account; permission = d.parent }) w

-- a permission that is there keeps its parent
abbrev pub keeps_parent : Option PermissionRow → (parent : Name) → Bool
keeps_parent None parent = true
keeps_parent (Some row) parent = same_name row.parent parent

-- the permission and its parent first, then the authority
abbrev pub updateauth_refusal : UpdateAuth → World → Option Failure
updateauth_refusal d w =
    if d.permission.0 == 0 || is_reserved d.permission || not (may_be_parent d w) || not (keeps_parent (permission_at (updated_level d) w) d.parent)
    then Some (failure.Native 4)
    else authority_refusal (is_there w) d.authority

abbrev pub updateauth_changes : UpdateAuth → List Change
updateauth_changes d = change.SetPermission (updated_level d) (Some (record { parent = d.parent; authority = d.authority })) ∷ []
