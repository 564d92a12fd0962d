-- deleteauth(account, permission): one that isn't `owner` or `active`, and that neither a permission nor a link of the account needs.
use Rattle.std.specs.Prelude.{not, ◌||◌, List, [], ◌∷◌, Option, None, Some, if◌then◌else◌}
use Rattle.ante_pack.specs.declared.authority.Level.{Level}
use Rattle.ante_types.specs.declared.failure.Failure.{Failure}
use Rattle.ante_types.specs.declared.failure.Failure.TheVariants as failure
use Rattle.ante_types.specs.World.{World}
use Rattle.ante_objects.specs.Objects.{has_child, has_link_to}
use Rattle.ante_store.specs.declared.change.Change.{Change}
use Rattle.ante_store.specs.declared.change.Change.TheVariants as change
use Rattle.ante_calls.specs.Accounts.{same_name, has_permission}
use Rattle.ante_execution.specs.NativeData.{DeleteAuth, owner, active}

abbrev pub deleted_level : DeleteAuth → Level
deleted_level d = record { actor = d.account; permission = d.permission }

abbrev pub deleteauth_refusal : DeleteAuth → World → Option Failure
deleteauth_refusal d w =
    if same_name d.permission owner || same_name d.permission active || not (has_permission (deleted_level d) w)
    || has_child (deleted_level d) w.permissions || has_link_to (deleted_level d) w.links then Some (failure.Native 5)
    else None

abbrev pub deleteauth_changes : DeleteAuth → List Change
deleteauth_changes d = change.SetPermission (deleted_level d) None ∷ []
