-- unlinkauth(account, code, type): takes a link away.
use Rattle.std.specs.Prelude.{List, [], ◌∷◌, Option, None, Some, is_some, if◌then◌else◌}
use Rattle.ante_types.specs.declared.failure.Failure.{Failure}
use Rattle.ante_types.specs.declared.failure.Failure.TheVariants as failure
use Rattle.ante_types.specs.World.{World}
use Rattle.ante_store.specs.declared.change.Change.{Change}
use Rattle.ante_store.specs.declared.change.Change.TheVariants as change
use Rattle.ante_execution.specs.Authorities.{link_at}
use Rattle.ante_execution.specs.NativeData.{UnlinkAuth}

abbrev pub unlinkauth_refusal : UnlinkAuth → World → Option Failure
unlinkauth_refusal d w = if is_some (link_at d.account d.code d.action w) then None else Some (failure.Native 7)

abbrev pub unlinkauth_changes : UnlinkAuth → List Change
unlinkauth_changes d = change.SetLink d.account d.code d.action None ∷ []
