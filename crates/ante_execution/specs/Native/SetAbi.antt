-- setabi(account, abi): the description of the account's tables and actions, whatever its bytes.
use Rattle.std.specs.Prelude.{List, [], ◌∷◌, Option, None, Some}
use Rattle.ante_state.specs.declared.objects.AccountRow.{AccountRow}
use Rattle.ante_types.specs.World.{World}
use Rattle.ante_store.specs.declared.change.Change.{Change}
use Rattle.ante_store.specs.declared.change.Change.TheVariants as change
use Rattle.ante_calls.specs.Accounts.{account_at}
use Rattle.ante_execution.specs.NativeData.{SetAbi}

abbrev pub described : SetAbi → Option AccountRow → List Change
described d None = []
described d (Some row) = change.SetAccount d.account (record { payer = row.payer; privileged = row.privileged; code = row.code; abi = d.abi }) ∷ []

abbrev pub setabi_changes : SetAbi → World → List Change
setabi_changes d w = described d (account_at d.account w)
