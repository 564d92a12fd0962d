-- setcode(account, vmtype, vmversion, code): the account's code, which is taken away where there is none. One step for each whole 64 bytes of it.
use Rattle.std.specs.Prelude.{T, IfSome, ◌||◌, ℕ, ◌/◌, ◌==◌, Bool, not, ◌&&◌, List, [], ◌∷◌, length, codes, Option, None, Some, Result, Ok, Err, if◌then◌else◌}
use Rattle.ante_pack.specs.declared.fault.PackFault.{PackFault}
use Rattle.ante_pack.specs.declared.names.Name.{Name}
use Rattle.ante_state.specs.declared.objects.AccountRow.{AccountRow}
use Rattle.ante_types.specs.declared.failure.Failure.{Failure}
use Rattle.ante_types.specs.declared.failure.Failure.TheVariants as failure
use Rattle.ante_types.specs.World.{World}
use Rattle.ante_store.specs.declared.change.Change.{Change}
use Rattle.ante_store.specs.declared.change.Change.TheVariants as change
use Rattle.ante_calls.specs.Accounts.{account_at}
use Rattle.ante_calls.specs.Calls.{unsupported}
use Rattle.ante_execution.specs.NativeData.{SetCode}

-- `accepts` says which codes decode and are valid
abbrev pub setcode_refusal : (accepts : List ℕ → Bool) → SetCode → Option Failure
setcode_refusal accepts d =
    if not (d.vmtype == 0 && d.vmversion == 0) then Some (unsupported (codes "vm"))
    else if not (length d.code == 0) && not (accepts d.code) then Some failure.BadCode
    else None

abbrev pub setcode_steps : Result SetCode PackFault → ℕ
setcode_steps (Err f) = 0
setcode_steps (Ok d) = length d.code / 64

abbrev pub coded : SetCode → Option AccountRow → List Change
coded d None = []
coded d (Some row) = change.SetAccount d.account (record { payer = row.payer; privileged = row.privileged; code = d.code; abi = row.abi }) ∷ []

abbrev pub setcode_changes : SetCode → World → List Change
setcode_changes d w = coded d (account_at d.account w)

-- each code of a state is empty, or decodes and is valid
abbrev pub CodesAreAccepted : (accepts : List ℕ → Bool) → World → Type 0
CodesAreAccepted accepts w = (name : Name) → IfSome (account_at name w) (λ row. T (length row.code == 0 || accepts row.code))
