-- What the system's account does itself, by the name of the action. In reading mode it is refused by its name; then its data is read, its
-- first field must be an actor and an account, and then come its own refusals. Each has a file of its own.
pub mod Rules
pub mod NewAccount
pub mod SetCode
pub mod SetAbi
pub mod UpdateAuth
pub mod DeleteAuth
pub mod LinkAuth
pub mod UnlinkAuth
use Rattle.std.specs.Prelude.{ℕ, Bool, List, Option, None, option_map, Result, Ok, Err, if◌then◌else◌}
use Rattle.ante_pack.specs.declared.fault.PackFault.{PackFault}
use Rattle.ante_pack.specs.declared.names.Name.{Name}
use Rattle.ante_pack.specs.Forms.{whole}
use Rattle.ante_pack.specs.Names.{name_text}
use Rattle.ante_types.specs.declared.context.Mode.{Mode}
use Rattle.ante_types.specs.declared.context.Mode.TheVariants as mode
use Rattle.ante_types.specs.declared.context.RunContext.{RunContext}
use Rattle.ante_types.specs.declared.failure.Failure.{Failure}
use Rattle.ante_types.specs.declared.failure.Failure.TheVariants as failure
use Rattle.ante_types.specs.World.{World}
use Rattle.ante_store.specs.declared.change.Change.{Change}
use Rattle.ante_calls.specs.Accounts.{same_name}
use Rattle.ante_calls.specs.Authorization.{place_of}
use Rattle.ante_calls.specs.Calls.{write_refused}
use Rattle.ante_execution.specs.declared.kinds.NativeAction.{NativeAction}
use Rattle.ante_execution.specs.declared.kinds.NativeAction.TheVariants as native
use Rattle.ante_execution.specs.Native.Rules.{acting_refusal, make_all}
use Rattle.ante_execution.specs.Native.NewAccount.{newaccount_refusal, newaccount_changes}
use Rattle.ante_execution.specs.Native.SetCode.{setcode_refusal, setcode_steps, setcode_changes}
use Rattle.ante_execution.specs.Native.SetAbi.{setabi_changes}
use Rattle.ante_execution.specs.Native.UpdateAuth.{updateauth_refusal, updateauth_changes}
use Rattle.ante_execution.specs.Native.DeleteAuth.{deleteauth_refusal, deleteauth_changes}
use Rattle.ante_execution.specs.Native.LinkAuth.{linkauth_refusal, linkauth_changes}
use Rattle.ante_execution.specs.Native.UnlinkAuth.{unlinkauth_refusal, unlinkauth_changes}
use Rattle.ante_execution.specs.NativeData.{native_of, newaccount, setcode, setabi, updateauth, deleteauth, linkauth, unlinkauth}
use Rattle.ante_execution.specs.Refusals.{unless}

-- the data is read, or the failure names the fault's place
abbrev pub with_data : {D : Type 0} → Result D PackFault → (D → Result World Failure) → Result World Failure
with_data (Err f) go = Err (failure.DataFault (place_of f))
with_data (Ok d) go = go d

-- by an account that acts: the action's own refusals, and then its changes
abbrev pub by : (account : Name) → RunContext → World → Option Failure → List Change → Result World Failure
by account run w refused changes = unless (acting_refusal account run w) (unless refused (make_all changes w))

module _ (accepts : List ℕ → Bool) (run : RunContext) (w : World) where
  abbrev pub native_does : NativeAction → (bytes : List ℕ) → Result World Failure
  native_does native.NewAccount bytes = with_data (whole newaccount bytes) (λ d. by d.creator run w (newaccount_refusal d w) (newaccount_changes d))
  native_does native.SetCode bytes = with_data (whole setcode bytes) (λ d. by d.account run w (setcode_refusal accepts d) (setcode_changes d w))
  native_does native.SetAbi bytes = with_data (whole setabi bytes) (λ d. by d.account run w None (setabi_changes d w))
  native_does native.UpdateAuth bytes = with_data (whole updateauth bytes) (λ d. by d.account run w (updateauth_refusal d w) (updateauth_changes d))
  native_does native.DeleteAuth bytes = with_data (whole deleteauth bytes) (λ d. by d.account run w (deleteauth_refusal d w) (deleteauth_changes d))
  native_does native.LinkAuth bytes = with_data (whole linkauth bytes) (λ d. by d.account run w (linkauth_refusal d w) (linkauth_changes d))
  native_does native.UnlinkAuth bytes = with_data (whole unlinkauth bytes) (λ d. by d.account run w (unlinkauth_refusal d w) (unlinkauth_changes d))

  abbrev pub native_in : Mode → NativeAction → Result World Failure
  native_in mode.Reading n = Err (write_refused (name_text run.action.name.0))
  native_in mode.Writing n = native_does n run.action.bytes

  unfoldable pub native_run : NativeAction → Result World Failure
  native_run n = native_in run.mode n

-- the native action that a run does: only in the own run of the account that the action is for
abbrev pub native_of_run : RunContext → Option NativeAction
native_of_run run = if same_name run.receiver run.action.account then native_of run.action else None

-- what the run's native action makes of the state, if it has one
abbrev pub native_in_run : (accepts : List ℕ → Bool) → RunContext → World → Option (Result World Failure)
native_in_run accepts run w = option_map (native_run accepts run w) (native_of_run run)

-- ---- its steps: in writing mode setcode pays for its code, right after its data is read

abbrev pub steps_of : NativeAction → (bytes : List ℕ) → ℕ
steps_of native.SetCode bytes = setcode_steps (whole setcode bytes)
steps_of native.NewAccount bytes = 0
steps_of native.SetAbi bytes = 0
steps_of native.UpdateAuth bytes = 0
steps_of native.DeleteAuth bytes = 0
steps_of native.LinkAuth bytes = 0
steps_of native.UnlinkAuth bytes = 0

abbrev pub steps_in : Mode → NativeAction → (bytes : List ℕ) → ℕ
steps_in mode.Reading n bytes = 0
steps_in mode.Writing n bytes = steps_of n bytes

abbrev pub native_steps : NativeAction → RunContext → ℕ
native_steps n run = steps_in run.mode n run.action.bytes
