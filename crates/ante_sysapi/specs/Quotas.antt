-- What setting a quota comes to in the code.
use Rattle.std.specs.Prelude.{ℕ, List, Option, Some, None}
use Rattle.ante_types.specs.declared.failure.Failure.{Failure}
use Rattle.ante_types.specs.declared.failure.Failure.TheVariants as failure
use Rattle.ante_store.specs.declared.change.Change.TheVariants as change
use Rattle.ante_store.specs.declared.change.WriteError.{WriteError}
use Rattle.ante_store.specs.declared.change.WriteError.TheVariants as error
use Rattle.ante_wmem.specs.Linear.{LinearMemory}
use Rattle.ante_wmem.specs.HostCalls.{Reply}
use Rattle.ante_calls.specs.Calls.{name_arg, unless}
use Rattle.ante_calls.specs.ChainState.{limit_arg, limits_refusal, sets_quota}
use Rattle.ante_calls.specs.Views.{SysView}

-- Any account takes a quota, so of all refusals RamTotal alone can come.
abbrev pub quota_failure : WriteError → Option Failure
quota_failure error.OutOfMemory = None
quota_failure error.WriteRefused = Some failure.RamTotal
quota_failure error.RamTotal = Some failure.RamTotal
quota_failure error.Missing = Some failure.RamTotal
quota_failure error.Exists = Some failure.RamTotal

-- what the call does where the run may write
abbrev pub set_by : List ℕ → LinearMemory → SysView → Reply SysView Failure
set_by args m v = unless (limits_refusal args v) (sets_quota (change.SetQuota (name_arg args 0) (limit_arg args 1)) v m)
