-- What a privileged contract may set.
use Rattle.std.specs.Prelude.{ℕ, ℤ, negsuc, int_lt, Bool, not, ◌||◌, List, codes, Option, None, Some, if◌then◌else◌}
use Rattle.std.specs.Int.{w64, cast_signed}
use Rattle.ante_types.specs.declared.failure.Failure.{Failure}
use Rattle.ante_types.specs.declared.failure.Failure.TheVariants as failure
use Rattle.ante_store.specs.declared.change.Change.{Change}
use Rattle.ante_store.specs.declared.change.Change.TheVariants as change
use Rattle.ante_store.specs.declared.change.WriteError.{WriteError}
use Rattle.ante_store.specs.Changes.{after, refusal}
use Rattle.ante_wmem.specs.Linear.{LinearMemory}
use Rattle.ante_wmem.specs.HostCalls.{Reply, Outcome, nothing, refused}
use Rattle.ante_calls.specs.Accounts.{is_account, is_privileged}
use Rattle.ante_calls.specs.Calls.{arg, name_arg, replies, writing, unless}
use Rattle.ante_calls.specs.Views.{SysView}

abbrev pub limit_arg : List ℕ → ℕ → ℤ
limit_arg args k = cast_signed w64 (arg args k)

-- -1 is no limit, and nothing lies below it
abbrev pub is_bad_limit : ℤ → Bool
is_bad_limit limit = int_lt limit (negsuc 0)

abbrev pub limits_refusal : List ℕ → SysView → Option Failure
limits_refusal args v =
    if not (is_privileged v.run.receiver v.world) then Some failure.NotPrivileged
    else if is_bad_limit (limit_arg args 1) || is_bad_limit (limit_arg args 2) || is_bad_limit (limit_arg args 3) then Some failure.BadLimit
    else if not (is_account (name_arg args 0) v.world) then Some (failure.UnknownAccount (name_arg args 0))
    else None

-- A state whose usage is within its bounds takes every quota.
abbrev pub quota_set : Option WriteError → Change → SysView → LinearMemory → Reply SysView Failure
quota_set (Some e) c v m = refused failure.RamTotal
quota_set None c v m = nothing (record { world = after c v.world; run = v.run }) m

abbrev pub sets_quota : Change → SysView → LinearMemory → Reply SysView Failure
sets_quota c v m = quota_set (refusal c v.world) c v m

-- set_resource_limits(account, ram, net, cpu): the memory that the account may use; the other two are passed over
abbrev pub set_resource_limits : SysView → List ℕ → LinearMemory → (left : ℕ) → Outcome SysView Failure
set_resource_limits v args m left = replies (writing v.run.mode (codes "set_resource_limits") (unless (limits_refusal args v)
    (sets_quota (change.SetQuota (name_arg args 0) (limit_arg args 1)) v m))) left
