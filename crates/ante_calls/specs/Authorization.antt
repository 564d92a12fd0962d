-- What a run asks of the levels of its action and of accounts, and whom it notifies and what it sends.
use Rattle.std.specs.Prelude.{ℕ, Bool, true, false, not, ◌||◌, nat_le, List, [], ◌∷◌, ◌++◌, length, Option, None, Some, Result, Ok, Err, if◌then◌else◌}
use Rattle.std.specs.List.{list_any}
use Rattle.ante_pack.specs.Forms.{whole}
use Rattle.ante_pack.specs.declared.fault.PackFault.{PackFault}
use Rattle.ante_pack.specs.declared.fault.PackFault.TheVariants as pack
use Rattle.ante_pack.specs.declared.names.Name.{Name}
use Rattle.ante_types.specs.Chain.{action}
use Rattle.ante_types.specs.declared.chain.Action.{Action}
use Rattle.ante_types.specs.declared.context.RunContext.{RunContext}
use Rattle.ante_types.specs.declared.failure.Failure.{Failure}
use Rattle.ante_types.specs.declared.failure.Failure.TheVariants as failure
use Rattle.ante_wmem.specs.Linear.{LinearMemory}
use Rattle.ante_wmem.specs.HostCalls.{Reply, Outcome, value, nothing, refused}
use Rattle.ante_calls.specs.Accounts.{same_name, no_name, is_account, is_privileged, is_actor, has_level}
use Rattle.ante_calls.specs.Calls.{name_arg, range, replies, reading, paying, unless}
use Rattle.ante_calls.specs.Views.{SysView}

-- an i32: 1 or 0
abbrev pub yes_or_no : Bool → ℕ
yes_or_no true = 1
yes_or_no false = 0

-- ---- levels

-- require_auth(name): some level of the action is of this account
abbrev pub require_auth : SysView → List ℕ → LinearMemory → (left : ℕ) → Outcome SysView Failure
require_auth v args m left =
    replies (if is_actor (name_arg args 0) v.run.action then nothing v m else refused (failure.MissingAuth (name_arg args 0) no_name)) left

-- require_auth2(name, permission): the action has this very level
abbrev pub require_auth2 : SysView → List ℕ → LinearMemory → (left : ℕ) → Outcome SysView Failure
require_auth2 v args m left =
    replies (if has_level (record { actor = name_arg args 0; permission = name_arg args 1 }) v.run.action then nothing v m
    else refused (failure.MissingAuth (name_arg args 0) (name_arg args 1))) left

-- has_auth(name)
abbrev pub has_auth : SysView → List ℕ → LinearMemory → (left : ℕ) → Outcome SysView Failure
has_auth v args m left = replies (value (yes_or_no (is_actor (name_arg args 0) v.run.action)) v m) left

-- ---- accounts

-- is_account(name)
abbrev pub is_account_call : SysView → List ℕ → LinearMemory → (left : ℕ) → Outcome SysView Failure
is_account_call v args m left = replies (value (yes_or_no (is_account (name_arg args 0) v.world)) v m) left

-- only a privileged receiver may ask, and only of an account that is there
abbrev pub asking_refusal : Name → SysView → Option Failure
asking_refusal name v =
    if not (is_privileged v.run.receiver v.world) then Some failure.NotPrivileged
    else if not (is_account name v.world) then Some (failure.UnknownAccount name)
    else None

-- is_privileged(name)
abbrev pub is_privileged_call : SysView → List ℕ → LinearMemory → (left : ℕ) → Outcome SysView Failure
is_privileged_call v args m left =
    replies (unless (asking_refusal (name_arg args 0) v) (value (yes_or_no (is_privileged (name_arg args 0) v.world)) v m)) left

-- ---- notifications

-- the receiver of the action's first run isn't notified, and nobody is twice
abbrev pub is_notified : Name → RunContext → Bool
is_notified name run = same_name name run.action.account || list_any (same_name name) run.recipients

abbrev pub with_recipient : Name → RunContext → RunContext
with_recipient name run = if is_notified name run then run else record run { recipients = run.recipients ++ name ∷ [] }

-- require_recipient(name)
abbrev pub require_recipient : SysView → List ℕ → LinearMemory → (left : ℕ) → Outcome SysView Failure
require_recipient v args m left =
    replies (if is_account (name_arg args 0) v.world then nothing (record { world = v.world; run = with_recipient (name_arg args 0) v.run }) m
    else refused (failure.UnknownAccount (name_arg args 0))) left

-- ---- inline actions

-- an action at this depth can't send another
abbrev pub most_depth : ℕ
most_depth = 4

abbrev pub place_of : PackFault → ℕ
place_of (pack.Short at) = at
place_of (pack.LongVaruint at) = at
place_of (pack.KeyKind at) = at
place_of (pack.Trailing at) = at

abbrev pub with_inline : Action → RunContext → RunContext
with_inline a run = record run { inlines = run.inlines ++ a ∷ [] }

abbrev pub sending_refusal : Action → SysView → Option Failure
sending_refusal a v =
    if nat_le most_depth v.run.depth then Some failure.InlineDepth
    else if not (is_account a.account v.world) then Some (failure.UnknownAccount a.account)
    else None

abbrev pub sent : Result Action PackFault → SysView → LinearMemory → Reply SysView Failure
sent (Err f) v m = refused (failure.DataFault (place_of f))
sent (Ok a) v m = unless (sending_refusal a v) (nothing (record { world = v.world; run = with_inline a v.run }) m)

-- send_inline(at, n): a packed action, which waits until all runs of this action are done. Whether its levels are satisfied is asked by
-- whoever made the call.
abbrev pub send_inline : SysView → List ℕ → LinearMemory → (left : ℕ) → Outcome SysView Failure
send_inline v args m left = reading (range 0 args m) left (λ bytes. paying (length bytes) left (sent (whole action bytes) v m))
