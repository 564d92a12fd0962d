-- A call as the host of a run makes it: the intrinsic, and for an inline action whether its levels are satisfied. And the host over the sessions
-- beneath: when a call may be made, and what one that fails leaves.
use Rattle.std.specs.Prelude.{◌≡◌, ℕ, ◌+◌, ◌-◌, ◌<◌, Bool, true, false, List, [], ◌∷◌, length, drop, Option, None, Some, if◌then◌else◌}
use Rattle.ante_undo.specs.Stack.{Stack}
use Rattle.ante_itercache.specs.Iterators.{Iterators}
use Rattle.ante_types.specs.declared.chain.Action.{Action}
use Rattle.ante_types.specs.declared.context.RunContext.{RunContext}
use Rattle.ante_types.specs.declared.failure.Failure.{Failure}
use Rattle.ante_types.specs.Genesis.{eosio}
use Rattle.ante_types.specs.World.{World}
use Rattle.ante_wmem.specs.HostCalls.{Reply, Outcome, HostMeaning, value, nothing, exit, refused, step_limit}
use Rattle.ante_calls.specs.Accounts.{same_name}
use Rattle.ante_calls.specs.declared.calls.Intrinsic.{Intrinsic}
use Rattle.ante_calls.specs.declared.calls.Intrinsic.TheVariants as group
use Rattle.ante_calls.specs.declared.calls.SysCall.TheVariants as sys
use Rattle.ante_calls.specs.Numbers.{intrinsic_at, intrinsic}
use Rattle.ante_calls.specs.Calls.{map_outcome}
use Rattle.ante_calls.specs.ActionData.{IsPacked}
use Rattle.ante_calls.specs.Views.{Seen, Lists, Base, ReadyFor, said}
use Rattle.ante_execution.specs.Authorities.{check_action}

-- ---- inline actions

abbrev pub first_action : List Action → Option Action
first_action [] = None
first_action (a ∷ others) = Some a

-- the action that was sent last
abbrev pub last_sent : RunContext → Option Action
last_sent run = first_action (drop (length run.inlines - 1) run.inlines)

abbrev pub refusal_of : Option Action → Seen → Option Failure
refusal_of None s = None
refusal_of (Some a) s = check_action s.world a [] (Some s.run.receiver)

-- It is checked with no keys and the sending contract as the code. What the system's account sends isn't checked.
abbrev pub sent_refusal : Seen → Option Failure
sent_refusal s = if same_name s.run.receiver eosio then None else refusal_of (last_sent s.run) s

abbrev pub unless : Option Failure → Reply Seen Failure → Reply Seen Failure
unless (Some f) reply = refused f
unless None reply = reply

abbrev pub sent_reply : Reply Seen Failure → Reply Seen Failure
sent_reply (nothing s m) = unless (sent_refusal s) (nothing s m)
sent_reply (value n s m) = value n s m
sent_reply (exit s m) = exit s m
sent_reply (refused f) = refused f
sent_reply step_limit = step_limit

abbrev pub is_send_inline : Option Intrinsic → Bool
is_send_inline (Some (group.Sys sys.SendInline)) = true
is_send_inline _ = false

abbrev pub checked : Bool → Outcome Seen Failure → Outcome Seen Failure
checked true o = record { reply = sent_reply o.reply; left = o.left }
checked false o = o

-- ---- the call

-- every call of a run, as a pure function of what the run sees
unfoldable pub call : HostMeaning Seen Failure
call s number args m left = checked (is_send_inline (intrinsic_at number)) (intrinsic (intrinsic_at number) s args m left)

-- ---- the host over the sessions beneath

-- the host as contracts see it: what a run sees; and what no call changes, of the store and which references are held, to the store and to what
-- the run has of its own
pub record HostView : Type 0 where
  pub seen : Seen
  pub base : Base
  pub holder : ℕ × ℕ

abbrev pub over : HostView → Seen → HostView
over h s = record { seen = s; base = h.base; holder = h.holder }

abbrev pub host_call : HostMeaning HostView Failure
host_call h number args m left = map_outcome (over h) (call h.seen number args m left)

-- the store, of which a run sees the newest state
abbrev pub store_of : HostView → Stack World
store_of h = record { under = h.base.under; top = h.seen.world; revision = h.base.revision; shelf = h.base.shelf }

-- ---- when a call may be made with so many steps left

-- a run may meet fewer tables than this, and fewer rows, of each kind
abbrev pub most_met : ℕ
most_met = 2147483646

pub record HasRoom (left : ℕ) (i : Iterators) : Type 0 where
  pub tables : length i.tables + left < most_met
  pub rows : length i.rows + left < most_met

-- A call takes a step, and meets one table and one row at most that it hadn't met: no list is longer than the steps paid.
pub record HaveRoom (left : ℕ) (lists : Lists) : Type 0 where
  pub rows : HasRoom left lists.rows
  pub index64 : HasRoom left lists.index64
  pub index128 : HasRoom left lists.index128
  pub index256 : HasRoom left lists.index256

pub record Allows (h : HostView) (left : ℕ) : Type 0 where
  pub room : HaveRoom left h.seen.lists
  pub ready : ReadyFor h.seen.run.mode (store_of h) h.base.writing
  pub packed : IsPacked h.seen.packed

-- ---- what stands after a call that is refused, or is refused memory

abbrev pub Leaves : HostView → HostView → Type 0
Leaves old new = (new.base ≡ old.base) × (said new.seen.run ≡ said old.seen.run) × (new.holder ≡ old.holder)

-- ---- the host and what a run sees

-- the host shows this, and holds what it held before: its calls have the replies of `call`
abbrev pub Shows : (before : HostView) → HostView → Seen → Type 0
Shows before h s = (h.seen ≡ s) × (h.base ≡ before.base) × (h.holder ≡ before.holder)
