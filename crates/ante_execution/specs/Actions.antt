-- An action with all that it causes: it runs for its account, then for each recipient in the order in which it was first named, then each
-- inline action that was sent in these runs, whole before the next.
use Rattle.std.specs.Prelude.{ℕ, zero, suc, ◌+◌, ◌-◌, Bool, true, false, List, [], ◌∷◌, ◌++◌, length, replicate, slice_get, slice_index_or, Option, None, Some, Result, Ok, Err}
use Rattle.ante_pack.specs.declared.names.Name.{Name}
use Rattle.ante_types.specs.declared.chain.Action.{Action}
use Rattle.ante_types.specs.declared.context.Mode.{Mode}
use Rattle.ante_types.specs.declared.context.RunContext.{RunContext}
use Rattle.ante_types.specs.declared.failure.Failure.{Failure}
use Rattle.ante_types.specs.declared.failure.Failure.TheVariants as failure
use Rattle.ante_types.specs.declared.trace.ActionTrace.{ActionTrace}
use Rattle.ante_types.specs.World.{World}
use Rattle.ante_calls.specs.Accounts.{no_name}
use Rattle.ante_calls.specs.Views.{Seen, no_lists}
use Rattle.ante_execution.specs.declared.jobs.Asked.{Asked}
use Rattle.ante_execution.specs.declared.jobs.Job.{Job}
use Rattle.ante_execution.specs.declared.jobs.Sender.{Sender}
use Rattle.ante_execution.specs.Runs.{Codes, Ran, runs}

-- what all runs of a transaction share
pub record Scene : Type 0 where
  pub mode : Mode
  pub slot : ℕ
  pub packed : List ℕ

-- what runs hand on, with the looks that they took
pub record Going : Type 0 where
  pub world : World
  pub left : ℕ
  pub traces : List ActionTrace
  pub looks : ℕ

-- the first failure ends the whole, and keeps the traces of the runs begun
pub record Failed : Type 0 where
  pub failure : Failure
  pub left : ℕ
  pub traces : List ActionTrace
  pub looks : ℕ

abbrev pub and_then : {A B : Type 0} → Result A Failed → (A → Result B Failed) → Result B Failed
and_then (Ok a) go = go a
and_then (Err f) go = Err f

-- ---- jobs

abbrev pub nothing_asked : Asked
nothing_asked = record { recipients = []; namers = []; inlines = []; senders = [] }

-- ---- one run

abbrev pub context_of : Scene → Action → Job → (recipients : List Name) → RunContext
context_of scene action job recipients = record {
  receiver = job.receiver;
  action = action;
  notified = job.notified;
  depth = job.depth;
  sender = job.sender;
  slot = scene.slot;
  mode = scene.mode;
  recipients = recipients;
  inlines = [];
  console = [];
  return_value = [];
}

-- each run begins with no iterators
abbrev pub first_seen : Scene → Action → Job → (recipients : List Name) → World → Seen
first_seen scene action job recipients w = record { world = w; lists = no_lists; run = context_of scene action job recipients; packed = scene.packed }

abbrev pub trace_of : Action → Job → (ordinal : ℕ) → RunContext → (steps : ℕ) → ActionTrace
trace_of action job ordinal run steps = record {
  ordinal = ordinal;
  creator = job.creator;
  receiver = job.receiver;
  account = action.account;
  name = action.name;
  bytes = action.bytes;
  console = run.console;
  return_value = run.return_value;
  steps = steps;
}

-- runs are counted from 1 in the order in which they begin
abbrev pub next_ordinal : List ActionTrace → ℕ
next_ordinal traces = length traces + 1

abbrev pub with_trace : Action → Job → Going → Ran → List ActionTrace
with_trace action job g r = g.traces ++ trace_of action job (next_ordinal g.traces) r.seen.run (g.left - r.left) ∷ []

-- those that the run named first were named by it, and what it sent is of it
abbrev pub asked_by : Job → (ordinal : ℕ) → Asked → RunContext → Asked
asked_by job ordinal a run = record {
  recipients = run.recipients;
  namers = a.namers ++ replicate (length run.recipients - length a.recipients) job.receiver;
  inlines = a.inlines ++ run.inlines;
  senders = a.senders ++ replicate (length run.inlines) (record { receiver = job.receiver; ordinal = ordinal });
}

abbrev pub gone_on : Action → Job → Going → Ran → Going
gone_on action job g r = record { world = r.seen.world; left = r.left; traces = with_trace action job g r; looks = g.looks + r.looks }

abbrev pub failed_at : Failure → Action → Job → Going → Ran → Failed
failed_at f action job g r = record { failure = f; left = r.left; traces = with_trace action job g r; looks = g.looks + r.looks }

abbrev pub after_run : Option Failure → Action → Job → Asked → Going → Ran → Result (Asked × Going) Failed
after_run None action job a g r = Ok (asked_by job (next_ordinal g.traces) a r.seen.run, gone_on action job g r)
after_run (Some f) action job a g r = Err (failed_at f action job g r)

-- ---- who runs why, and one after another

-- for the action's own account, in the run that its sender created
abbrev pub first_job : Action → Sender → (depth : ℕ) → Job
first_job action by depth = record { receiver = action.account; notified = false; depth = depth; sender = by.receiver; creator = by.ordinal }

-- a notification was sent by the run that named its receiver, and is created by the action's first run
abbrev pub notice : (depth creator : ℕ) → (name namer : Name) → Job
notice depth creator name namer = record { receiver = name; notified = true; depth = depth; sender = namer; creator = creator }

-- a recipient, and who named it
abbrev pub recipient_of : Option Name → (namer : Name) → Option (Name × Name)
recipient_of None namer = None
recipient_of (Some name) namer = Some (name, namer)

-- who sent a transaction's own action
abbrev pub nobody : Sender
nobody = record { receiver = no_name; ordinal = 0 }

-- each action with the run that sent it, whole before the next
abbrev pub in_turn : (Action → Sender → Going → Result Going Failed) → List Action → List Sender → Going → Result Going Failed
in_turn does [] senders g = Ok g
in_turn does (a ∷ actions) [] g = Ok g
in_turn does (a ∷ actions) (s ∷ senders) g = and_then (does a s g) (in_turn does actions senders)

module _ (codes : Codes) (scene : Scene) where
  unfoldable pub run_one : Action → Job → Asked → Going → Result (Asked × Going) Failed
  run_one action job a g = let r = runs codes (first_seen scene action job a.recipients g.world) g.left in after_run r.failure action job a g r

  -- ---- recipients

  module _ (action : Action) (depth creator : ℕ) where
    abbrev pub notify_at : Option (Name × Name) → Asked × Going → (Asked × Going → Result (Asked × Going) Failed) → Result (Asked × Going) Failed
    notify_at None x go = Ok x
    notify_at (Some r) x go = and_then (run_one action (notice depth creator r.0 r.1) x.0 x.1) go

    -- from the recipient at this place on, at most so many: each run takes a step, so one more than the steps left is never met
    abbrev pub notify : (most place : ℕ) → Asked × Going → Result (Asked × Going) Failed
    notify zero place x = Ok x
    notify (suc most) place x = notify_at (recipient_of (slice_get x.0.recipients place) (slice_index_or x.0.namers place no_name)) x (notify most (suc place))

  -- ---- the whole, with what an inline action does as a parameter

  -- all runs of the action, and then what they sent
  abbrev pub causes : (inner : Action → Sender → Going → Result Going Failed) → (depth : ℕ) → Action → Sender → Going → Result Going Failed
  causes inner depth action by g =
      and_then (run_one action (first_job action by depth) nothing_asked g)
      (λ x. and_then (notify action depth (next_ordinal g.traces) (suc x.1.left) 0 x) (λ y. in_turn inner y.0.inlines y.0.senders y.1))

  -- an action at this depth, where so many depths more are free: at the last one nothing can be sent
  abbrev pub act : (free depth : ℕ) → Action → Sender → Going → Result Going Failed
  act zero depth action by g = Err (record { failure = failure.InlineDepth; left = g.left; traces = g.traces; looks = g.looks })
  act (suc free) depth action by g = causes (act free (suc depth)) depth action by g

  -- a transaction's own action: five depths, from 0 to 4
  unfoldable pub apply : Action → Going → Result Going Failed
  apply action g = act 5 0 action nobody g

  abbrev pub apply_all : List Action → Going → Result Going Failed
  apply_all [] g = Ok g
  apply_all (a ∷ actions) g = and_then (apply a g) (apply_all actions)
