-- What all runs of a transaction share, and what one more run makes of what was asked for.
use Rattle.std.specs.Prelude.{ℕ, ◌-◌, Bool, true, false, List, ◌++◌, length, replicate}
use Rattle.ante_pack.specs.declared.names.Name.{Name}
use Rattle.ante_types.specs.declared.chain.Action.{Action}
use Rattle.ante_types.specs.declared.context.Mode.{Mode}
use Rattle.ante_types.specs.declared.context.Mode.TheVariants as mode
use Rattle.ante_types.specs.declared.trace.ActionTrace.{ActionTrace}
use Rattle.ante_execution.specs.Actions as actions
use Rattle.ante_execution.specs.declared.jobs.Asked.{Asked}
use Rattle.ante_execution.specs.declared.jobs.Job.{Job}
use Rattle.ante_apply.specs.declared.scene.Scene.{Scene}

abbrev pub scene_of : Scene → actions.Scene
scene_of s = record { mode = s.mode; slot = s.slot; packed = s.packed.now }

abbrev pub scene_with : Mode → (slot : ℕ) → (packed : List ℕ) → actions.Scene
scene_with mode slot packed = record { mode = mode; slot = slot; packed = packed }

-- tables that may be written to are given to runs that write
abbrev pub mode_of : (writing : Bool) → Mode
mode_of true = mode.Writing
mode_of false = mode.Reading

-- what was asked for, after a run that began with so many recipients and ended with these, and sent these actions
abbrev pub asked_after : Job → (ordinal had : ℕ) → Asked → (recipients : List Name) → (inlines : List Action) → Asked
asked_after job ordinal had a recipients inlines = record {
  recipients = recipients;
  namers = a.namers ++ replicate (length recipients - had) job.receiver;
  inlines = a.inlines ++ inlines;
  senders = a.senders ++ replicate (length inlines) (record { receiver = job.receiver; ordinal = ordinal });
}

-- the trace of a run that said this
abbrev pub said_trace : Action → Job → (ordinal : ℕ) → List ℕ × List ℕ → (steps : ℕ) → ActionTrace
said_trace action job ordinal said steps = record {
  ordinal = ordinal;
  creator = job.creator;
  receiver = job.receiver;
  account = action.account;
  name = action.name;
  bytes = action.bytes;
  console = said.0;
  return_value = said.1;
  steps = steps;
}
