-- What the parts of a whole run answer.
use Rattle.std.specs.Prelude.{◌≡◌, ℕ, true, false, Option, None, Some, Result, Ok, Err}
use Rattle.std.specs.declared.alloc.AllocError.{AllocError}
use Rattle.ante_wtree.specs.Trees.{Tree}
use Rattle.ante_wmeaning.specs.declared.ends.RunEnd.TheVariants as end
use Rattle.ante_wrun.specs.declared.instance.Instance.{Instance}
use Rattle.ante_wrun.specs.declared.machine.Called.{Called}
use Rattle.ante_wrun.specs.declared.machine.Called.TheVariants as called
use Rattle.ante_wmeaning.specs.Environment.{Environment}
use Rattle.ante_wmeaning.specs.Configurations.{Outcome, Normal}
use Rattle.ante_wvalues.specs.PlainSteps.{values_of}
use Rattle.ante_wrun.specs.ThreadStates.{state_of}
use Rattle.ante_wrun.specs.Control.{program_of}
use Rattle.ante_wmeaning.specs.Environment.{Wanting}
use Rattle.ante_wmeaning.specs.RunEnds.{Remainder, Ends, Lacking}
use Rattle.ante_wmeaning.specs.Instantiation.{segments_fit, program_in, first_values}

-- the module's instance, or none where a segment doesn't fit
abbrev pub IsInstance : Tree → Option Instance → Type 0
IsInstance m None = segments_fit m ≡ false
IsInstance m (Some i) = (segments_fit m ≡ true) × (program_of i.functions ≡ program_in m) × (values_of i.data ≡ first_values m)

-- a fact for a call that returned
abbrev pub OnReturn : {R : Type 0} → Called R → Type 0 → Type 0
OnReturn (called.Returned d) P = P
OnReturn (called.Ended e) P = Unit {0}

-- a call from outside, from its outcome
abbrev pub CallLeads : {W R : Type 0} → (stands : Remainder W R) → Outcome W R → Result (Called R) AllocError → W → (left last : ℕ) → Environment → Type 0
CallLeads stands o (Ok (called.Returned d)) w left last environment = o ≡ Normal (state_of d w left last environment)
CallLeads stands o (Ok (called.Ended e)) w left last environment = Ends stands e w left environment o × (e ≡ end.Done → ⊥)
CallLeads stands o (Err e) w left last environment = Wanting environment → Lacking stands w left environment o
