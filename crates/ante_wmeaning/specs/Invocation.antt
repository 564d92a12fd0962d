-- A whole run of a module, from outside: sections 4.5.4 and 4.5.5 of WebAssembly Core 1.0. Its start function is called, and then `apply`.
use Rattle.std.specs.Prelude.{ℕ, Bool, true, false, List, [], reverse, Option, None, Some}
use Rattle.ante_wmem.specs.HostCalls.{HostMeaning}
use Rattle.ante_wtree.specs.Limits.{most_frames}
use Rattle.ante_wtree.specs.Trees.{Tree}
use Rattle.ante_wmeaning.specs.declared.ends.TrapKind.TheVariants as trap
use Rattle.ante_wmeaning.specs.declared.ends.RunEnd.TheVariants as end
use Rattle.ante_wmeaning.specs.Environment.{Environment}
use Rattle.ante_wmeaning.specs.Configurations.{Program, State, Outcome, Normal, Ended, Stuck}
use Rattle.ante_wmeaning.specs.Execution.{supplied, and_then, invoked}
use Rattle.ante_wmeaning.specs.Instantiation.{segments_fit, program_in, first_values, apply_in}

module _ {W : Type 0} where
  -- the state in which a function is called from outside
  abbrev pub with_arguments : List ℕ → State W → State W
  with_arguments args s = record s { values = record s.values { locals = []; stack = reverse args } }

  -- the state in which a run begins: no instruction comes before its first, so there is no look before that
  abbrev pub outset_of : Tree → W → (left : ℕ) → Environment → State W
  outset_of m w left environment = record { values = first_values m; world = w; left = left; last = left; environment = environment }

module _ {W R : Type 0} where
  abbrev pub where_fit : Bool → (State W → Outcome W R) → State W → Outcome W R
  where_fit true go s = go s
  where_fit false go s = Ended (end.Trap trap.OutOfBounds) s

module _ {W R : Type 0} (host : HostMeaning W R) (program : Program) where
  abbrev pub called_with : List ℕ → ℕ → State W → Outcome W R
  called_with args f s = invoked host program most_frames f (with_arguments args s)

  abbrev pub start_runs : Option ℕ → State W → Outcome W R
  start_runs None s = Normal s
  start_runs (Some f) s = called_with [] f s

  abbrev pub apply_runs : Option ℕ → List ℕ → State W → Outcome W R
  apply_runs None args s = Stuck
  apply_runs (Some f) args s = called_with args f s

  -- What the start function ends, is ended. What it leaves, `apply` finds.
  abbrev pub both_run : Tree → List ℕ → State W → Outcome W R
  both_run m args s = and_then (start_runs m.start s) (apply_runs (apply_in m) args)

-- The whole run. Memory may be wanted for the instance, before anything else.
abbrev pub run_of : {W R : Type 0} → HostMeaning W R → Tree → (args : List ℕ) → W → (left : ℕ) → Environment → Outcome W R
run_of host m args w left environment =
    supplied (environment.item_lacks environment.items) (outset_of m w left environment) (where_fit (segments_fit m) (both_run host (program_in m) m args))
