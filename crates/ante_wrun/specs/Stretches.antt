-- What a stretch of instructions leads to that no look interrupts and that wants no memory.
use Rattle.std.specs.Prelude.{◌≡◌, ℕ, zero, suc, List, [], ◌∷◌, replicate, Option, None, Some}
use denote.Bor.{Bor}
use Rattle.ante_wmem.specs.Linear.{LinearMemory}
use Rattle.ante_wmem.specs.HostCalls.{HostMeaning}
use Rattle.ante_wtree.specs.declared.instructions.Instr.{Instr}
use Rattle.ante_wtree.specs.Expressions.{Expression}
use Rattle.ante_wvalues.specs.declared.data.Data.{Data}
use Rattle.ante_wmeaning.specs.declared.ends.TrapKind.{TrapKind}
use Rattle.ante_wmeaning.specs.declared.ends.RunEnd.TheVariants as end
use Rattle.ante_wrun.specs.declared.blocks.Frame.{Frame}
use Rattle.ante_wrun.specs.declared.blocks.Frame.TheVariants as frame
use Rattle.ante_wrun.specs.declared.thread.Thread.{Thread}
use Rattle.ante_wrun.specs.declared.stretch.Moved.{Moved}
use Rattle.ante_wrun.specs.declared.stretch.Moved.TheVariants as moved
use Rattle.ante_wmeaning.specs.Environment.{Environment, Event, Supplied, Begins, past}
use Rattle.ante_wmeaning.specs.Configurations.{Program, State, Outcome}
use Rattle.ante_wmeaning.specs.Execution.{acts, call}
use Rattle.ante_wvalues.specs.FrameValues.{FrameValues}
use Rattle.ante_wvalues.specs.PlainSteps.{values_in}
use Rattle.ante_wrun.specs.ThreadStates.{state_of, under, goes, going}
use Rattle.ante_wmeaning.specs.RunEnds.{Stops, NotStuck}

-- the state of these parts, where the instruction executed last took one step
abbrev pub stepping : {W : Type 0} → FrameValues → (globals : List ℕ) → LinearMemory → W → (left : ℕ) → Environment → State W
stepping v globals memory w left environment =
    record { values = values_in v globals memory; world = w; left = left; last = suc left; environment = environment }

-- some number of instructions had the memory that they wanted, and nothing else was asked of the environment
abbrev pub WithoutLooks : (List Event → Type 0) → Type 0
WithoutLooks holds = (n : ℕ) × holds (replicate n Supplied)

-- this holds of each environment that begins so, and of what it is afterwards
abbrev pub ThroughoutQuiet : (Environment → Environment → Type 0) → Type 0
ThroughoutQuiet holds = WithoutLooks (λ events. (before : Environment) → Begins before events → holds before (past before events))

-- the code and the open bodies may be exchanged: the whole has the same outcome
abbrev pub SameFrom : {W R : Type 0} → HostMeaning W R → List Frame → List Instr → List Frame → List Instr → Type 0
SameFrom {W} host frames code frames' code' =
    (program : Program) (free : ℕ) (v : FrameValues) (s : State W) → goes host program free frames code v s ≡ goes host program free frames' code' v s

-- a block or a loop
abbrev pub IsInner : Frame → Type 0
IsInner (frame.Block kind height rest) = Unit {0}
IsInner (frame.Loop height body rest) = Unit {0}
IsInner (frame.Call kind base locals free rest) = ⊥

-- the label of this depth is the function's own: the first open call's
abbrev pub IsOwnLabel : List Frame → (depth : ℕ) → Type 0
IsOwnLabel [] depth = ⊥
IsOwnLabel (frame.Block kind height rest ∷ frames) zero = ⊥
IsOwnLabel (frame.Block kind height rest ∷ frames) (suc depth) = IsOwnLabel frames depth
IsOwnLabel (frame.Loop height body rest ∷ frames) zero = ⊥
IsOwnLabel (frame.Loop height body rest ∷ frames) (suc depth) = IsOwnLabel frames depth
IsOwnLabel (frame.Call kind base locals free rest ∷ frames) zero = Unit {0}
IsOwnLabel (frame.Call kind base locals free rest ∷ frames) (suc depth) = ⊥

module _ {W R : Type 0} (host : HostMeaning W R) (program : Program) (free : ℕ) (frames : List Frame) where
  -- a branch that was made, or none
  abbrev pub BranchLeads : Outcome W R → Option (Bor (List Instr)) → FrameValues → State W → Type 0
  BranchLeads o None v s = Unit {0}
  BranchLeads o (Some code) v s = o ≡ goes host program free frames code.now v s

  -- one instruction, or none
  abbrev pub MoveLeads : Outcome W R → Moved → FrameValues → State W → Type 0
  MoveLeads o (moved.To code) v s = o ≡ goes host program free frames code.now v s
  MoveLeads o (moved.Trap kind) v s = Stops (end.Trap kind) s.world s.left s.environment o
  MoveLeads o moved.Stays v s = Unit {0}

  -- a whole stretch
  abbrev pub CodeLeads : Outcome W R → Option TrapKind → List Instr → FrameValues → State W → Type 0
  CodeLeads o None code v s = o ≡ goes host program free frames code v s
  CodeLeads o (Some kind) code v s = Stops (end.Trap kind) s.world s.left s.environment o

module _ {W R : Type 0} (host : HostMeaning W R) (program : Program) where
  -- the outcome of the whole from this code on, with these values, and so many steps left
  abbrev pub going_with : (free : ℕ) → List Frame → List Instr → FrameValues → (globals : List ℕ) → LinearMemory → W → (left : ℕ) → Environment → Outcome W R
  going_with free frames code v globals memory w left environment = goes host program free frames code v (stepping v globals memory w left environment)

  -- the same, from the outcome of the whole before it
  abbrev pub StretchLeads : Outcome W R → Option TrapKind → Thread → W → (left last : ℕ) → Environment → Type 0
  StretchLeads o None t w left last environment = o ≡ going host program t (state_of t.state w left last environment)
  StretchLeads o (Some kind) t w left last environment = Stops (end.Trap kind) w left environment o

-- ---- an instruction that stays within its function

-- a rule applies to what the code begins with: some run that goes on from here isn't stuck
abbrev pub HasRule : {W R : Type 0} → HostMeaning W R → Expression → FrameValues → List Frame → Type 0
HasRule {W} host code v frames = (program : Program) × (w : W) × (free : ℕ) × (left : ℕ) × (last : ℕ) × (environment : Environment) × (d : Data) ×
    NotStuck (under host program free v.below frames (acts program (call host program free) code (state_of (record d { values = v }) w left last environment)))

-- it leads from these values and open bodies to those, and to the code that is next; or it isn't done
abbrev pub Within : {W R : Type 0} → HostMeaning W R → Expression → FrameValues → List Frame → Option (Bor (List Instr)) → FrameValues → List Frame → Type 0
Within {W} host code v frames next v' frames' = (program : Program) (w : W) (free left last : ℕ) (environment : Environment) (d : Data) →
    let before = state_of (record d { values = v }) w left last environment in
    BranchLeads host program free frames' (under host program free v.below frames (acts program (call host program free) code before))
    next v' (state_of (record d { values = v' }) w left last environment)
