-- What the machine's parts stand for.
use Rattle.std.specs.Prelude.{◌≡◌, ℕ, zero, suc, ◌+◌, ◌≤◌, List, [], ◌∷◌, length, take, drop, reverse, Option, None, Some}
use denote.Bor.{Bor}
use Rattle.ante_wmem.specs.HostCalls.{HostMeaning}
use Rattle.ante_wtree.specs.declared.instructions.Instr.{Instr}
use Rattle.ante_wtree.specs.Expressions.{Expression, expression_of, cons}
use Rattle.ante_wvalues.specs.declared.data.Data.{Data}
use Rattle.ante_wrun.specs.declared.blocks.Frame.{Frame}
use Rattle.ante_wrun.specs.declared.blocks.Frame.TheVariants as frame
use Rattle.ante_wrun.specs.declared.thread.Thread.{Thread}
use Rattle.ante_wmeaning.specs.Environment.{Environment}
use Rattle.ante_wmeaning.specs.Configurations.{Program, State, Outcome, Normal}
use Rattle.ante_wmeaning.specs.Arities.{arity}
use Rattle.ante_wmeaning.specs.Execution.{and_then, acts, does, call}
use Rattle.ante_wvalues.specs.FrameValues.{FrameValues}
use Rattle.ante_wvalues.specs.PlainSteps.{values_of}
use Rattle.ante_wrun.specs.Frames.{Open, InBlock, InLoop, InCall, unwind}

-- ---- frames

abbrev pub state_of : {W : Type 0} → Data → W → (left last : ℕ) → Environment → State W
state_of d w left last environment = record { values = values_of d; world = w; left = left; last = last; environment = environment }

-- the open bodies over the values that lie below the current frame's
abbrev pub opens : List ℕ → List Frame → List Open
opens below [] = []
opens below (frame.Block kind height rest ∷ frames) = InBlock kind height (expression_of rest.now) ∷ opens below frames
opens below (frame.Loop height body rest ∷ frames) = InLoop height (expression_of body.now) (expression_of rest.now) ∷ opens below frames
opens below (frame.Call kind base locals free rest ∷ frames) =
    InCall kind (take locals (drop base below)) (reverse (drop locals (drop base below))) free (expression_of rest.now) ∷ opens (take base below) frames

-- The locals of each open call's caller lie within the values that lie below the call's own.
abbrev pub Nested : (below : ℕ) → List Frame → Type 0
Nested below [] = Unit {0}
Nested below (frame.Block kind height rest ∷ frames) = Nested below frames
Nested below (frame.Loop height body rest ∷ frames) = Nested below frames
Nested below (frame.Call kind base locals free rest ∷ frames) = (base + locals ≤ below) × Nested base frames

-- a thread's open calls, over the values below its own
abbrev pub IsNested : Thread → Type 0
IsNested t = Nested (length t.state.values.below) t.frames

-- ---- what a thread has, so that a rule applies

-- A branch to this depth finds its label, and as many operands as this wants: those that were there, and the results.
abbrev pub Reaches : List Frame → (depth : ℕ) → (count : ℕ) → Type 0
Reaches [] depth count = ⊥
Reaches (frame.Block kind height rest ∷ frames) zero count = height + arity kind ≤ count
Reaches (frame.Block kind height rest ∷ frames) (suc depth) count = Reaches frames depth count
Reaches (frame.Loop height body rest ∷ frames) zero count = height ≤ count
Reaches (frame.Loop height body rest ∷ frames) (suc depth) count = Reaches frames depth count
Reaches (frame.Call kind base locals free rest ∷ frames) zero count = arity kind ≤ count
Reaches (frame.Call kind base locals free rest ∷ frames) (suc depth) count = ⊥

-- a return finds the function's frame and results
abbrev pub Returns : List Frame → (count : ℕ) → Type 0
Returns [] count = ⊥
Returns (frame.Block kind height rest ∷ frames) count = Returns frames count
Returns (frame.Loop height body rest ∷ frames) count = Returns frames count
Returns (frame.Call kind base locals free rest ∷ frames) count = arity kind ≤ count

-- a body that ends leaves its function's results
abbrev pub Gives : Frame → (count : ℕ) → Type 0
Gives (frame.Block kind height rest) count = Unit {0}
Gives (frame.Loop height body rest) count = Unit {0}
Gives (frame.Call kind base locals free rest) count = arity kind ≤ count

module _ {W R : Type 0} (host : HostMeaning W R) (program : Program) where
  abbrev pub under : (free : ℕ) → (below : List ℕ) → List Frame → Outcome W R → Outcome W R
  under free below frames o = unwind host program free (opens below frames) o

  -- the outcome of the whole, where this is the innermost body's
  abbrev pub whole : Thread → Outcome W R → Outcome W R
  whole t o = under t.free t.state.values.below t.frames o

  -- what the rest of the innermost body does
  abbrev pub rest_of : Thread → State W → Outcome W R
  rest_of t s = does program (call host program t.free) (expression_of t.code.now) s

  -- the outcome of the whole from this code on, which is the rest of the innermost body
  abbrev pub goes : (free : ℕ) → List Frame → List Instr → FrameValues → State W → Outcome W R
  goes free frames code v s = under free v.below frames (does program (call host program free) (expression_of code) s)

  -- the outcome of the whole from here on
  abbrev pub going : Thread → State W → Outcome W R
  going t s = goes t.free t.frames t.code.now t.state.values s

  -- the same, where the host is this, and so many steps are left
  abbrev pub going_over : Thread → W → (left last : ℕ) → Environment → Outcome W R
  going_over t w left last environment = going t (state_of t.state w left last environment)

  -- the outcome of the whole, where this is left of the innermost body, and the step of its first instruction is paid
  abbrev pub whole_acts : Thread → Expression → W → (left last : ℕ) → Environment → Outcome W R
  whole_acts t code w left last environment = whole t (acts program (call host program t.free) code (state_of t.state w left last environment))

  -- the outcome of the whole, where this is that of the instruction before the rest
  abbrev pub after : Thread → Outcome W R → Outcome W R
  after t o = whole t (and_then o (rest_of t))

  -- the instruction that is next, with the rest after it
  abbrev pub Finds : Outcome W R → Option (Bor Instr) → Thread → State W → Type 0
  Finds o None t s = o ≡ Normal s
  Finds o (Some i) t s = o ≡ whole t (does program (call host program t.free) (cons i.now (expression_of t.code.now)) s)
