-- One run of an action: its steps, the native action first, and then the code of its receiver.
use Rattle.std.specs.Prelude.{◌≡◌, ℕ, ◌+◌, ◌-◌, ◌==◌, nat_lt, Bool, true, false, List, [], ◌∷◌, length, Option, None, Some, Result, Ok, Err, if◌then◌else◌}
use Rattle.ante_pack.specs.declared.names.Name.{Name}
use Rattle.ante_state.specs.declared.objects.AccountRow.{AccountRow}
use Rattle.ante_types.specs.declared.context.RunContext.{RunContext}
use Rattle.ante_types.specs.declared.failure.Failure.{Failure}
use Rattle.ante_types.specs.declared.failure.Failure.TheVariants as failure
use Rattle.ante_types.specs.World.{World}
use Rattle.ante_calls.specs.Accounts.{account_at}
use Rattle.ante_calls.specs.Views.{Seen, said}
use Rattle.ante_execution.specs.declared.kinds.NativeAction.{NativeAction}
use Rattle.ante_execution.specs.declared.kinds.NativeAction.TheVariants as native
use Rattle.ante_execution.specs.Native.{native_of_run, native_steps, native_run}

-- how a run came out: why it failed, if it did, what it sees then, the steps left, and how many looks at the stop it took; after a failure only
-- what it said counts
pub record Ran : Type 0 where
  pub failure : Option Failure
  pub seen : Seen
  pub left : ℕ
  pub looks : ℕ

-- with no look: only code looks
abbrev pub fine : Seen → ℕ → Ran
fine s left = record { failure = None; seen = s; left = left; looks = 0 }

abbrev pub fails : Failure → Seen → ℕ → Ran
fails f s left = record { failure = Some f; seen = s; left = left; looks = 0 }

-- What code does, by its bytes: whether it decodes and is valid, the pages of memory that it begins with, and what running it makes of what
-- a run sees, as the interpreter's meaning has it where nothing disturbs the run.
pub record Codes : Type 0 where
  pub accepts : List ℕ → Bool
  pub pages : List ℕ → ℕ
  pub runs : (code : List ℕ) → (args : List ℕ) → Seen → (left : ℕ) → Ran

-- ---- steps

-- so many steps are paid; where they don't fit, all that was left counts as used
abbrev pub paid : (steps left : ℕ) → Seen → (ℕ → Ran) → Ran
paid steps left s go = if nat_lt left steps then fails failure.StepLimit s 0 else go (left - steps)

abbrev pub code_of : Option AccountRow → List ℕ
code_of None = []
code_of (Some row) = row.code

abbrev pub code_at : Name → World → List ℕ
code_at name w = code_of (account_at name w)

-- ---- code

-- `apply` is given the receiver, the action's account and the action's name
abbrev pub arguments : RunContext → List ℕ
arguments run = run.receiver.0 ∷ run.action.account.0 ∷ run.action.name.0 ∷ []

-- ---- native actions

abbrev pub is_setcode : NativeAction → Bool
is_setcode native.SetCode = true
is_setcode native.NewAccount = false
is_setcode native.SetAbi = false
is_setcode native.UpdateAuth = false
is_setcode native.DeleteAuth = false
is_setcode native.LinkAuth = false
is_setcode native.UnlinkAuth = false

abbrev pub in_world : World → Seen → Seen
in_world w s = record { world = w; lists = s.lists; run = s.run; packed = s.packed }

module _ (codes : Codes) where
  -- a run begins with a step, and the pages of the code that its receiver has then
  abbrev pub first_steps : (code : List ℕ) → ℕ
  first_steps code = if length code == 0 then 1 else (1 + codes.pages code)

  -- an account without code does nothing
  abbrev pub code_runs : (code : List ℕ) → Seen → (left : ℕ) → Ran
  code_runs code s left = if length code == 0 then fine s left else codes.runs code (arguments s.run) s left

  -- the code that the receiver has now
  abbrev pub receiver_runs : Seen → (left : ℕ) → Ran
  receiver_runs s left = code_runs (code_at s.run.receiver s.world) s left

  -- ---- the native action

  -- then the code runs, except after setcode
  abbrev pub native_done : NativeAction → Result World Failure → Seen → (left : ℕ) → Ran
  native_done n (Err f) s left = fails f s left
  native_done n (Ok w) s left = if is_setcode n then fine (in_world w s) left else receiver_runs (in_world w s) left

  abbrev pub begun : Option NativeAction → Seen → (left : ℕ) → Ran
  begun None s left = receiver_runs s left
  begun (Some n) s left = paid (native_steps n s.run) left s (λ rest. native_done n (native_run codes.accepts s.run s.world n) s rest)

  -- ---- the whole

  unfoldable pub runs : Seen → (left : ℕ) → Ran
  runs s left = paid (first_steps (code_at s.run.receiver s.world)) left s (λ rest. begun (native_of_run s.run) s rest)

-- ---- what the code of a run answers, after so many looks: how the run came out; after a failure what it had said

abbrev pub HasRun : Ran → Option Failure → Seen → (left looks : ℕ) → Type 0
HasRun r None s left looks = r ≡ record { failure = None; seen = s; left = left; looks = looks }
HasRun r (Some f) s left looks = (r.failure ≡ Some f) × (said r.seen.run ≡ said s.run) × (r.left ≡ left) × (r.looks ≡ looks)
