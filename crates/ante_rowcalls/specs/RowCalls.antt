-- What the code of a call on rows answers, by its arguments and the memory.
use Rattle.std.specs.Prelude.{◌≡◌, ℕ, ℤ, List, codes, Result, Ok}
use Rattle.ante_types.specs.declared.context.RunContext.{RunContext}
use Rattle.ante_types.specs.declared.failure.Failure.{Failure}
use Rattle.ante_wmem.specs.Linear.{LinearMemory}
use Rattle.ante_wmem.specs.declared.host.HostAnswer.{HostAnswer}
use Rattle.ante_wmem.specs.declared.host.HostAnswer.TheVariants as answer
use Rattle.ante_wmem.specs.HostCalls.{Reply, Outcome, IsAnswer}
use Rattle.ante_calls.specs.declared.faults.DbFault.{DbFault}
use Rattle.ante_calls.specs.declared.faults.DbFault.TheVariants as fault
use Rattle.ante_calls.specs.Calls.{arg, name_arg}
use Rattle.ante_calls.specs.Kinds.{primary_kind}
use Rattle.ante_calls.specs.PrimaryCalls.{gives}
use Rattle.ante_calls.specs.RowAnswers.{IsRowAnswer}
use Rattle.ante_calls.specs.RowReplies.{failure_of, answered, iterator_alone}
use Rattle.ante_calls.specs.Rows.{store}
use Rattle.ante_calls.specs.Views.{RowView}

-- The answer of a call from one view to another. A call that goes no further leaves the view as it was.
abbrev pub AnswersRow : Outcome RowView Failure → HostAnswer Failure → (old new : RowView) → LinearMemory → (left : ℕ) → Type 0
AnswersRow outcome result old new m left = IsAnswer outcome (λ a v. v ≡ old) result new m left

-- the failure that the fault of a call of this name shows as, or want of memory
abbrev pub ShowsFault : (name : List ℕ) → DbFault → HostAnswer Failure → Type 0
ShowsFault name f (answer.Refused r) = (f ≡ fault.OutOfMemory → ⊥) × (r ≡ failure_of name f)
ShowsFault name f answer.OutOfMemory = Unit {0}
ShowsFault name f (answer.Value n) = ⊥
ShowsFault name f answer.Nothing = ⊥
ShowsFault name f answer.Exit = ⊥
ShowsFault name f answer.StepLimit = ⊥

-- what a search found, which is never refused
abbrev pub ShowsFound : Result ℤ DbFault → HostAnswer Failure → Type 0
ShowsFound found result = (r : ℤ × RowView) (old new : RowView) (m : LinearMemory) (left : ℕ) →
    IsRowAnswer (λ a. a) (Ok r) found old new → AnswersRow (gives m left r) result old new m left

-- what storing these bytes replies, once they are paid
abbrev pub stored_with : RunContext → (args bytes : List ℕ) → LinearMemory → RowView → Reply RowView Failure
stored_with run args bytes m v =
    answered (codes "db_store_i64") (store primary_kind run (name_arg args 0) (name_arg args 1) (name_arg args 2) (arg args 3) bytes v) (iterator_alone m)
