-- What the code of a call answers, by what it is lent of what its run sees.
use Rattle.std.specs.Prelude.{◌≡◌, ℕ, List}
use Rattle.ante_types.specs.World.{World}
use Rattle.ante_types.specs.declared.context.RunContext.{RunContext}
use Rattle.ante_types.specs.declared.failure.Failure.{Failure}
use Rattle.ante_wmem.specs.Linear.{LinearMemory}
use Rattle.ante_wmem.specs.declared.host.HostAnswer.{HostAnswer}
use Rattle.ante_wmem.specs.HostCalls.{Outcome, IsAnswer}
use Rattle.ante_calls.specs.Calls.{replies}
use Rattle.ante_calls.specs.Console.{prints_text}
use Rattle.ante_calls.specs.Views.{SysView, said}

abbrev pub view : World → RunContext → SysView
view w run = record { world = w; run = run }

-- The answer of a call from one view to another. A run that goes no further has said what it had said before.
abbrev pub Answers : (SysView → Outcome SysView Failure) → HostAnswer Failure → (old new : SysView) → LinearMemory → (left : ℕ) → Type 0
Answers call answer old new m left = IsAnswer (call old) (λ a v. said v.run ≡ said old.run) answer new m left

-- a call that is lent nothing of what its run sees, and leaves it as it is
abbrev pub Tells : (SysView → Outcome SysView Failure) → HostAnswer Failure → LinearMemory → (left : ℕ) → Type 0
Tells call answer m left = (v : SysView) → Answers call answer v v m left

-- a call that is lent its run alone
abbrev pub Says : (SysView → Outcome SysView Failure) → HostAnswer Failure → (old new : RunContext) → LinearMemory → (left : ℕ) → Type 0
Says call answer old new m left = (w : World) → Answers call answer (view w old) (view w new) m left

-- a call that prints these bytes
abbrev pub Prints : (more : List ℕ) → HostAnswer Failure → (old new : RunContext) → Type 0
Prints more answer old new = (m : LinearMemory) (left : ℕ) → Says (λ v. replies (prints_text more v m) left) answer old new m left
