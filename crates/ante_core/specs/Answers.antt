-- What a step answers, and what it leaves.
use Rattle.std.specs.Prelude.{◌≡◌, Bool, true, false, Option, Some, None, IsSome, Result, Ok, Err}
use Rattle.ante_core.specs.declared.StepError.{StepError}
use Rattle.ante_core.specs.declared.StepError.TheVariants.{OutOfMemory, NotNow}

-- A step answers its row of the table: Ok is the state that the row gives, NotNow comes exactly where there is no
-- row and changes nothing, and want of memory, where there is one, leaves the state `starved`.
abbrev pub Answers : {S E : Type 0} → Option S → S → S → S → Result E StepError → Type 0
Answers row starved old new (Ok _) = row ≡ Some new
Answers row starved old new (Err NotNow) = (row ≡ None) × (new ≡ old)
Answers row starved old new (Err OutOfMemory) = IsSome row × (new ≡ starved)

-- The same for a row that takes no memory.
abbrev pub AnswersNoMemory : {S E : Type 0} → Option S → S → S → Result E StepError → Type 0
AnswersNoMemory row old new (Ok _) = row ≡ Some new
AnswersNoMemory row old new (Err NotNow) = (row ≡ None) × (new ≡ old)
AnswersNoMemory row old new (Err OutOfMemory) = ⊥

-- whether the answer is want of memory
abbrev pub wants_memory : {E : Type 0} → Result E StepError → Bool
wants_memory (Ok _) = false
wants_memory (Err NotNow) = false
wants_memory (Err OutOfMemory) = true
