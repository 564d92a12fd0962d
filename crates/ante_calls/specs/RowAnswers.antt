-- What the code of a call on rows answers, beside its definition.
use Rattle.std.specs.Prelude.{◌≡◌, ℤ, Result, Ok, Err}
use Rattle.ante_undo.specs.Stack.{Stack}
use Rattle.ante_pack.specs.declared.names.Name.{Name}
use Rattle.ante_pack.specs.declared.names.TableKey.{TableKey}
use Rattle.ante_types.specs.World.{World}
use Rattle.ante_itercache.specs.Iterators.{Iterators}
use Rattle.ante_calls.specs.declared.faults.DbFault.{DbFault}
use Rattle.ante_calls.specs.declared.faults.DbFault.TheVariants as fault
use Rattle.ante_calls.specs.Rows.{Answer}
use Rattle.ante_calls.specs.Views.{RowView}

-- The definition is refused with this fault. Memory may be wanting whatever it answers.
abbrev pub IsFaultOf : {X : Type 0} → Result X DbFault → DbFault → Type 0
IsFaultOf answer fault.OutOfMemory = Unit {0}
IsFaultOf answer (fault.BadIterator it) = answer ≡ Err (fault.BadIterator it)
IsFaultOf answer (fault.KeyExists primary) = answer ≡ Err (fault.KeyExists primary)
IsFaultOf answer (fault.NotOwner code) = answer ≡ Err (fault.NotOwner code)
IsFaultOf answer (fault.BadPayer account) = answer ≡ Err (fault.BadPayer account)
IsFaultOf answer (fault.UnknownAccount name) = answer ≡ Err (fault.UnknownAccount name)
IsFaultOf answer fault.WriteRefused = answer ≡ Err fault.WriteRefused
IsFaultOf answer fault.RamTotal = answer ≡ Err fault.RamTotal

-- Where the call gives something, so does its definition, with the view after it (`shown` is what contracts see of it). After every fault, want of
-- memory too, the view is as before.
abbrev pub IsRowAnswer : {A B : Type 0} → (shown : A → B) → Answer B → Result A DbFault → (old new : RowView) → Type 0
IsRowAnswer shown answer (Ok a) old new = answer ≡ Ok (shown a, new)
IsRowAnswer shown answer (Err f) old new = IsFaultOf answer f × (new ≡ old)

-- ---- over the store and the iterators that a call is lent

abbrev pub view_of : Stack World → Iterators → RowView
view_of s iters = record { world = s.top; iters = iters }

-- the call answers as its definition does
abbrev pub Answers : {A B : Type 0} → (shown : A → B) → (does : RowView → Answer B) → Result A DbFault → (old new : Stack World) → (met now : Iterators) → Type 0
Answers shown does result old new met now = IsRowAnswer shown (does (view_of old met)) result (view_of old met) (view_of new now)

abbrev pub Gives : {A : Type 0} → (does : RowView → Answer A) → Result A DbFault → (old new : Stack World) → (met now : Iterators) → Type 0
Gives does result old new met now = Answers (λ a. a) does result old new met now

-- the same of a definition that never refuses
abbrev pub Finds : (does : RowView → ℤ × RowView) → Result ℤ DbFault → (old new : Stack World) → (met now : Iterators) → Type 0
Finds does result old new met now = Gives (λ v. Ok (does v)) result old new met now

-- the table that three names stand for
abbrev pub table_of : (code scope table : Name) → TableKey
table_of code scope table = record { code = code; scope = scope; table = table }
