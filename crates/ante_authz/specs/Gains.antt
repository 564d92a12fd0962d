-- What the parts of the check answer.
use Rattle.std.specs.Prelude.{◌≡◌, ℕ, Option, None, Some, Result, Ok, Err}
use Rattle.ante_pack.specs.declared.fault.PackFault.{PackFault}
use Rattle.ante_pack.specs.declared.names.Name.{Name}
use Rattle.ante_execution.specs.declared.ends.AuthFault.{AuthFault}
use Rattle.ante_execution.specs.declared.ends.AuthFault.TheVariants as auth
use Rattle.ante_execution.specs.NativeData.{UpdateAuth, DeleteAuth}
use Rattle.ante_execution.specs.declared.kinds.Weighed.{Weighed}
use Rattle.ante_execution.specs.declared.kinds.Weighed.TheVariants as weighed

-- what a permission that was looked at adds: its weight where it is satisfied
abbrev pub gained : Weighed → (weight : ℕ) → Option ℕ
gained weighed.Yes weight = Some weight
gained weighed.No weight = Some 0
gained weighed.Spent weight = None

-- the permission that the data of `updateauth` is about, and its parent
abbrev pub names_updated : Result UpdateAuth PackFault → Result (Name × Name) PackFault
names_updated (Ok d) = Ok (d.permission, d.parent)
names_updated (Err fault) = Err fault

-- the permission that the data of `deleteauth` is about
abbrev pub name_deleted : Result DeleteAuth PackFault → Result Name PackFault
name_deleted (Ok d) = Ok d.permission
name_deleted (Err fault) = Err fault

-- the name, or want of memory and no other fault
abbrev pub GivesName : Name → Result Name AuthFault → Type 0
GivesName name (Ok found) = found ≡ name
GivesName name (Err fault) = fault ≡ auth.OutOfMemory
