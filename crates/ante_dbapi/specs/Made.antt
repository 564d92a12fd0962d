-- What a call that writes does, once nothing but the state can refuse it.
use Rattle.std.specs.Prelude.{◌≡◌, ℕ, ℤ, List, Result, Ok, Err}
use Rattle.ante_pack.specs.declared.names.Name.{Name}
use Rattle.ante_pack.specs.declared.names.TableKey.{TableKey}
use Rattle.ante_types.specs.World.{World}
use Rattle.ante_store.specs.declared.change.Change.{Change}
use Rattle.ante_store.specs.declared.change.Change.TheVariants as change
use Rattle.ante_calls.specs.declared.faults.DbFault.{DbFault}
use Rattle.ante_calls.specs.declared.faults.DbFault.TheVariants as fault
use Rattle.ante_calls.specs.Kinds.{primary_kind}
use Rattle.ante_calls.specs.RowAnswers.{IsFaultOf}
use Rattle.ante_calls.specs.Rows.{Answer, then_do, make, stored}
use Rattle.ante_calls.specs.Views.{RowView}

-- the change was made, or the state didn't take it and is as before
abbrev pub Makes : (misplaced : DbFault) → Change → Result (Unit {0}) DbFault → (old new : World) → Type 0
Makes misplaced c (Ok done) old new = make misplaced c old ≡ Ok new
Makes misplaced c (Err f) old new = IsFaultOf (make misplaced c old) f × (new ≡ old)

abbrev pub stores : TableKey → (payer : Name) → (primary : ℕ) → List ℕ → RowView → Answer ℤ
stores key payer primary bytes v =
    then_do (make (fault.KeyExists primary) (change.StoreRow key primary payer bytes) v.world) (λ w. Ok (stored primary_kind key primary v.iters w))
