-- What a store comes to, once nothing but the state can refuse it.
use Rattle.std.specs.Prelude.{ℕ, ℤ, Ok}
use Rattle.ante_pack.specs.declared.names.Name.{Name}
use Rattle.ante_pack.specs.declared.names.TableKey.{TableKey}
use Rattle.ante_calls.specs.declared.faults.DbFault.TheVariants as fault
use Rattle.ante_calls.specs.IndexCalls.{KeyForm, IndexRows, index_kind}
use Rattle.ante_calls.specs.Rows.{Answer, then_do, make, stored}
use Rattle.ante_calls.specs.Views.{RowView}

module _ {K : Type 0} where
  abbrev pub stores : KeyForm K → IndexRows K → TableKey → (payer : Name) → (primary : ℕ) → K → RowView → Answer ℤ
  stores form index key payer primary secondary v =
      then_do (make (fault.KeyExists primary) (index.storing key primary payer secondary) v.world) (λ w. Ok (stored (index_kind form index) key primary v.iters w))
