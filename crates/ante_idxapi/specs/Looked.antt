-- What a call that finds rows of an index answers, once the row was looked for: its number, and what is told of it.
use Rattle.std.specs.Prelude.{ℕ, ℤ, Option, Ok, option_map}
use Rattle.ante_pack.specs.declared.names.TableKey.{TableKey}
use Rattle.ante_calls.specs.IndexCalls.{KeyForm, IndexRows, index_kind}
use Rattle.ante_calls.specs.Rows.{Answer, has_table, looked_for}
use Rattle.ante_calls.specs.Views.{RowView}

module _ {K : Type 0} where
  abbrev pub looked : KeyForm K → IndexRows K → TableKey → (found : Option (K × ℕ)) → RowView → (ℤ × Option (K × ℕ)) × RowView
  looked form index key found v = looked_for (index_kind form index) (has_table key v.world) key found v

  -- the secondary key alone, or the primary key alone
  abbrev pub told : {A : Type 0} → (K × ℕ → A) → (ℤ × Option (K × ℕ)) × RowView → Answer (ℤ × Option A)
  told what r = Ok ((r.0.0, option_map what r.0.1), r.1)
