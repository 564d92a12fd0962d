-- What a call that finds rows answers, once the row was looked for.
use Rattle.std.specs.Prelude.{ℕ, ℤ, Option}
use Rattle.ante_pack.specs.declared.names.TableKey.{TableKey}
use Rattle.ante_calls.specs.Kinds.{primary_kind}
use Rattle.ante_calls.specs.Rows.{has_table, looked_for}
use Rattle.ante_calls.specs.Views.{RowView}

abbrev pub looked : TableKey → (found : Option ℕ) → RowView → ℤ × RowView
looked key found v = let r = looked_for primary_kind (has_table key v.world) key found v in (r.0.0, r.1)
