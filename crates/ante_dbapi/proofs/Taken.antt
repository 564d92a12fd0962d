-- What was met for a call is taken back.
use Rattle.std.proofs.Common.{◌≡◌, ℕ, [], ◌∷◌, length, position, Option, Some, None}
use Rattle.std.proofs.Math.Seq.{take-append_seam, take-length}
use Rattle.ante_pack.specs.declared.names.TableKey.{TableKey}
use Rattle.ante_itercache.specs.Iterators.{Iterators, is_table, table_met_at, meet_table, first_met}

back_at : (r : Option ℕ) (key : TableKey) (i : Iterators) → first_met (length i.tables) (length i.rows) (table_met_at r key i).1 ≡ i
back_at (Some place) key i = λ k. record { tables = take-length i.tables k; rows = take-length i.rows k }
back_at None key i = λ k. record { tables = take-append_seam i.tables (key ∷ []) k; rows = take-length i.rows k }

-- the table that was met
pub taken_back : (key : TableKey) (i : Iterators) → first_met (length i.tables) (length i.rows) (meet_table key i).1 ≡ i
taken_back key i = back_at (position (is_table key) i.tables) key i
