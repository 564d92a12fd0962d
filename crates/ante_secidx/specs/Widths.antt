-- The rows of the three secondary indexes as one record.
use Rattle.std.specs.Prelude.{ℕ}
use Rattle.ante_pack.specs.declared.names.Key256.{Key256}
use Rattle.ante_secidx.specs.Index.{Rows}
use Rattle.ante_secidx.specs.declared.indexes.IndexesMap.{IndexesMap}

abbrev pub shown_indexes : (Rows ℕ × Rows ℕ) × Rows Key256 → IndexesMap
shown_indexes m = record { index64 = m.0.0; index128 = m.0.1; index256 = m.1 }
