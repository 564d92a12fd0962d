-- When a row isn't written.
use Rattle.std.specs.Prelude.{ℕ, IsSome, IsNone}
use Rattle.ante_pack.specs.declared.names.TableKey.{TableKey}
use Rattle.ante_secidx.specs.declared.fault.SecFault.{SecFault}
use Rattle.ante_secidx.specs.declared.fault.SecFault.TheVariants.{OutOfMemory, KeyExists, Missing}
use Rattle.ante_secidx.specs.Index.{Rows, index_row}

module _ {K : Type 0} where
  -- a new row is refused exactly where the table has one with its primary key, else only memory can be wanting
  abbrev pub IsInsertFault : TableKey → ℕ → Rows K → SecFault → Type 0
  IsInsertFault table primary m OutOfMemory = IsNone (index_row table primary m)
  IsInsertFault table primary m KeyExists = IsSome (index_row table primary m)
  IsInsertFault table primary m Missing = ⊥

  -- a change of a row is refused exactly where the table has none with its primary key, else only memory can be wanting
  abbrev pub IsChangeFault : TableKey → ℕ → Rows K → SecFault → Type 0
  IsChangeFault table primary m OutOfMemory = IsSome (index_row table primary m)
  IsChangeFault table primary m KeyExists = ⊥
  IsChangeFault table primary m Missing = IsNone (index_row table primary m)
