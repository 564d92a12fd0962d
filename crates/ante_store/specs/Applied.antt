-- What a change makes of the parts that a world stands for.
use Rattle.std.specs.Prelude.{◌≡◌, ◌+◌, ◌<◌, ◌^◌, ℕ, List, Result, Ok, Err, None}
use Rattle.ante_state.specs.Billing.{most_usage}
use Rattle.ante_pack.specs.declared.names.Name.{Name}
use Rattle.ante_rows.specs.declared.rows.RowsMap.{RowsMap}
use Rattle.ante_secidx.specs.declared.indexes.IndexesMap.{IndexesMap}
use Rattle.ante_objects.specs.declared.objects.ObjectsMap.{ObjectsMap}
use Rattle.ante_ram.specs.declared.parts.Share.{Share}
use Rattle.ante_ram.specs.Usage.{usage_sum}
use Rattle.ante_store.specs.declared.parts.Maps.{Maps}
use Rattle.ante_store.specs.declared.change.Change.{Change}
use Rattle.ante_store.specs.declared.change.WriteError.{WriteError}
use Rattle.ante_store.specs.declared.change.WriteError.TheVariants as error
use Rattle.ante_store.specs.Bills.{sizes}
use Rattle.ante_store.specs.Changes.{after, refusal, IsCause}
use Rattle.ante_store.specs.Worlds.{world_of, IsBilled}

-- a change of the rows, of the rows of secondary indexes, of the objects, or of the usage alone
abbrev pub in_rows : (RowsMap → RowsMap) → Maps → Maps
in_rows change m = record m { rows = change m.rows }

abbrev pub in_indexes : (IndexesMap → IndexesMap) → Maps → Maps
in_indexes change m = record m { indexes = change m.indexes }

abbrev pub in_objects : (ObjectsMap → ObjectsMap) → Maps → Maps
in_objects change m = record m { objects = change m.objects }

abbrev pub with_usage : List (Name × Share) → Maps → Maps
with_usage usage m = record m { usage = usage }

-- the change was granted and is made, with its bills
pub record IsMade (c : Change) (old new : Maps) : Type 0 where
  pub granted : refusal c (world_of old) ≡ None
  pub world : world_of new ≡ after c (world_of old)
  pub billed : IsBilled new

-- it is made, or the answer says why not
abbrev pub MadeOrRefused : Change → Maps → Maps → Result (Unit {0}) WriteError → Type 0
MadeOrRefused c old new (Ok done) = IsMade c old new
MadeOrRefused c old new (Err e) = IsCause c (world_of old) e

-- usage can't take the bills in: memory is wanting, or all together would use more than 2^62 bytes
abbrev pub IsUnpaid : (removed added : List (Name × ℕ)) → List (Name × Share) → WriteError → Type 0
IsUnpaid removed added shares error.OutOfMemory = Unit {0}
IsUnpaid removed added shares error.RamTotal = most_usage + sizes removed < usage_sum shares + sizes added
IsUnpaid removed added shares error.WriteRefused = ⊥
IsUnpaid removed added shares error.Missing = ⊥
IsUnpaid removed added shares error.Exists = ⊥
