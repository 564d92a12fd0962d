-- The parts of the store as one record.
use Rattle.std.specs.Prelude.{List, []}
use Rattle.ante_pack.specs.declared.names.Name.{Name}
use Rattle.ante_rows.specs.declared.rows.RowsMap.{RowsMap}
use Rattle.ante_secidx.specs.declared.indexes.IndexesMap.{IndexesMap}
use Rattle.ante_objects.specs.declared.objects.ObjectsMap.{ObjectsMap}
use Rattle.ante_ram.specs.declared.parts.Share.{Share}
use Rattle.ante_store.specs.declared.parts.Maps.{Maps}

abbrev pub no_maps : Maps
no_maps = record {
  rows = record { tables = []; rows = [] };
  indexes = record { index64 = []; index128 = []; index256 = [] };
  objects = record { accounts = []; permissions = []; links = []; recent = []; references = [] };
  usage = [];
}

abbrev pub shown_maps : ((RowsMap × IndexesMap) × ObjectsMap) × List (Name × Share) → Maps
shown_maps m = record { rows = m.0.0.0; indexes = m.0.0.1; objects = m.0.1; usage = m.1 }
