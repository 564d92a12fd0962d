-- The parts of the objects as one record.
use Rattle.std.specs.Prelude.{ℕ, List}
use Rattle.ante_pack.specs.declared.names.Name.{Name}
use Rattle.ante_pack.specs.declared.authority.Level.{Level}
use Rattle.ante_state.specs.declared.objects.AccountRow.{AccountRow}
use Rattle.ante_state.specs.declared.objects.PermissionRow.{PermissionRow}
use Rattle.ante_state.specs.declared.objects.LinkKey.{LinkKey}
use Rattle.ante_state.specs.declared.objects.RecentKey.{RecentKey}
use Rattle.ante_objects.specs.declared.objects.ObjectsMap.{ObjectsMap}

-- the second of two, where it is a pair itself
abbrev later : {A B : Type 0} → A × B → B
later p = p.1

-- permissions and links, the accounts beside them, and the recent transactions and references beside all of these
abbrev pub Parted : Type 0
Parted = ((List (Level × PermissionRow) × List (LinkKey × Name)) × List (Name × AccountRow)) × (List (RecentKey × Unit {0}) × List (ℕ × List ℕ))

abbrev pub shown_objects : Parted → ObjectsMap
shown_objects m = record {
  accounts = m.0.1;
  permissions = m.0.0.0;
  links = m.0.0.1;
  recent = (later m).0;
  references = (later m).1;
}
