-- Where a key that was met is in its list. `Iters` keeps it for each table and for each live row, so that none is looked for in the lists.
use Rattle.std.specs.Prelude.{◌≡◌, ◌↔◌, ℕ, List, true, Some, slice_get}
use Rattle.std.specs.declared.cmp.Ordering.{Ordering}
use Rattle.std.specs.BTreeMap.{BTreeMap, get}
use Rattle.ante_state.specs.declared.tables.RowKey.{RowKey}
use Rattle.ante_itercache.specs.declared.met.MetRow.{MetRow}

-- the live row with this key, as it stands in the list
abbrev pub live_at : RowKey → MetRow
live_at key = record { table = key.table; primary = key.primary; live = true }

-- the map has the place of each key that the list shows, and no other
unfoldable pub HasPlaces : {K X : Type 0} → (K → K → Ordering) → (K → X) → BTreeMap K ℕ → List X → Type 0
HasPlaces {K} cmp shown m xs = (key : K) (place : ℕ) → (get cmp m key ≡ Some place) ↔ (slice_get xs place ≡ Some (shown key))
