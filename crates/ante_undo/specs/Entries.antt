-- A map from keys to values, as the list of its entries in the order of their keys.
use Rattle.std.specs.Prelude.{Bool, not, List, [], ◌∷◌, Option, Some, None, if◌then◌else◌}
use Rattle.std.specs.declared.cmp.Ordering.{Ordering}
use Rattle.std.specs.Option.{option_or}
use Rattle.std.specs.Ordering.{is_lt, is_le, is_gt, is_ge, eq_by_cmp}
use Rattle.std.specs.FinMap.Entries.{by_order, where_key}

module _ {K V : Type 0} where
  -- the first of the entries whose keys pass the test
  abbrev pub first_where : (K → Bool) → List (K × V) → Option (K × V)
  first_where test [] = None
  first_where test (e ∷ es) = if test e.0 then Some e else first_where test es

  -- the last of the entries whose keys pass the test
  abbrev pub last_where : (K → Bool) → List (K × V) → Option (K × V)
  last_where test [] = None
  last_where test (e ∷ es) = option_or (last_where test es) (if test e.0 then Some e else None)

  abbrev pub first_entry : List (K × V) → Option (K × V)
  first_entry [] = None
  first_entry (e ∷ es) = Some e

  abbrev pub last_entry : List (K × V) → Option (K × V)
  last_entry [] = None
  last_entry (e ∷ es) = option_or (last_entry es) (Some e)

module _ {K V : Type 0} (cmp : K → K → Ordering) where
  -- the map with the value at the key: the entry stands in its place, and an entry whose key ties with it goes
  abbrev pub with_entry : K → V → List (K × V) → List (K × V)
  with_entry k v [] = (k, v) ∷ []
  with_entry k v (e ∷ es) = by_order (cmp k e.0) ((k, v) ∷ e ∷ es) ((k, v) ∷ es) (e ∷ with_entry k v es)

  -- the map without the entry at the key, if there is one
  abbrev pub without_key : K → List (K × V) → List (K × V)
  without_key k m = where_key cmp (λ x. not (eq_by_cmp cmp k x)) m

  -- the map after a change at a key: a value is put there, or what was there is removed
  abbrev pub changed : List (K × V) → K → Option V → List (K × V)
  changed m k (Some v) = with_entry k v m
  changed m k None = without_key k m

  -- the entry whose key ties with the key
  abbrev pub entry_at : K → List (K × V) → Option (K × V)
  entry_at key = first_where (λ x. eq_by_cmp cmp key x)

  -- the entry with the least key that is not below the key
  abbrev pub entry_from : K → List (K × V) → Option (K × V)
  entry_from key = first_where (λ x. is_ge (cmp x key))

  -- the entry with the least key above the key
  abbrev pub entry_after : K → List (K × V) → Option (K × V)
  entry_after key = first_where (λ x. is_gt (cmp x key))

  -- the entry with the greatest key below the key
  abbrev pub entry_before : K → List (K × V) → Option (K × V)
  entry_before key = last_where (λ x. is_lt (cmp x key))

  -- the entry with the greatest key that is not above the key
  abbrev pub entry_up_to : K → List (K × V) → Option (K × V)
  entry_up_to key = last_where (λ x. is_le (cmp x key))
