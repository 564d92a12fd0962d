-- What the walks over entries in order answer, one entry at a time.
use Rattle.std.specs.Prelude.{◌≡◌, ℕ, suc, ◌≤◌, Bool, List, [], ◌∷◌, length, map, take, drop, slice_get, Option, Some, None, if◌then◌else◌}
use Rattle.std.specs.declared.cmp.Ordering.{Ordering}
use Rattle.ante_undo.specs.Entries.{first_entry}
use Rattle.ante_sessions.specs.Walk.{past}

module _ {K V : Type 0} where
  -- the entry, where its key passes the test
  abbrev pub within : (K → Bool) → Option (K × V) → Option (K × V)
  within test None = None
  within test (Some e) = if test e.0 then Some e else None

  -- what comes next in the list after the entry with this key
  abbrev pub Follows : List (K × V) → (key : K) → (next : Option (K × V)) → Type 0
  Follows es key next = (at : ℕ) (value : V) → slice_get es at ≡ Some (key, value) → next ≡ first_entry (drop (suc at) es)

-- this entry and all that come after its key
abbrev pub rest_from : {K V : Type 0} → (K → K → Ordering) → Option (K × V) → List (K × V) → List (K × V)
rest_from cmp None es = []
rest_from cmp (Some e) es = e ∷ past cmp (Some e.0) es

-- What is given so far is what stands at the front of the list, and the next entry is the first that isn't given.
pub record IsFront {K V B : Type 0} (view : K × V → B) (all : List (K × V)) (given : List B) (coming : Option (K × V)) : Type 0 where
  pub within : length given ≤ length all
  pub items : given ≡ map view (take (length given) all)
  pub next : coming ≡ first_entry (drop (length given) all)
