-- How a map with sessions is kept: a slot for each key that has a value or that a log names.
use Rattle.std.specs.Prelude.{◌≡◌, ℕ, ◌+◌, ◌-◌, ◌||◌, nat_lt, List, [], ◌∷◌, Option, Some, None, is_some, cond, if◌then◌else◌}
use Rattle.std.specs.declared.cmp.Ordering.{Ordering}
use Rattle.std.specs.Option.{option_and_then, option_map_or}
use Rattle.std.specs.Ordering.{eq_by_cmp}
use Rattle.std.specs.Map.{lookup}
use Rattle.ante_undo.specs.declared.slots.Slot.{Slot}

module _ {V : Type 0} where
  -- the slot with the value and as many mentions: a key with neither has none
  abbrev pub slot_of : Option V → ℕ → Option (Slot V)
  slot_of value mentions = if is_some value || nat_lt 0 mentions then Some (record { value = value; mentions = mentions }) else None

module _ {K V : Type 0} where
  -- the entries that follow, after that of the key if it has a value
  abbrev pub with_value : K → Option V → List (K × V) → List (K × V)
  with_value k None m = m
  with_value k (Some v) m = (k, v) ∷ m

  -- the map that the slots hold
  abbrev pub live : List (K × Slot V) → List (K × V)
  live [] = []
  live (e ∷ es) = with_value e.0 e.1.value (live es)

module _ {K V : Type 0} (cmp : K → K → Ordering) where
  abbrev pub slot_at : K → List (K × Slot V) → Option (Slot V)
  slot_at key es = lookup (eq_by_cmp cmp key) es

  abbrev pub value_at : K → List (K × Slot V) → Option V
  value_at key es = option_and_then (λ s. s.value) (slot_at key es)

  abbrev pub mentions_at : K → List (K × Slot V) → ℕ
  mentions_at key es = option_map_or (λ s. s.mentions) (slot_at key es) 0

  -- the key has got the value and as many mentions, and the other slots stay
  abbrev pub Sets : K → Option V → ℕ → List (K × Slot V) → List (K × Slot V) → Type 0
  Sets key value mentions old new = (q : K) → slot_at q new ≡ cond (eq_by_cmp cmp key q) (slot_of value mentions) (slot_at q old)

  -- the same, and the key is mentioned once more, or once less
  abbrev pub Names : K → Option V → List (K × Slot V) → List (K × Slot V) → Type 0
  Names key value old new = Sets key value (mentions_at key old + 1) old new

  abbrev pub Unnames : K → Option V → List (K × Slot V) → List (K × Slot V) → Type 0
  Unnames key value old new = Sets key value (mentions_at key old - 1) old new
