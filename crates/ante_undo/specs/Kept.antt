-- The stack of maps that slots and logs stand for, and what holds of them.
use Rattle.std.specs.Prelude.{◌≡◌, ℕ, ◌+◌, ◌-◌, ◌^◌, ◌<◌, ◌≤◌, List, [], ◌++◌, length, Option, Some, None, IfSome}
use Rattle.std.specs.Option.{option_map}
use Rattle.std.specs.declared.cmp.Ordering.{Ordering}
use Rattle.std.specs.List.Sorted.{IsStrictlySortedBy}
use Rattle.std.specs.Map.{keys_of}
use Rattle.std.specs.FinMap.{IsAntisymmetric}
use Rattle.ante_undo.specs.declared.slots.Slot.{Slot}
use Rattle.ante_undo.specs.declared.logs.Aside.{Aside}
use Rattle.ante_undo.specs.Stack.{Stack, Shelf}
use Rattle.ante_undo.specs.Slots.{live, mentions_at}
use Rattle.ante_undo.specs.Logs.{total, named_in_all, taken_back_all, maps_under, maps_over, IsTidy}

module _ {K V : Type 0} where
  -- the logs of the sessions that lie under the shelf
  abbrev pub below_of : Option (Aside K V) → List (List (K × Option V))
  below_of None = []
  below_of (Some s) = s.below

  -- the logs on the shelf
  abbrev pub shelved_of : Option (Aside K V) → List (List (K × Option V))
  shelved_of None = []
  shelved_of (Some s) = s.shelved

  -- as many sessions more stay below 2 ^ 63
  abbrev pub HasRoom : Option (Aside K V) → ℕ → Type 0
  HasRoom shelf revision = IfSome shelf (λ s. revision + length s.shelved < 2 ^ 63)

module _ {K V : Type 0} (cmp : K → K → Ordering) where
  -- the shelf over the map m, at a revision
  abbrev pub shelf_shown : List (K × V) → ℕ → Option (Aside K V) → Option (Shelf (List (K × V)))
  shelf_shown m revision = option_map (λ s. record { revision = revision; maps = maps_over cmp m s.shelved })

  -- the stack of maps. The logs are those of the sessions since the shelf was made, or of all
  abbrev pub stack_shown : List (K × Slot V) → List (List (K × Option V)) → Option (Aside K V) → ℕ → Stack (List (K × V))
  stack_shown slots opened shelf revision = record {
    under = maps_under cmp (live slots) (below_of shelf ++ opened);
    top = live slots;
    revision = revision;
    shelf = shelf_shown (taken_back_all cmp (live slots) opened) (revision - length opened) shelf;
  }

  -- what holds of slots and logs, where as many changes were made at most
  pub record IsKept (slots : List (K × Slot V)) (opened : List (List (K × Option V))) (shelf : Option (Aside K V)) (changes revision : ℕ) : Type 0 where
    pub exact : IsAntisymmetric cmp
    pub ordered : IsStrictlySortedBy cmp (keys_of slots)
    pub tidy : IsTidy cmp slots
    pub counted : (q : K) →
        mentions_at cmp q slots ≡ named_in_all cmp q (below_of shelf) + named_in_all cmp q opened + named_in_all cmp q (shelved_of shelf)
    pub few : total (below_of shelf) + total opened + total (shelved_of shelf) ≤ changes
    pub bound : changes < 2 ^ 63
    pub small : revision < 2 ^ 63
    pub sessions : length (below_of shelf) + length opened ≤ revision
    pub room : HasRoom shelf (revision - length opened)
