-- The logs of the sessions: what they make of a map, and how often they name a key. A log's entries are keys, each with the
-- value that stands there once the entry is taken back, or with none.
use Rattle.std.specs.Prelude.{◌≡◌, ℕ, ◌+◌, ◌||◌, nat_lt, not, IsTrue, Bool, true, false, List, [], ◌∷◌, ◌++◌, length, is_some, Option}
use Rattle.std.specs.declared.cmp.Ordering.{Ordering}
use Rattle.std.specs.Ordering.{eq_by_cmp}
use Rattle.std.specs.List.{list_any}
use Rattle.ante_undo.specs.declared.slots.Slot.{Slot}
use Rattle.ante_undo.specs.Entries.{changed}
use Rattle.ante_undo.specs.Slots.{live, slot_at, value_at, mentions_at}

abbrev pub one_if : Bool → ℕ
one_if true = 1
one_if false = 0

-- the logs of several sessions
abbrev pub LogsOf : (K V : Type 0) → Type 0
LogsOf K V = List (List (K × Option V))

module _ {X : Type 0} where
  -- how many entries the logs have
  abbrev pub total : List (List X) → ℕ
  total [] = 0
  total (log ∷ logs) = length log + total logs

  -- the list has been cut before its last element
  abbrev pub CutsLast : List X → List X → List X → Type 0
  CutsLast old rest last = (x : X) × (old ≡ rest ++ x ∷ []) × (last ≡ x ∷ [])

  -- the entry has come to the last of the lists
  abbrev pub AddsEntry : X → List (List X) → List (List X) → Type 0
  AddsEntry x old new = (front : List (List X)) × (log : List X) × (old ≡ front ++ log ∷ []) × (new ≡ front ++ (log ++ x ∷ []) ∷ [])

  -- the log has come behind the last of the logs
  abbrev pub AddsLog : List X → List (List X) → List (List X) → Type 0
  AddsLog added old new = (front : List (List X)) × (log : List X) × (old ≡ front ++ log ∷ []) × (new ≡ front ++ (log ++ added) ∷ [])

module _ {K V : Type 0} (cmp : K → K → Ordering) where
  -- how many entries of the log name the key
  abbrev pub named_in : K → List (K × Option V) → ℕ
  named_in key [] = 0
  named_in key (c ∷ log) = one_if (eq_by_cmp cmp c.0 key) + named_in key log

  abbrev pub named_in_all : K → List (List (K × Option V)) → ℕ
  named_in_all key [] = 0
  named_in_all key (log ∷ logs) = named_in key log + named_in_all key logs

  -- no entry of the log names the key
  abbrev pub IsUnnamed : K → List (K × Option V) → Type 0
  IsUnnamed key log = IsTrue (not (list_any (λ c. eq_by_cmp cmp key c.0) log))

  -- the map once a log is taken back, the last entry first
  abbrev pub taken_back : List (K × V) → List (K × Option V) → List (K × V)
  taken_back m [] = m
  taken_back m (c ∷ log) = changed cmp (taken_back m log) c.0 c.1

  -- the map once several logs are taken back, the last one first
  abbrev pub taken_back_all : List (K × V) → List (List (K × Option V)) → List (K × V)
  taken_back_all m [] = m
  taken_back_all m (log ∷ logs) = taken_back (taken_back_all m logs) log

  -- for each log the map that taking it back leads to
  abbrev pub maps_under : List (K × V) → List (List (K × Option V)) → List (List (K × V))
  maps_under m [] = []
  maps_under m (log ∷ logs) = taken_back_all m (log ∷ logs) ∷ maps_under m logs

  -- the same, the last log's first
  abbrev pub maps_over : List (K × V) → List (List (K × Option V)) → List (List (K × V))
  maps_over m [] = []
  maps_over m (log ∷ logs) = maps_over m logs ++ taken_back_all m (log ∷ logs) ∷ []

  -- a key has a slot exactly where it has a value or is named
  abbrev pub IsTidy : List (K × Slot V) → Type 0
  IsTidy es = (q : K) → is_some (slot_at cmp q es) ≡ (is_some (value_at cmp q es) || nat_lt 0 (mentions_at cmp q es))

  -- what stays of the slots whatever is moved between logs
  pub record Stays (old new : List (K × Slot V)) : Type 0 where
    pub mentions : (q : K) → mentions_at cmp q new ≡ mentions_at cmp q old
    pub tidy : IsTidy old → IsTidy new

  -- entries of the one log have been taken back, and those that would bring them again are in the other
  pub record IsMoved (old : List (K × Slot V)) (from to : List (K × Option V)) (new : List (K × Slot V)) (from' to' : List (K × Option V)) : Type 0 where
    pub stays : Stays old new
    pub from_back : taken_back (live new) from' ≡ taken_back (live old) from
    pub to_back : taken_back (live new) to' ≡ taken_back (live old) to
    pub named : (q : K) → named_in q from' + named_in q to' ≡ named_in q from + named_in q to
    pub lengths : length from' + length to' ≡ length from + length to

  -- the log has been taken back, and now brings back what it took
  pub record IsTurned (old : List (K × Slot V)) (log : List (K × Option V)) (new : List (K × Slot V)) (log' : List (K × Option V)) : Type 0 where
    pub stays : Stays old new
    pub back : live new ≡ taken_back (live old) log
    pub forth : live old ≡ taken_back (live new) log'
    pub named : (q : K) → named_in q log' ≡ named_in q log
    pub lengths : length log' ≡ length log

  -- sessions have been taken back from the one list, and now stand in the other
  pub record AreMoved (old : List (K × Slot V)) (from to : LogsOf K V) (new : List (K × Slot V)) (from' to' : LogsOf K V) : Type 0 where
    pub stays : Stays old new
    pub forth : maps_under (live new) from' ++ live new ∷ maps_over (live new) to' ≡ maps_under (live old) from ++ live old ∷ maps_over (live old) to
    pub back : maps_under (live new) to' ++ live new ∷ maps_over (live new) from' ≡ maps_under (live old) to ++ live old ∷ maps_over (live old) from
    pub named : (q : K) → named_in_all q from' + named_in_all q to' ≡ named_in_all q from + named_in_all q to
    pub totals : total from' + total to' ≡ total from + total to
    pub lengths : length from' + length to' ≡ length from + length to

  -- of the mentions of each key that were counted before, those after are left
  pub record Releases (old new : List (K × Slot V)) (before after : K → ℕ) : Type 0 where
    pub mentions : (q : K) → mentions_at cmp q new + before q ≡ mentions_at cmp q old + after q
    pub tidy : IsTidy old → IsTidy new
