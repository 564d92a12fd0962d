-- What a run sees and changes, and the part of it that each group of calls sees; and what no call changes of the store that it is lent.
use Rattle.std.specs.Prelude.{◌≡◌, ℕ, ◌<◌, Bool, true, false, List, length, Option}
use Rattle.ante_undo.specs.Stack.{Stack, Shelf, IsAbove}
use Rattle.ante_types.specs.World.{World}
use Rattle.ante_types.specs.declared.context.Mode.{Mode}
use Rattle.ante_types.specs.declared.context.Mode.TheVariants as mode
use Rattle.ante_types.specs.declared.context.RunContext.{RunContext}
use Rattle.ante_itercache.specs.Iterators.{Iterators, no_iterators}

-- the iterators of each kind of row
pub record Lists : Type 0 where
  pub rows : Iterators
  pub index64 : Iterators
  pub index128 : Iterators
  pub index256 : Iterators

abbrev pub no_lists : Lists
no_lists = record { rows = no_iterators; index64 = no_iterators; index128 = no_iterators; index256 = no_iterators }

-- the state of the chain, the iterators met, what the run knows and has asked for, and its packed transaction
pub record Seen : Type 0 where
  pub world : World
  pub lists : Lists
  pub run : RunContext
  pub packed : List ℕ

-- ---- calls on the rows of one kind: they only read the run's context, which stands beside the view

pub record RowView : Type 0 where
  pub world : World
  pub iters : Iterators

abbrev pub with_iters : RowView → Iterators → RowView
with_iters v iters = record { world = v.world; iters = iters }

-- ---- all other calls: they only read the packed transaction, which stands beside the view

pub record SysView : Type 0 where
  pub world : World
  pub run : RunContext

-- ---- each group's part of the whole, and the whole with another part

abbrev pub sys_of : Seen → SysView
sys_of s = record { world = s.world; run = s.run }

abbrev pub with_sys : Seen → SysView → Seen
with_sys s v = record { world = v.world; lists = s.lists; run = v.run; packed = s.packed }

abbrev pub rows_of : Seen → RowView
rows_of s = record { world = s.world; iters = s.lists.rows }

abbrev pub with_rows : Seen → RowView → Seen
with_rows s v = record { world = v.world; lists = record s.lists { rows = v.iters }; run = s.run; packed = s.packed }

abbrev pub index64_of : Seen → RowView
index64_of s = record { world = s.world; iters = s.lists.index64 }

abbrev pub with_index64 : Seen → RowView → Seen
with_index64 s v = record { world = v.world; lists = record s.lists { index64 = v.iters }; run = s.run; packed = s.packed }

abbrev pub index128_of : Seen → RowView
index128_of s = record { world = s.world; iters = s.lists.index128 }

abbrev pub with_index128 : Seen → RowView → Seen
with_index128 s v = record { world = v.world; lists = record s.lists { index128 = v.iters }; run = s.run; packed = s.packed }

abbrev pub index256_of : Seen → RowView
index256_of s = record { world = s.world; iters = s.lists.index256 }

abbrev pub with_index256 : Seen → RowView → Seen
with_index256 s v = record { world = v.world; lists = record s.lists { index256 = v.iters }; run = s.run; packed = s.packed }

-- what a run has said: of a run that failed nothing else shows
abbrev pub said : RunContext → List ℕ × List ℕ
said run = (run.console, run.return_value)

-- ---- the store that a call is lent

-- what no call changes of it, whatever the call answers: the states of the sessions beneath, whether it may be written to, and which store it is
pub record Base : Type 0 where
  pub under : List World
  pub revision : ℕ
  pub shelf : Option (Shelf World)
  pub writing : Bool
  pub lent : ℕ

abbrev pub base_of : Stack World → (writing : Bool) → (lent : ℕ) → Base
base_of s writing lent = record { under = s.under; revision = s.revision; shelf = s.shelf; writing = writing; lent = lent }

abbrev pub is_writing : Mode → Bool
is_writing mode.Writing = true
is_writing mode.Reading = false

-- A store is ready for a run in this mode: it may be written to in writing mode alone, and then a session is open, which began after the shelf
-- was made, if there is one.
pub record ReadyFor (run : Mode) (s : Stack World) (writing : Bool) : Type 0 where
  pub mode : writing ≡ is_writing run
  pub session : writing ≡ true → 0 < length s.under
  pub above : writing ≡ true → IsAbove 1 s
