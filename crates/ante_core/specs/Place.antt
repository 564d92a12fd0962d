-- Where a reader's job stands in the list that the code keeps.
use Rattle.std.specs.Prelude.{◌≡◌, ℕ, ◌<◌, List, length, Some, slice_index_or, remove, insert}
use Rattle.ante_core.specs.declared.window.Held.{Held}
use Rattle.ante_core.specs.Machine.{held_by, without, with_frame}

-- The reader's job stands at this place: without it, or with another frame there, the list is as the machine's
-- words say.
pub record IsAt {F : Type 0} (reader : ℕ) (held : List (Held F)) (place : ℕ) : Type 0 where
  pub within : place < length held
  pub here : (d : Held F) → held_by reader held ≡ Some (slice_index_or held place d)
  pub others : remove held place ≡ without reader held
  pub changed : (d : Held F) (frame : F) → insert (remove held place) place (record { reader = (slice_index_or held place d).reader; job = (slice_index_or held place d).job; frame = frame }) ≡ with_frame reader frame held
