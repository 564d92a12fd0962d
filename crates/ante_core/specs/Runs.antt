-- Whole runs of the machine, and what a job gives alone.
use Rattle.std.specs.Prelude.{◌≡◌, ℕ, Bool, not, ◌&&◌, List, [], ◌∷◌, ◌++◌, if◌then◌else◌, Option, Some, is_some, option_and_then, option_map, unwrap_or}
use Rattle.ante_core.specs.declared.Piece.TheVariants.{Ready}
use Rattle.ante_core.specs.declared.Event.{Event}
use Rattle.ante_core.specs.declared.Event.TheVariants.{Take, Apply, Begin, Claim, Look, Ring, Advance, Cut, Close}
use Rattle.ante_core.specs.Machine.{Meaning, State, held_by, core_step, core_starved}
use Rattle.ante_core.specs.Sound.{frame_after}

-- The state after an event, given with whether it wanted memory. An event without a row changes nothing.
abbrev pub after_event : {A W X J F R : Type 0} → Meaning W X J F R → State W J F R → Event A W X J F R × Bool → State W J F R
after_event m s e = if e.1 then core_starved s e.0 else unwrap_or (core_step m s e.0) s

-- The state after all the events, in their order.
abbrev pub run : {A W X J F R : Type 0} → Meaning W X J F R → State W J F R → List (Event A W X J F R × Bool) → State W J F R
run m s [] = s
run m s (e ∷ es) = run m (after_event m s e) es

-- the write that an event carries
abbrev pub write_of : {A W X J F R : Type 0} → Event A W X J F R → List X
write_of (Take job) = []
write_of (Apply write) = write ∷ []
write_of (Begin deadline) = []
write_of (Claim reader) = []
write_of (Look reader) = []
write_of (Ring reader moment) = []
write_of (Advance reader) = []
write_of (Cut reader) = []
write_of Close = []

-- The write that an event makes: the one that it carries, where it has a row and its memory.
abbrev pub writes_by : {A W X J F R : Type 0} → Meaning W X J F R → State W J F R → Event A W X J F R × Bool → List X
writes_by m s e = if is_some (core_step m s e.0) && not e.1 then write_of e.0 else []

-- The writes that the events make, in their order.
abbrev pub writes_of : {A W X J F R : Type 0} → Meaning W X J F R → State W J F R → List (Event A W X J F R × Bool) → List X
writes_of m s [] = []
writes_of m s (e ∷ es) = writes_by m s e ++ writes_of m (after_event m s e) es

-- The world after these writes.
abbrev pub world_after : {W X J F R : Type 0} → Meaning W X J F R → W → List X → W
world_after m world [] = world
world_after m world (x ∷ xs) = world_after m (m.applied world x) xs

-- What a job gives alone on a world: it begins there, some number of pieces bring it to a frame, and the piece
-- after them gives the reply.
pub record Alone {W X J F R : Type 0} (m : Meaning W X J F R) (world : W) (job : J) (reply : R) : Type 0 where
  pub pieces : ℕ
  pub frame : F
  pub reached : frame_after m world (m.begun world job) pieces ≡ Some frame
  pub ends : m.advanced world frame ≡ Ready reply

-- the number of the job that the reader holds
abbrev pub job_of : {W J F R : Type 0} → State W J F R → ℕ → Option ℕ
job_of s reader = option_map (λ h. h.job) (option_and_then (λ w. held_by reader w.held) s.window)
