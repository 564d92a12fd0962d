-- Soundness, which every step keeps.
use Rattle.std.specs.Prelude.{◌≡◌, ℕ, zero, suc, ◌<◌, ◌≤◌, ⊤, false, List, [], ◌∷◌, length, slice_get, Option, Some, None, IfSome, IsNone, option_and_then, ◌≢◌}
use Rattle.std.specs.List.{AllByRecursion}
use Rattle.ante_core.specs.declared.Piece.{Piece}
use Rattle.ante_core.specs.declared.Piece.TheVariants.{More, Ready}
use Rattle.ante_core.specs.declared.DoneJob.{DoneJob}
use Rattle.ante_core.specs.declared.window.Held.{Held}
use Rattle.ante_core.specs.Machine.{Meaning, State, WindowState, most_jobs, is_done}

-- no two elements of the list have the same number
abbrev pub ApartBy : {A : Type 0} → (A → ℕ) → List A → Type 0
ApartBy number [] = ⊤
ApartBy number (x ∷ xs) = AllByRecursion (λ y. number x ≢ number y) xs × ApartBy number xs

-- the frame that a piece of work gives, if it doesn't give the reply
abbrev pub next_frame : {F R : Type 0} → Piece F R → Option F
next_frame (More frame) = Some frame
next_frame (Ready reply) = None

-- the frame to which so many pieces of work bring this one, each of which gives a frame
abbrev pub frame_after : {W X J F R : Type 0} → Meaning W X J F R → W → F → ℕ → Option F
frame_after m world frame zero = Some frame
frame_after m world frame (suc pieces) =
    option_and_then (λ next. frame_after m world next pieces) (next_frame (m.advanced world frame))

-- The frame of a job in hand is what some number of pieces on the present world make of that job.
pub record IsReached {W X J F R : Type 0} (m : Meaning W X J F R) (world : W) (jobs : List J) (h : Held F) : Type 0 where
  pub value : J
  pub is_value : slice_get jobs h.job ≡ Some value
  pub pieces : ℕ
  pub reached : frame_after m world (m.begun world value) pieces ≡ Some h.frame

-- The job stands in the window's list, at a place below the count drawn.
pub record IsDrawn (listed : List ℕ) (drawn job : ℕ) : Type 0 where
  pub place : ℕ
  pub below : place < drawn
  pub stands : slice_get listed place ≡ Some job

-- The list is ascending.
abbrev pub IsAscending : List ℕ → Type 0
IsAscending listed = (i j a b : ℕ) → i < j → slice_get listed i ≡ Some a → slice_get listed j ≡ Some b → a < b

-- A window is sound over the world, the jobs taken and the done list of its state.
pub record IsSoundWindow {W X J F R : Type 0} (m : Meaning W X J F R) (world : W) (jobs : List J) (done : List (DoneJob R)) (w : WindowState F) : Type 0 where
  -- its list is ascending, and its jobs were taken
  pub ascending : IsAscending w.listed
  pub taken : (place job : ℕ) → slice_get w.listed place ≡ Some job → job < length jobs
  -- the jobs at places from the count drawn on aren't done
  pub undrawn : (place job : ℕ) → w.drawn ≤ place → slice_get w.listed place ≡ Some job → is_done done job ≡ false
  -- a moment rung is at least the deadline
  pub rung : IfSome w.rung (λ moment. w.deadline ≤ moment)
  -- each frame is what some number of pieces on the present world make of its job
  pub frames : AllByRecursion (IsReached m world jobs) w.held
  -- a reader has at most one job; readers' jobs are distinct, stand in the list at places below the count drawn,
  -- and aren't done
  pub readers : ApartBy (λ h. h.reader) w.held
  pub distinct : ApartBy (λ h. h.job) w.held
  pub drawn : AllByRecursion (λ h. IsDrawn w.listed w.drawn h.job) w.held
  pub undone : AllByRecursion (λ h. is_done done h.job ≡ false) w.held

-- the jobs in the hands of a window's readers
abbrev pub held_in : {F : Type 0} → Option (WindowState F) → List (Held F)
held_in None = []
held_in (Some w) = w.held

-- A state is sound.
pub record IsSound {W X J F R : Type 0} (m : Meaning W X J F R) (s : State W J F R) : Type 0 where
  -- no more jobs were taken than can be numbered
  pub numbered : length s.jobs ≤ most_jobs
  -- the window is sound, and without a window no reader has a job
  pub window : IfSome s.window (IsSoundWindow m s.world s.jobs s.done)
  pub free : IsNone s.window → held_in s.window ≡ []
  -- done jobs were taken and are distinct, and their positions are at most the present one
  pub done_taken : AllByRecursion (λ d. d.job < length s.jobs) s.done
  pub done_distinct : ApartBy (λ d. d.job) s.done
  pub done_before : AllByRecursion (λ d. d.position ≤ s.position) s.done
