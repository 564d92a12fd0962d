-- The window machine, as a table: one case for each kind of event.
use Rattle.std.specs.Prelude.{ℕ, ◌+◌, ◌^◌, Bool, true, false, not, ◌&&◌, ◌==◌, nat_lt, nat_le, List, [], ◌∷◌, ◌++◌, length, slice_get, if◌then◌else◌, Option, Some, None, is_some, is_none, option_map, option_and_then, unwrap_or, filter}
use Rattle.std.specs.List.{list_any, range_with_len}
use Rattle.ante_core.specs.declared.Piece.{Piece}
use Rattle.ante_core.specs.declared.Piece.TheVariants.{More, Ready}
use Rattle.ante_core.specs.declared.Event.{Event}
use Rattle.ante_core.specs.declared.Event.TheVariants.{Take, Apply, Begin, Claim, Look, Ring, Advance, Cut, Close}
use Rattle.ante_core.specs.declared.DoneJob.{DoneJob}
use Rattle.ante_core.specs.declared.window.Held.{Held}

-- What an actor's three calls mean: the world that a write leaves, the frame from which a job begins, and what a
-- piece of work from a frame ends in.
pub record Meaning (W X J F R : Type 0) : Type 0 where
  pub applied : W → X → W
  pub begun : W → J → F
  pub advanced : W → F → Piece F R

abbrev pub meaning : {W X J F R : Type 0} → (W → X → W) → (W → J → F) → (W → F → Piece F R) → Meaning W X J F R
meaning applied begun advanced = record { applied = applied; begun = begun; advanced = advanced }

-- A window: its deadline, the jobs that waited when it began, how many of them were drawn, the moment at which it
-- was rung, and the jobs in readers' hands, each with its reader and the frame that it has come to, in the order
-- in which they were claimed.
pub record WindowState (F : Type 0) : Type 0 where
  pub deadline : ℕ
  pub listed : List ℕ
  pub drawn : ℕ
  pub rung : Option ℕ
  pub held : List (Held F)

-- The machine: its world, the number of writes made, the jobs taken (a job's number is its place), the jobs done
-- in the order in which they finished, and at most one window.
pub record State (W J F R : Type 0) : Type 0 where
  pub world : W
  pub position : ℕ
  pub jobs : List J
  pub done : List (DoneJob R)
  pub window : Option (WindowState F)

-- how many jobs can be taken, so that their numbers fit 32 bits
abbrev pub most_jobs : ℕ
most_jobs = 4294967295

-- the machine over a world, before any event
abbrev pub start : {W J F R : Type 0} → W → State W J F R
start world = record { world = world; position = 0; jobs = []; done = []; window = None }

-- what the reader holds
abbrev pub held_by : {F : Type 0} → ℕ → List (Held F) → Option (Held F)
held_by reader [] = None
held_by reader (h ∷ hs) = if h.reader == reader then Some h else held_by reader hs

-- the jobs in readers' hands without the reader's
abbrev pub without : {F : Type 0} → ℕ → List (Held F) → List (Held F)
without reader [] = []
without reader (h ∷ hs) = if h.reader == reader then hs else h ∷ without reader hs

-- the same jobs in the same hands, with this frame at the reader's
abbrev pub with_frame : {F : Type 0} → ℕ → F → List (Held F) → List (Held F)
with_frame reader frame [] = []
with_frame reader frame (h ∷ hs) = if h.reader == reader then (record h { frame = frame }) ∷ hs else h ∷ with_frame reader frame hs

-- whether the job is done
abbrev pub is_done : {R : Type 0} → List (DoneJob R) → ℕ → Bool
is_done done job = list_any (λ d. d.job == job) done

-- the jobs below this number that aren't done, ascending
abbrev pub waiting_below : {R : Type 0} → List (DoneJob R) → ℕ → List ℕ
waiting_below done count = filter (λ job. not (is_done done job)) (range_with_len 0 count)

-- the jobs that wait: they were taken and aren't done
abbrev pub waiting_jobs : {W J F R : Type 0} → State W J F R → List ℕ
waiting_jobs s = waiting_below s.done (length s.jobs)

-- a row that stands where the test holds
abbrev pub stands_if : {S : Type 0} → Bool → S → Option S
stands_if b s = if b then Some s else None

abbrev pub with_window : {W J F R : Type 0} → State W J F R → WindowState F → State W J F R
with_window s w = record s { window = Some w }

-- a row that asks for a window
abbrev pub of_window : {W J F R : Type 0} → State W J F R → (WindowState F → Option (State W J F R)) → Option (State W J F R)
of_window s row = option_and_then row s.window

-- a row that asks for a window and changes nothing outside it
abbrev pub in_window : {W J F R : Type 0} → State W J F R → (WindowState F → Option (WindowState F)) → Option (State W J F R)
in_window s row = option_map (with_window s) (option_and_then row s.window)

-- Take(job) stands without a window, and with fewer than 4,294,967,295 jobs taken. It appends the job.
abbrev pub take_row : {W J F R : Type 0} → State W J F R → J → Option (State W J F R)
take_row s job = stands_if (is_none s.window && nat_lt (length s.jobs) most_jobs) (record s { jobs = s.jobs ++ job ∷ [] })

-- Apply(write) stands without a window, and with a position below 2^63. It changes the world, and the position
-- rises by one.
abbrev pub apply_row : {W X J F R : Type 0} → Meaning W X J F R → State W J F R → X → Option (State W J F R)
apply_row m s write =
    stands_if (is_none s.window && nat_lt s.position (2 ^ 63)) (record s { world = m.applied s.world write; position = s.position + 1 })

-- Begin stands without a window. It opens one over the jobs that wait, with none drawn and not rung.
abbrev pub begin_row : {W J F R : Type 0} → State W J F R → ℕ → Option (State W J F R)
begin_row s deadline =
    stands_if (is_none s.window) (with_window s (record { deadline = deadline; listed = waiting_jobs s; drawn = 0; rung = None; held = [] }))

-- The next job of the window's list, in the reader's hands with its first frame. A job of the list was taken, so
-- it is there.
abbrev pub next_held : {W X J F R : Type 0} → Meaning W X J F R → W → List J → ℕ → WindowState F → Option (Held F)
next_held m world jobs reader w =
    option_and_then (λ job. option_map (λ value. record { reader = reader; job = job; frame = m.begun world value }) (slice_get jobs job)) (slice_get w.listed w.drawn)

abbrev pub with_drawn : {F : Type 0} → WindowState F → Held F → WindowState F
with_drawn w h = record w { drawn = w.drawn + 1; held = w.held ++ h ∷ [] }

-- Claim stands in a window, for a reader without a job. Where the list has a place at the count drawn, the reader
-- gets that job with its first frame and the count rises by one; else nothing changes.
abbrev pub claim_row : {W X J F R : Type 0} → Meaning W X J F R → W → List J → ℕ → WindowState F → Option (WindowState F)
claim_row m world jobs reader w =
    stands_if (is_none (held_by reader w.held)) (unwrap_or (option_map (with_drawn w) (next_held m world jobs reader w)) w)

-- Look stands in a window. It changes nothing.
abbrev pub look_row : {F : Type 0} → WindowState F → Option (WindowState F)
look_row w = Some w

-- Ring stands in a window, at a moment of at least the deadline. It sets the moment where none stands, and else
-- changes nothing.
abbrev pub ring_row : {F : Type 0} → ℕ → WindowState F → Option (WindowState F)
ring_row moment w = stands_if (nat_le w.deadline moment) (record w { rung = Some (unwrap_or w.rung moment) })

-- the window with the reader's job taken away, and its frame gone
abbrev pub taken_from : {F : Type 0} → ℕ → WindowState F → WindowState F
taken_from reader w = record w { held = without reader w.held }

-- what a piece of a job leaves of the window and of the done list: the new frame, or the job done at this position
-- with its reply
abbrev pub after_piece : {F R : Type 0} → ℕ → ℕ → WindowState F × List (DoneJob R) → Held F → Piece F R → WindowState F × List (DoneJob R)
after_piece reader position p h (More frame) = (record (p.0) { held = with_frame reader frame (p.0).held }, p.1)
after_piece reader position p h (Ready reply) =
    (taken_from reader (p.0), p.1 ++ (record { job = h.job; position = position; reply = reply }) ∷ [])

-- one piece of the reader's job on the present world, for a reader with a job
abbrev pub piece_row : {W X J F R : Type 0} → Meaning W X J F R → W → ℕ → ℕ → WindowState F × List (DoneJob R) → Option (WindowState F × List (DoneJob R))
piece_row m world position reader p =
    option_map (λ h. after_piece reader position p h (m.advanced world h.frame)) (held_by reader (p.0).held)

abbrev pub with_window_and_done : {W J F R : Type 0} → State W J F R → WindowState F × List (DoneJob R) → State W J F R
with_window_and_done s p = record s { window = Some (p.0); done = p.1 }

-- Advance stands in a window, for a reader with a job. It runs one piece of the job on the present world.
abbrev pub advance_row : {W X J F R : Type 0} → Meaning W X J F R → State W J F R → ℕ → Option (State W J F R)
advance_row m s reader =
    of_window s (λ w. option_map (with_window_and_done s) (piece_row m s.world s.position reader (w, s.done)))

-- Cut stands in a window that is rung, for a reader with a job. It takes the job away and drops its frame.
abbrev pub cut_row : {F : Type 0} → ℕ → WindowState F → Option (WindowState F)
cut_row reader w = stands_if (is_some w.rung && is_some (held_by reader w.held)) (taken_from reader w)

abbrev pub is_empty : {A : Type 0} → List A → Bool
is_empty [] = true
is_empty (x ∷ xs) = false

-- Close stands in a window in which no reader has a job. It leaves no window.
abbrev pub close_row : {W J F R : Type 0} → State W J F R → WindowState F → Option (State W J F R)
close_row s w = stands_if (is_empty w.held) (record s { window = None })

-- THE TABLE: the state that the event leaves, where it has a row in this state, and else none.
abbrev pub core_step : {A W X J F R : Type 0} → Meaning W X J F R → State W J F R → Event A W X J F R → Option (State W J F R)
core_step m s (Take job) = take_row s job
core_step m s (Apply write) = apply_row m s write
core_step m s (Begin deadline) = begin_row s deadline
core_step m s (Claim reader) = in_window s (claim_row m s.world s.jobs reader)
core_step m s (Look reader) = in_window s look_row
core_step m s (Ring reader moment) = in_window s (ring_row moment)
core_step m s (Advance reader) = advance_row m s reader
core_step m s (Cut reader) = in_window s (cut_row reader)
core_step m s Close = of_window s (close_row s)

-- Advance whose memory is refused: the reader's job is taken away unfinished, so it waits again.
abbrev pub starved_advance : {W J F R : Type 0} → State W J F R → ℕ → State W J F R
starved_advance s reader = record s { window = option_map (taken_from reader) s.window }

-- The state that the event leaves where its memory is refused: every event but Advance changes nothing.
abbrev pub core_starved : {A W X J F R : Type 0} → State W J F R → Event A W X J F R → State W J F R
core_starved s (Take job) = s
core_starved s (Apply write) = s
core_starved s (Begin deadline) = s
core_starved s (Claim reader) = s
core_starved s (Look reader) = s
core_starved s (Ring reader moment) = s
core_starved s (Advance reader) = starved_advance s reader
core_starved s (Cut reader) = s
core_starved s Close = s
