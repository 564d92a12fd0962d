-- The events of a window, by what its jobs came to, who claimed them, and the ring.
use Rattle.std.specs.Prelude.{ℕ, ◌+◌, Bool, false, ◌||◌, ◌==◌, if◌then◌else◌, List, [], ◌∷◌, ◌++◌, Option, Some, None, option_map, unwrap_or}
use Rattle.std.specs.List.{flat_map}
use Rattle.ante_window.specs.declared.outcome.Outcome.{Outcome}
use Rattle.ante_window.specs.declared.outcome.Outcome.TheVariants as outcome
use Rattle.ante_window.specs.declared.outcome.Bell.{Bell}
use Rattle.ante_window.specs.declared.schedule.Left.{Left}
use Rattle.ante_window.specs.declared.schedule.Left.TheVariants.{Finished, Starved, Cut}
use Rattle.ante_window.specs.declared.schedule.Turn.{Turn}
use Rattle.ante_window.specs.declared.schedule.WindowEvent.{WindowEvent}
use Rattle.ante_window.specs.declared.schedule.WindowEvent.TheVariants as event
use Rattle.ante_window.specs.Fates.{nobody}

-- how a job left its reader's hands, by what it came to
abbrev pub left_by : {R : Type 0} → Outcome R → Left
left_by (outcome.Done r) = Finished
left_by (outcome.Back at) = Cut
left_by outcome.OutOfMemory = Starved

-- the turn of this job, where it was claimed
abbrev pub turn_of : {R : Type 0} → ℕ → ℕ → Outcome R → List Turn
turn_of job owner outcome = if owner == nobody then [] else (record { reader = owner; job = job; left = left_by outcome }) ∷ []

-- the turns of the claimed jobs from this one on, of these owners and these outcomes
abbrev pub turns_from : {R : Type 0} → ℕ → List ℕ → List (Outcome R) → List Turn
turns_from job [] outcomes = []
turns_from job (o ∷ os) [] = []
turns_from job (o ∷ os) (x ∷ xs) = turn_of job o x ++ turns_from (job + 1) os xs

-- the reader's last turn among these, or this one where it has none
abbrev pub last_from : Option Turn → ℕ → List Turn → Option Turn
last_from found reader [] = found
last_from found reader (t ∷ ts) = last_from (if t.reader == reader then Some t else found) reader ts

-- the event that ends a turn before the bell: a cut is none
abbrev pub ended_as : ℕ → ℕ → Left → List WindowEvent
ended_as reader job Finished = event.Finish reader job ∷ []
ended_as reader job Starved = event.Starve reader job ∷ []
ended_as reader job Cut = []

abbrev pub ended : Turn → List WindowEvent
ended t = ended_as t.reader t.job t.left

-- the event of a turn that the bell cut
abbrev pub cut_as : ℕ → ℕ → Left → List WindowEvent
cut_as reader job Finished = []
cut_as reader job Starved = []
cut_as reader job Cut = event.Cut reader job ∷ []

abbrev pub cut : Turn → List WindowEvent
cut t = cut_as t.reader t.job t.left

-- whether the reader has one of these turns
abbrev pub has_turn : ℕ → List Turn → Bool
has_turn reader [] = false
has_turn reader (t ∷ ts) = (t.reader == reader) || has_turn reader ts

-- what ends the turn, unless its reader has another
abbrev pub ended_unless : Bool → Turn → List WindowEvent
ended_unless more t = if more then [] else ended t

-- what ends the turns after which their reader has none
abbrev pub last_ended : List Turn → List WindowEvent
last_ended [] = []
last_ended (t ∷ ts) = ended_unless (has_turn t.reader ts) t ++ last_ended ts

-- what ends the reader's last turn among these
abbrev pub ended_of : ℕ → List Turn → List WindowEvent
ended_of reader before = unwrap_or (option_map ended (last_from None reader before)) []

-- The claims in the order of the jobs, each after what ends its reader's turn before it
abbrev pub claims : List Turn → List Turn → List WindowEvent
claims before [] = []
claims before (t ∷ ts) = ended_of t.reader before ++ event.Claim t.reader t.job ∷ claims (before ++ t ∷ []) ts

-- the ring, where there was one
abbrev pub ring : Option Bell → List WindowEvent
ring None = []
ring (Some b) = event.Ring b.reader b.moment ∷ []

-- The schedule of these turns: the claims with what comes between them, what ends each reader's last turn, the ring, the cuts by job, and
-- the window's end
abbrev pub schedule : List Turn → Option Bell → List WindowEvent
schedule ts bell = claims [] ts ++ last_ended ts ++ ring bell ++ flat_map cut ts ++ event.Close ∷ []
