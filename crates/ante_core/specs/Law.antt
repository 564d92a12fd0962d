-- What is true of every job that any run finishes.
use Rattle.std.specs.Prelude.{◌≡◌, ℕ, ◌≤◌, Bool, false, List, [], ◌∷◌, ◌++◌, length, take, Some, None}
use Rattle.std.specs.List.{AllByRecursion}
use Rattle.ante_core.specs.declared.Event.{Event}
use Rattle.ante_core.specs.declared.Event.TheVariants.{Take, Claim, Advance}
use Rattle.ante_core.specs.declared.DoneJob.{DoneJob}
use Rattle.ante_core.specs.Machine.{Meaning, State, start}
use Rattle.ante_core.specs.Runs.{after_event, run, writes_by, writes_of, world_after, Alone, job_of}

module _ {A W X J F R : Type 0} (m : Meaning W X J F R) where
  -- The event hands the job out to the reader: it held none before and holds this one afterwards.
  abbrev pub HandsOut : State W J F R → Event A W X J F R × Bool → ℕ → ℕ → Type 0
  HandsOut s e reader job = (job_of s reader ≡ None) × (job_of (after_event m s e) reader ≡ Some job)

  -- The reader holds the job from this state on through these events, none of which makes a write or hands this
  -- job out.
  abbrev pub StaysInHand : ℕ → ℕ → State W J F R → List (Event A W X J F R × Bool) → Type 0
  StaysInHand reader job s [] = job_of s reader ≡ Some job
  StaysInHand reader job s (e ∷ es) =
      (job_of s reader ≡ Some job) × (writes_by m s e ≡ []) × ((other : ℕ) → HandsOut s e other job → ⊥) × StaysInHand reader job (after_event m s e) es

  -- The job was taken, by this event of these, as the one of its number.
  pub record IsTaken (world : W) (events : List (Event A W X J F R × Bool)) (job : ℕ) (value : J) : Type 0 where
    pub before : List (Event A W X J F R × Bool)
    pub rest : List (Event A W X J F R × Bool)
    pub split : events ≡ before ++ (Take value, false) ∷ rest
    pub number : length (run m (start world) before).jobs ≡ job
    pub takes : (run m (start world) (before ++ (Take value, false) ∷ [])).jobs ≡ (run m (start world) before).jobs ++ value ∷ []

  -- The last claim of the job in these events is the reader's, and from it to their end the job stays in its
  -- hands and no write is made.
  pub record IsClaimed (world : W) (events : List (Event A W X J F R × Bool)) (reader job : ℕ) : Type 0 where
    pub before : List (Event A W X J F R × Bool)
    pub between : List (Event A W X J F R × Bool)
    pub split : events ≡ before ++ (Claim reader, false) ∷ between
    pub handed : HandsOut (run m (start world) before) (Claim reader, false) reader job
    pub stays : StaysInHand reader job (run m (start world) (before ++ (Claim reader, false) ∷ [])) between

  -- The job is finished by the piece of work that the last of these events runs, for the reader.
  pub record IsFinished (world : W) (past : List (Event A W X J F R × Bool)) (reader : ℕ) (d : DoneJob R) : Type 0 where
    pub claimed : IsClaimed world past reader d.job
    pub finishes : (run m (start world) (past ++ (Advance reader, false) ∷ [])).done ≡ (run m (start world) past).done ++ d ∷ []
    pub position : d.position ≡ length (writes_of m (start world) past)

  -- A done job of a run: it was taken, its reply is what it gives alone on the world after the writes up to its
  -- position, that position is at least the number of writes made before it was taken, and from its last claim to
  -- its finish no write was made.
  pub record IsServed (world : W) (events : List (Event A W X J F R × Bool)) (d : DoneJob R) : Type 0 where
    pub value : J
    pub reply : Alone m (world_after m world (take d.position (writes_of m (start world) events))) value d.reply
    pub taken : IsTaken world events d.job value
    pub since_taken : length (writes_of m (start world) taken.before) ≤ d.position
    pub past : List (Event A W X J F R × Bool)
    pub reader : ℕ
    pub rest : List (Event A W X J F R × Bool)
    pub split : events ≡ past ++ (Advance reader, false) ∷ rest
    pub finished : IsFinished world past reader d

  -- Every done job of the run was served so.
  abbrev pub EveryJobIsServed : W → List (Event A W X J F R × Bool) → Type 0
  EveryJobIsServed world events = AllByRecursion (IsServed world events) (run m (start world) events).done
