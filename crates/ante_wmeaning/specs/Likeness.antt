-- Hosts that reply alike run alike. So a run is a function of what its host shows, and of nothing else that the host has.
use Rattle.std.specs.Prelude.{◌≡◌, ◌⊎◌, ℕ, List, Result, Ok, Err}
use Rattle.std.specs.declared.alloc.AllocError.{AllocError}
use Rattle.ante_wmem.specs.Linear.{LinearMemory}
use Rattle.ante_wmem.specs.HostCalls.{Reply, value, nothing, exit, refused, step_limit, HostMeaning}
use Rattle.ante_wmem.specs.declared.host.HostAnswer.{HostAnswer}
use Rattle.ante_wmem.specs.declared.host.HostAnswer.TheVariants as answer
use Rattle.ante_wtree.specs.Trees.{Tree}
use Rattle.ante_wmeaning.specs.declared.ends.RunEnd.{RunEnd}
use Rattle.ante_wmeaning.specs.declared.ends.RunEnd.TheVariants as end
use Rattle.ante_wmeaning.specs.Environment.{Environment, calm_from}
use Rattle.ante_wmeaning.specs.Configurations.{State, Outcome, Normal, Branch, Returned, Ended, Lacks, InHost, Stuck}
use Rattle.ante_wmeaning.specs.RunEnds.{Remainder}
use Rattle.ante_wmeaning.specs.Invocation.{run_of}

-- ---- hosts that reply alike

module _ {V W R : Type 0} (Like : V → W → Type 0) where
  -- the same reply, which leaves hosts that are like one another
  abbrev pub SameReply : Reply V R → Reply W R → Type 0
  SameReply (value n v m) reply = (w : W) × Like v w × (reply ≡ value n w m)
  SameReply (nothing v m) reply = (w : W) × Like v w × (reply ≡ nothing w m)
  SameReply (exit v m) reply = (w : W) × Like v w × (reply ≡ exit w m)
  SameReply (refused r) reply = reply ≡ refused r
  SameReply step_limit reply = reply ≡ step_limit

  -- Where two hosts are like one another, each call has the same reply of both, and takes the same steps.
  abbrev pub ReplyAlike : HostMeaning V R → HostMeaning W R → Type 0
  ReplyAlike one other = (v : V) (w : W) (number : ℕ) (args : List ℕ) (memory : LinearMemory) (left : ℕ) → Like v w →
      SameReply (one v number args memory left).reply (other w number args memory left).reply
      × ((one v number args memory left).left ≡ (other w number args memory left).left)

-- ---- runs that go alike

-- the state over another host, in another environment
abbrev pub over : {V W : Type 0} → (Environment → Environment) → State V → W → State W
over turned s w = record { values = s.values; world = w; left = s.left; last = s.last; environment = turned s.environment }

module _ {V W R : Type 0} (turned : Environment → Environment) (Like : V → W → Type 0) where
  -- the same outcome over a host that is like it, in another environment
  abbrev pub SameOutcome : Outcome V R → Outcome W R → Type 0
  SameOutcome (Normal s) o = (w : W) × Like s.world w × (o ≡ Normal (over turned s w))
  SameOutcome (Branch n s) o = (w : W) × Like s.world w × (o ≡ Branch n (over turned s w))
  SameOutcome (Returned s) o = (w : W) × Like s.world w × (o ≡ Returned (over turned s w))
  SameOutcome (Ended e s) o = (w : W) × Like s.world w × (o ≡ Ended e (over turned s w))
  SameOutcome (Lacks s) o = (w : W) × Like s.world w × (o ≡ Lacks (over turned s w))
  SameOutcome (InHost f args a n s) o = (w : W) × Like s.world w × (o ≡ InHost f args a n (over turned s w))
  SameOutcome Stuck o = o ≡ Stuck

-- The law: in one environment, the runs of a module over hosts that are like one another have the same outcome. Also where
-- a look, a refusal or want of memory ends it, the host that is left is like the other's.
abbrev pub RunAlike : {V W R : Type 0} → (V → W → Type 0) → HostMeaning V R → HostMeaning W R → Type 0
RunAlike {V} {W} Like one other = (m : Tree) (args : List ℕ) (v : V) (w : W) (left : ℕ) (environment : Environment) → Like v w →
    SameOutcome (λ o. o) Like (run_of one m args v left environment) (run_of other m args w left environment)

-- ---- the run that nothing from the environment ends

-- the host is like one of the other's
abbrev pub HasLike : {V W : Type 0} → (V → W → Type 0) → V → Type 0
HasLike {V} {W} Like v = (w : W) × Like v w

module _ {V W R : Type 0} (Like : V → W → Type 0) where
  abbrev pub CutEnd : RunEnd R → V → Type 0
  CutEnd (end.Cut at) v = HasLike Like v
  CutEnd end.Done v = ⊥
  CutEnd end.Exit v = ⊥
  CutEnd (end.Trap kind) v = ⊥
  CutEnd end.StepLimit v = ⊥
  CutEnd end.CallDepth v = ⊥
  CutEnd (end.Refused r) v = ⊥

  abbrev pub WantedIn : HostAnswer R → V → Type 0
  WantedIn answer.OutOfMemory v = HasLike Like v
  WantedIn (answer.Refused r) v = ⊥
  WantedIn answer.StepLimit v = ⊥
  WantedIn (answer.Value n) v = ⊥
  WantedIn answer.Nothing v = ⊥
  WantedIn answer.Exit v = ⊥

  -- A look or want of memory ended it. The host that is left is like one of the other's.
  abbrev pub Disturbed : Outcome V R → Type 0
  Disturbed (Normal s) = ⊥
  Disturbed (Branch n s) = ⊥
  Disturbed (Returned s) = ⊥
  Disturbed (Ended e s) = CutEnd e s.world
  Disturbed (Lacks s) = HasLike Like s.world
  Disturbed (InHost f args a n s) = WantedIn a s.world
  Disturbed Stuck = ⊥

-- The law: every run but one that a look or want of memory ends is the run where nothing disturbs it.
abbrev pub RunUndisturbed : {V W R : Type 0} → (V → W → Type 0) → HostMeaning V R → HostMeaning W R → Type 0
RunUndisturbed {V} {W} Like one other = (m : Tree) (args : List ℕ) (v : V) (w : W) (left : ℕ) (environment : Environment) → Like v w →
    Disturbed Like (run_of one m args v left environment)
    ⊎ SameOutcome calm_from Like (run_of one m args v left environment) (run_of other m args w left (calm_from environment))

-- ---- what stands above a run

module _ {V W R : Type 0} (Like : V → W → Type 0) (stands : Remainder V R) where
  -- what a refused call leaves of a host that was like this one
  abbrev pub LeftOf : W → ℕ → List ℕ → LinearMemory → ℕ → HostAnswer R → V → Type 0
  LeftOf w number args memory left a v = (u : V) × Like u w × stands u number args memory left a v

  -- A run of the other host has this end with these steps left, and the host that is left is like the other's.
  abbrev pub EndsLike : RunEnd R → V → (left : ℕ) → Environment → Outcome W R → Type 0
  EndsLike e v left environment (Normal s) = (e ≡ end.Done) × Like v s.world × (s.left ≡ left) × (s.environment ≡ environment)
  EndsLike e v left environment (Branch n s) = ⊥
  EndsLike e v left environment (Returned s) = ⊥
  EndsLike e v left environment (Ended f s) = (e ≡ f) × Like v s.world × (s.left ≡ left) × (s.environment ≡ environment)
  EndsLike e v left environment (Lacks s) = ⊥
  EndsLike e v left environment (InHost f args (answer.Value n) after s) = ⊥
  EndsLike e v left environment (InHost f args answer.Nothing after s) = ⊥
  EndsLike e v left environment (InHost f args answer.Exit after s) = ⊥
  EndsLike e v left environment (InHost f args (answer.Refused r) after s) =
      (e ≡ end.Refused r) × LeftOf s.world f args s.values.memory s.left (answer.Refused r) v × (after ≡ left) × (s.environment ≡ environment)
  EndsLike e v left environment (InHost f args answer.StepLimit after s) =
      (e ≡ end.StepLimit) × LeftOf s.world f args s.values.memory s.left answer.StepLimit v × (left ≡ 0) × (s.environment ≡ environment)
  EndsLike e v left environment (InHost f args answer.OutOfMemory after s) = ⊥
  EndsLike e v left environment Stuck = ⊥

  abbrev pub EndsLikeSo : RunEnd R → V → (left : ℕ) → Outcome W R → Type 0
  EndsLikeSo e v left o = (after : Environment) × EndsLike e v left after o

  -- what a call that was refused memory left of a host that was like one of the other's
  abbrev pub LeftUnsupplied : V → Type 0
  LeftUnsupplied v =
      (w : W) × (number : ℕ) × (args : List ℕ) × (memory : LinearMemory) × (left : ℕ) × LeftOf w number args memory left answer.OutOfMemory v

  -- a host that is like one of the other's, or what is left so
  abbrev pub Remains : V → Type 0
  Remains v = HasLike Like v ⊎ LeftUnsupplied v

  -- What a run answers, from the outcome of the undisturbed run over the other host: its end, the host that is like the
  -- other's, and the steps left. After a cut and after want of memory, the host is still like one of the other's.
  abbrev pub AnswersLike : Outcome W R → Result (RunEnd R) AllocError → V → (left : ℕ) → Type 0
  AnswersLike o (Ok (end.Cut at)) v left = Remains v
  AnswersLike o (Ok end.Done) v left = EndsLikeSo end.Done v left o
  AnswersLike o (Ok end.Exit) v left = EndsLikeSo end.Exit v left o
  AnswersLike o (Ok (end.Trap kind)) v left = EndsLikeSo (end.Trap kind) v left o
  AnswersLike o (Ok end.StepLimit) v left = EndsLikeSo end.StepLimit v left o
  AnswersLike o (Ok end.CallDepth) v left = EndsLikeSo end.CallDepth v left o
  AnswersLike o (Ok (end.Refused r)) v left = EndsLikeSo (end.Refused r) v left o
  AnswersLike o (Err e) v left = Remains v
