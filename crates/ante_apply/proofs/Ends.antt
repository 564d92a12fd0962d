-- How a run ends, from the step that it begins with on.
use Rattle.std.proofs.Common.{◌≡◌, refl, sym, ap, subst, ◌∙◌, true≢false, ℕ, ◌-◌, Bool, true, false, not, List, Option, None, Some, Result, Ok, Err}
use Rattle.std.specs.Prelude.{nat_lt, if◌then◌else◌, option_map}
use Rattle.std.specs.declared.alloc.AllocError.{AllocError}
use Rattle.ante_types.specs.declared.context.RunContext.{RunContext}
use Rattle.ante_types.specs.declared.failure.Failure.{Failure}
use Rattle.ante_types.specs.declared.failure.Failure.TheVariants as failure
use Rattle.ante_types.specs.World.{World}
use Rattle.ante_wmeaning.specs.declared.ends.RunEnd.{RunEnd}
use Rattle.ante_wmeaning.specs.declared.ends.RunEnd.TheVariants as end
use Rattle.ante_calls.specs.Views.{Seen, said}
use Rattle.ante_execution.specs.Answers.{DoesNative}
use Rattle.ante_execution.specs.Codes.{codes_with}
use Rattle.ante_execution.specs.declared.ends.ApplyEnd.{ApplyEnd}
use Rattle.ante_execution.specs.declared.ends.ApplyEnd.TheVariants as ends
use Rattle.ante_execution.specs.declared.ends.NativeFault.{NativeFault}
use Rattle.ante_execution.specs.declared.ends.NativeFault.TheVariants as fault
use Rattle.ante_execution.specs.declared.kinds.NativeAction.{NativeAction}
use Rattle.ante_execution.specs.Native.{native_of_run, native_run, native_in_run, native_steps}
use Rattle.ante_execution.specs.Runs.{Ran, fine, fails, paid, in_world, is_setcode, receiver_runs, native_done, begun, code_at, first_steps, runs}
use Rattle.ante_host.specs.Code as host
use Rattle.ante_apply.specs.Runs.{ShowsEnd, EndedAs, ShowsNative, NativelyDoes, Leads, RunsTo}
use Rattle.ante_apply.proofs.Stops.{rises_none}

-- ---- with no look

pub is_fine : (ran : Ran) (old : Option ℕ) (s : Seen) (left : ℕ) → ran ≡ fine s left → Leads ran old old None s.world s.run left
is_fine ran old s left e = (s, refl, refl, (0, rises_none old, e))

-- of a run that failed only what it said shows
pub is_failed : (ran : Ran) (old : Option ℕ) (f : Failure) (s t : Seen) (left : ℕ) → said s.run ≡ said t.run → ran ≡ fails f s left →
    Leads ran old old (Some f) t.world t.run left
is_failed ran old f s t left same e = (
  t,
  refl,
  refl,
  (
    0,
    rises_none old,
    (ap (λ (r : Ran). r.failure) e, ap (λ (r : Ran). said r.seen.run) e ∙ same, ap (λ (r : Ran). r.left) e, ap (λ (r : Ran). r.looks) e),
  ),
)

pub same_ran : (ran other : Ran) (old new : Option ℕ) (result : Result (Option Failure × RunContext) ApplyEnd) (w : World) (left : ℕ) → ran ≡ other →
    RunsTo other old new result w left → RunsTo ran old new result w left
same_ran ran other old new result w left e h = subst (λ r. RunsTo r old new result w left) (sym e) h

-- ---- steps

module _ (steps left rest : ℕ) (ok : Bool) (s : Seen) (go : ℕ → Ran) where
  abbrev Pays : Bool → Ran
  Pays b = if b then fails failure.StepLimit s 0 else go (left - steps)

  unpaid_by : (b : Bool) → ok ≡ not b → rest ≡ (if b then 0 else left - steps) → ok ≡ false → Pays b ≡ fails failure.StepLimit s rest
  unpaid_by true fits same h = ap (λ n. fails failure.StepLimit s n) (sym same)
  unpaid_by false fits same h = absurd (true≢false (sym fits ∙ h))

  paid_by : (b : Bool) → ok ≡ not b → rest ≡ (if b then 0 else left - steps) → ok ≡ true → Pays b ≡ go rest
  paid_by true fits same h = absurd (true≢false (sym h ∙ fits))
  paid_by false fits same h = ap go (sym same)

  pub unpaid : ok ≡ not (nat_lt left steps) → rest ≡ (if nat_lt left steps then 0 else left - steps) → ok ≡ false → paid steps left s go ≡ fails failure.StepLimit s rest
  unpaid = unpaid_by (nat_lt left steps)

  pub paid_so : ok ≡ not (nat_lt left steps) → rest ≡ (if nat_lt left steps then 0 else left - steps) → ok ≡ true → paid steps left s go ≡ go rest
  paid_so = paid_by (nat_lt left steps)

-- ---- the interpreter's end

module _ (ran : Ran) (old new : Option ℕ) (run : RunContext) (w : World) (left : ℕ) where
  shown : (e : RunEnd Failure) (f : Option Failure) → host.Leads ran old new (Ok e) w run left → ShowsEnd e (Ok f) → Leads ran old new f w run left
  shown (end.Cut at) f h e = absurd cc
  shown end.Done f (s, a, b, c) e = (s, a, b, subst (λ x. host.CameOut ran old new x s left) (sym e) c)
  shown end.Exit f (s, a, b, c) e = (s, a, b, subst (λ x. host.CameOut ran old new x s left) (sym e) c)
  shown (end.Trap kind) f (s, a, b, c) e = (s, a, b, subst (λ x. host.CameOut ran old new x s left) (sym e) c)
  shown end.StepLimit f (s, a, b, c) e = (s, a, b, subst (λ x. host.CameOut ran old new x s left) (sym e) c)
  shown end.CallDepth f (s, a, b, c) e = (s, a, b, subst (λ x. host.CameOut ran old new x s left) (sym e) c)
  shown (end.Refused r) f (s, a, b, c) e = (s, a, b, subst (λ x. host.CameOut ran old new x s left) (sym e) c)

  no_failure : (e : RunEnd Failure) (f : Failure) → ShowsEnd e (Err (ends.Failed f)) → ⊥
  no_failure (end.Cut at) f e = cc
  no_failure end.Done f e = e
  no_failure end.Exit f e = e
  no_failure (end.Trap kind) f e = e
  no_failure end.StepLimit f e = e
  no_failure end.CallDepth f e = e
  no_failure (end.Refused r) f e = e

  pub ended_runs : (e : Result (RunEnd Failure) AllocError) (result : Result (Option Failure × RunContext) ApplyEnd) → host.Leads ran old new e w run left →
      EndedAs e run result → RunsTo ran old new result w left
  ended_runs (Ok e) (Ok ended) h (shows, same) = subst (λ r. Leads ran old new ended.0 w r left) (sym same) (shown e ended.0 h shows)
  ended_runs (Ok e) (Err (ends.Failed f)) h shows = no_failure e f shows
  ended_runs (Ok e) (Err ends.OutOfMemory) h shows = tt
  ended_runs (Ok e) (Err (ends.Cut at)) h shows = tt
  ended_runs (Err a) result h is = subst (λ r. RunsTo ran old new r w left) (sym is) tt

-- ---- native actions

module _ (does : Result World Failure) (w : World) where
  some_is : (x : Result World Failure) → Some does ≡ Some x → does ≡ x
  some_is x e = cc

  natively : (done : Bool) → DoesNative (Some does) (Ok done) w → does ≡ Ok w
  natively true e = some_is (Ok w) e
  natively false e = absurd cc

  pub native_shown : (done : Result Bool NativeFault) (result : Result (Option Failure) ApplyEnd) → DoesNative (Some does) done w → ShowsNative done result → NativelyDoes does result w
  native_shown (Ok done) result h is = subst (λ r. NativelyDoes does r w) (sym is) (natively done h)
  native_shown (Err (fault.Failed f)) result h is = subst (λ r. NativelyDoes does r w) (sym is) (some_is (Err f) h)
  native_shown (Err fault.OutOfMemory) result h is = subst (λ r. NativelyDoes does r w) (sym is) tt

pub of_run : (accepts : List ℕ → Bool) (run : RunContext) (w v : World) (n : NativeAction) (done : Result Bool NativeFault) → native_of_run run ≡ Some n →
    DoesNative (native_in_run accepts run w) done v → DoesNative (Some (native_run accepts run w n)) done v
of_run accepts run w v n done is h = subst (λ o. DoesNative (option_map (native_run accepts run w) o) done v) is h

module _ (accepts : List ℕ → Bool) (s : Seen) (left : ℕ) where
  -- no native action
  pub begun_none : (o : Option NativeAction) → o ≡ None → begun (codes_with accepts) o s left ≡ receiver_runs (codes_with accepts) s left
  begun_none o is = ap (λ x. begun (codes_with accepts) x s left) is

  module _ (n : NativeAction) where
    abbrev pub after : ℕ → Ran
    after rest = native_done (codes_with accepts) n (native_run accepts s.run s.world n) s rest

    pub begun_some : (o : Option NativeAction) → o ≡ Some n → begun (codes_with accepts) o s left ≡ paid (native_steps n s.run) left s after
    unfolding codes_with
    begun_some o is = ap (λ x. begun (codes_with accepts) x s left) is

    pub native_failed : (f : Failure) (rest : ℕ) → native_run accepts s.run s.world n ≡ Err f → after rest ≡ fails f s rest
    native_failed f rest e = ap (λ r. native_done (codes_with accepts) n r s rest) e

    abbrev chosen : World → ℕ → Bool → Ran
    chosen w rest b = if b then fine (in_world w s) rest else receiver_runs (codes_with accepts) (in_world w s) rest

    native_went : (w : World) (rest : ℕ) → native_run accepts s.run s.world n ≡ Ok w → after rest ≡ chosen w rest (is_setcode n)
    native_went w rest e = ap (λ r. native_done (codes_with accepts) n r s rest) e

    pub native_alone : (w : World) (rest : ℕ) → native_run accepts s.run s.world n ≡ Ok w → is_setcode n ≡ true → after rest ≡ fine (in_world w s) rest
    native_alone w rest e is = native_went w rest e ∙ ap (chosen w rest) is

    pub native_then_code : (w : World) (rest : ℕ) → native_run accepts s.run s.world n ≡ Ok w → is_setcode n ≡ false →
        after rest ≡ receiver_runs (codes_with accepts) (in_world w s) rest
    native_then_code w rest e is = native_went w rest e ∙ ap (chosen w rest) is

-- ---- the whole run, after its first steps

pub by_steps : (accepts : List ℕ → Bool) (s : Seen) (left : ℕ) (code : List ℕ) → code ≡ code_at s.run.receiver s.world → (steps : ℕ) → steps ≡ first_steps (codes_with accepts) code →
    runs (codes_with accepts) s left ≡ paid steps left s (begun (codes_with accepts) (native_of_run s.run) s)
unfolding runs
by_steps accepts s left code same steps is =
    ap (λ n. paid n left s (begun (codes_with accepts) (native_of_run s.run) s)) (sym (is ∙ ap (first_steps (codes_with accepts)) same))
