-- Whole runs, from what their calls answer.
use Rattle.std.proofs.Common.{◌≡◌, ℕ, true, false, List, [], Option, Result, Err, refl, ap, sym, subst, ◌∙◌}
use Rattle.std.specs.Prelude.{reverse}
use Rattle.std.specs.declared.alloc.AllocError.{AllocError}
use Rattle.ante_wmem.specs.Linear.{LinearMemory}
use Rattle.ante_wmem.specs.HostCalls.{HostMeaning}
use Rattle.ante_wmem.specs.declared.host.HostAnswer.{HostAnswer}
use Rattle.ante_wtree.specs.Trees.{Tree}
use Rattle.ante_wvalues.specs.declared.data.Data.{Data}
use Rattle.ante_wmeaning.specs.declared.ends.TrapKind.TheVariants as trap
use Rattle.ante_wmeaning.specs.declared.ends.RunEnd.{RunEnd}
use Rattle.ante_wmeaning.specs.declared.ends.RunEnd.TheVariants as end
use Rattle.ante_wmeaning.specs.PlainInstructions.{Values}
use Rattle.ante_wrun.specs.declared.machine.Called.{Called}
use Rattle.ante_wrun.specs.InstanceAndCalls.{CallLeads}
use Rattle.ante_wvalues.specs.FrameValues.{FrameValues}
use Rattle.ante_wmeaning.specs.Environment.{Environment, after_item}
use Rattle.ante_wmeaning.specs.Configurations.{Program, State, Outcome, Normal, Branch, Returned, Ended, Lacks, InHost, Stuck}
use Rattle.ante_wmeaning.specs.Execution.{supplied, and_then, invoked}
use Rattle.ante_wrun.specs.ThreadStates.{state_of}
use Rattle.ante_wmeaning.specs.Environment.{Begins, past, ByEvents, Wanting}
use Rattle.ante_wmeaning.specs.RunEnds.{Ends, Lacking}
use Rattle.ante_wtree.specs.Limits.{most_frames}
use Rattle.ante_wmeaning.specs.Invocation.{called_with, outset_of, where_fit, both_run, run_of}
use Rattle.ante_wmeaning.specs.RunEnds.{RunAnswers}
use Rattle.ante_wmeaning.specs.Instantiation.{segments_fit, program_in, first_values}

-- what holds of an environment and of the one after the events, may be said in other words
pub by_events : {S : Type 0} (may : S → Option ℕ → S → Type 0) (old new : S) (A B : Environment → Environment → Type 0) → ((v u : Environment) → A v u → B v u) →
    ByEvents may old new (λ events. (v : Environment) → Begins v events → A v (past v events)) → ByEvents may old new (λ events. (v : Environment) → Begins v events → B v (past v events))
by_events may old new A B f h = (h.0, h.1, λ v b. f v (past v h.0) (h.2 v b))

module _ {W R : Type 0} (stands : W → ℕ → List ℕ → LinearMemory → ℕ → HostAnswer R → W → Type 0) where
  pub lacking_then : (w : W) (left : ℕ) (u : Environment) (o : Outcome W R) (go : State W → Outcome W R) → Lacking stands w left u o → Lacking stands w left u (and_then o go)
  lacking_then w left u (Normal s) go h = absurd h
  lacking_then w left u (Branch n s) go h = h
  lacking_then w left u (Returned s) go h = h
  lacking_then w left u (Ended e s) go h = h
  lacking_then w left u (Lacks s) go h = h
  lacking_then w left u (InHost f args a n s) go h = h
  lacking_then w left u Stuck go h = h

  pub ends_then : (e : RunEnd R) (w : W) (left : ℕ) (u : Environment) (o : Outcome W R) (go : State W → Outcome W R) → (e ≡ end.Done → ⊥) → Ends stands e w left u o → Ends stands e w left u (and_then o go)
  ends_then e w left u (Normal s) go early h = absurd (early h.0)
  ends_then e w left u (Branch n s) go early h = h
  ends_then e w left u (Returned s) go early h = h
  ends_then e w left u (Ended f s) go early h = h
  ends_then e w left u (Lacks s) go early h = h
  ends_then e w left u (InHost f args a n s) go early h = h
  ends_then e w left u Stuck go early h = h

  pub done : (d : Data) (w : W) (left last : ℕ) (u : Environment) (o : Outcome W R) → o ≡ Normal (state_of d w left last u) → Ends stands end.Done w left u o
  done d w left last u o h = subst (Ends stands end.Done w left u) (sym h) (refl, refl, refl, refl)

  pub wanted_first : (s : State W) (go : State W → Outcome W R) → Wanting s.environment → Lacking stands s.world s.left s.environment (supplied (s.environment.item_lacks s.environment.items) s go)
  wanted_first s go want = subst (λ b. Lacking stands s.world s.left s.environment (supplied b s go)) (sym want.0) (refl, refl, refl)

-- ---- want of memory

module _ {S W R : Type 0} (stands : W → ℕ → List ℕ → LinearMemory → ℕ → HostAnswer R → W → Type 0) (may : S → Option ℕ → S → Type 0) (old new : S) (F : Environment → Outcome W R) where
  abbrev Lacked : W → (left : ℕ) → Type 0
  Lacked w left = ByEvents may old new (λ events. (v : Environment) → Begins v events → Wanting (past v events) → Lacking stands w left (past v events) (F v))

  pub call_lacks : (r : Result (Called R) AllocError) (y : AllocError) (w : W) (left last : ℕ) → r ≡ Err y → Lacked w left →
      ByEvents may old new (λ events. (v : Environment) → Begins v events → CallLeads stands (F v) r w left last (past v events))
  call_lacks r y w left last e h = subst (λ x. ByEvents may old new (λ events. (v : Environment) → Begins v events → CallLeads stands (F v) x w left last (past v events))) (sym e) h

  pub run_lacks : (r : Result (RunEnd R) AllocError) (y : AllocError) (w : W) (left : ℕ) → r ≡ Err y → Lacked w left →
      ByEvents may old new (λ events. (v : Environment) → Begins v events → RunAnswers stands (F v) r w left (past v events))
  run_lacks r y w left e h = subst (λ x. ByEvents may old new (λ events. (v : Environment) → Begins v events → RunAnswers stands (F v) x w left (past v events))) (sym e) h

module _ {W R : Type 0} (host : HostMeaning W R) (program : Program) where
  -- a call with other operands and free frames
  pub called_as : (d : Data) (values : FrameValues) (free : ℕ) (args : List ℕ) (f : ℕ) (w : W) (left last : ℕ) (u : Environment) →
      values ≡ record { below = []; locals = []; stack = reverse args } → free ≡ most_frames →
      invoked host program free f (state_of (record d { values = values }) w left last u) ≡ called_with host program args f (state_of d w left last u)
  called_as d values free args f w left last u e h =
      ap (λ n. invoked host program n f (state_of (record d { values = values }) w left last u)) h
      ∙ ap (λ (v : FrameValues). invoked host program most_frames f (state_of (record d { values = v }) w left last u)) e

  pub recalled : {S : Type 0} (may : S → Option ℕ → S → Type 0) (old new : S) (d : Data) (values : FrameValues) (free : ℕ) (args : List ℕ) (f : ℕ) (w : W) (left last : ℕ) →
      values ≡ record { below = []; locals = []; stack = reverse args } → free ≡ most_frames → (Q : Outcome W R → Environment → Type 0) →
      ByEvents may old new (λ events. (v : Environment) → Begins v events → Q (invoked host program free f (state_of (record d { values = values }) w left last v)) (past v events)) →
      ByEvents may old new (λ events. (v : Environment) → Begins v events → Q (called_with host program args f (state_of d w left last v)) (past v events))
  recalled may old new d values free args f w left last e h Q =
      by_events may old new (λ v u. Q (invoked host program free f (state_of (record d { values = values }) w left last v)) u) (λ v u. Q (called_with host program args f (state_of d w left last v)) u)
      (λ v u. subst (λ o. Q o u) (called_as d values free args f w left last v e h))

module _ {W R : Type 0} (host : HostMeaning W R) where
  -- the whole run, from where both functions are called
  pub runs_as : (m : Tree) (args : List ℕ) (p : Program) (values : Values) (w : W) (left : ℕ) (v : Environment) →
      v.item_lacks v.items ≡ false → segments_fit m ≡ true → p ≡ program_in m → values ≡ first_values m →
      both_run host p m args (record { values = values; world = w; left = left; last = left; environment = after_item v }) ≡ run_of host m args w left v
  runs_as m args p values w left v supply fit e h =
      let both = both_run host (program_in m) m args in
      ap (λ q. both_run host q m args (record { values = values; world = w; left = left; last = left; environment = after_item v })) e
      ∙ ap (λ (x : Values). both (record { values = x; world = w; left = left; last = left; environment = after_item v })) h
      ∙ sym (ap (λ b. where_fit b both (record (outset_of m w left v) { environment = after_item v })) fit)
      ∙ sym (ap (λ b. supplied b (outset_of m w left v) (where_fit (segments_fit m) both)) supply)

  -- a segment that doesn't fit
  pub unfit : (m : Tree) (args : List ℕ) (w : W) (left : ℕ) (v : Environment) → v.item_lacks v.items ≡ false → segments_fit m ≡ false →
      Ended (end.Trap trap.OutOfBounds) (record (outset_of m w left v) { environment = after_item v }) ≡ run_of host m args w left v
  unfit m args w left v supply fit =
      let both = both_run host (program_in m) m args in
      sym (ap (λ b. where_fit b both (record (outset_of m w left v) { environment = after_item v })) fit)
      ∙ sym (ap (λ b. supplied b (outset_of m w left v) (where_fit (segments_fit m) both)) supply)
