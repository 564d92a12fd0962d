-- What is known of an outcome, through all that may follow it: said once, for every fact that is carried through a run.
use Rattle.std.proofs.Common.{ℕ, zero, suc, List, Option}
use Rattle.ante_wmem.specs.declared.host.HostAnswer.{HostAnswer}
use Rattle.ante_wtree.specs.declared.instructions.ValueKind.{ValueKind}
use Rattle.ante_wmeaning.specs.declared.ends.RunEnd.{RunEnd}
use Rattle.ante_wmeaning.specs.Configurations.{State, Outcome, Normal, Branch, Returned, Ended, Lacks, InHost, Stuck}
use Rattle.ante_wmeaning.specs.Execution.{back, and_then, of_block, of_loop, of_call, settled}

-- What P knows of an outcome that ends the run or is stuck, Q knows of it too.
pub record Keeps {W R : Type 0} (P Q : Outcome W R → Type 0) : Type 0 where
  pub ended : (e : RunEnd R) (s : State W) → P (Ended e s) → Q (Ended e s)
  pub lacks : (s : State W) → P (Lacks s) → Q (Lacks s)
  pub in_host : (f : ℕ) (args : List ℕ) (a : HostAnswer R) (n : ℕ) (s : State W) → P (InHost f args a n s) → Q (InHost f args a n s)
  pub stuck : P Stuck → Q Stuck

pub itself : {W R : Type 0} (P : Outcome W R → Type 0) → Keeps P P
itself P = record { ended = λ e s h. h; lacks = λ s h. h; in_host = λ f args a n s h. h; stuck = λ h. h }

module _ {W R : Type 0} (P Q : Outcome W R → Type 0) (keeps : Keeps P Q) where
  pub through_then : (o : Outcome W R) (go : State W → Outcome W R) → ((s : State W) → P (Normal s) → Q (go s)) → ((n : ℕ) (s : State W) → P (Branch n s) → Q (Branch n s)) →
      ((s : State W) → P (Returned s) → Q (Returned s)) → P o → Q (and_then o go)
  through_then (Normal s) go normal branch returns h = normal s h
  through_then (Branch n s) go normal branch returns h = branch n s h
  through_then (Returned s) go normal branch returns h = returns s h
  through_then (Ended e s) go normal branch returns h = keeps.ended e s h
  through_then (Lacks s) go normal branch returns h = keeps.lacks s h
  through_then (InHost f args a n s) go normal branch returns h = keeps.in_host f args a n s h
  through_then Stuck go normal branch returns h = keeps.stuck h

  pub through_block : (kind : Option ValueKind) (height : ℕ) (o : Outcome W R) → ((s : State W) → P (Normal s) → Q (Normal s)) → ((s : State W) → P (Branch zero s) → Q (of_block kind height (Branch zero s))) →
      ((n : ℕ) (s : State W) → P (Branch (suc n) s) → Q (Branch n s)) → ((s : State W) → P (Returned s) → Q (Returned s)) → P o → Q (of_block kind height o)
  through_block kind height (Normal s) normal here outer returns h = normal s h
  through_block kind height (Branch zero s) normal here outer returns h = here s h
  through_block kind height (Branch (suc n) s) normal here outer returns h = outer n s h
  through_block kind height (Returned s) normal here outer returns h = returns s h
  through_block kind height (Ended e s) normal here outer returns h = keeps.ended e s h
  through_block kind height (Lacks s) normal here outer returns h = keeps.lacks s h
  through_block kind height (InHost f args a n s) normal here outer returns h = keeps.in_host f args a n s h
  through_block kind height Stuck normal here outer returns h = keeps.stuck h

  pub through_loop : (height : ℕ) (o : Outcome W R) (again : State W → Outcome W R) → ((s : State W) → P (Normal s) → Q (Normal s)) → ((s : State W) → P (Branch zero s) → Q (of_loop height (Branch zero s) again)) →
      ((n : ℕ) (s : State W) → P (Branch (suc n) s) → Q (Branch n s)) → ((s : State W) → P (Returned s) → Q (Returned s)) → P o → Q (of_loop height o again)
  through_loop height (Normal s) again normal here outer returns h = normal s h
  through_loop height (Branch zero s) again normal here outer returns h = here s h
  through_loop height (Branch (suc n) s) again normal here outer returns h = outer n s h
  through_loop height (Returned s) again normal here outer returns h = returns s h
  through_loop height (Ended e s) again normal here outer returns h = keeps.ended e s h
  through_loop height (Lacks s) again normal here outer returns h = keeps.lacks s h
  through_loop height (InHost f args a n s) again normal here outer returns h = keeps.in_host f args a n s h
  through_loop height Stuck again normal here outer returns h = keeps.stuck h

  pub through_call : (kind : Option ValueKind) (locals stack : List ℕ) (o : Outcome W R) → ((s : State W) → P (Normal s) → Q (back kind locals stack s)) → ((s : State W) → P (Branch zero s) → Q (back kind locals stack s)) →
      ((n : ℕ) (s : State W) → P (Branch (suc n) s) → Q Stuck) → ((s : State W) → P (Returned s) → Q (back kind locals stack s)) → P o → Q (of_call kind locals stack o)
  through_call kind locals stack (Normal s) normal here outer returns h = normal s h
  through_call kind locals stack (Branch zero s) normal here outer returns h = here s h
  through_call kind locals stack (Branch (suc n) s) normal here outer returns h = outer n s h
  through_call kind locals stack (Returned s) normal here outer returns h = returns s h
  through_call kind locals stack (Ended e s) normal here outer returns h = keeps.ended e s h
  through_call kind locals stack (Lacks s) normal here outer returns h = keeps.lacks s h
  through_call kind locals stack (InHost f args a n s) normal here outer returns h = keeps.in_host f args a n s h
  through_call kind locals stack Stuck normal here outer returns h = keeps.stuck h

  pub through_settled : (o : Outcome W R) → ((s : State W) → P (Normal s) → Q (Normal s)) → ((n : ℕ) (s : State W) → P (Branch n s) → Q Stuck) → ((s : State W) → P (Returned s) → Q Stuck) → P o → Q (settled o)
  through_settled (Normal s) normal branch returns h = normal s h
  through_settled (Branch n s) normal branch returns h = branch n s h
  through_settled (Returned s) normal branch returns h = returns s h
  through_settled (Ended e s) normal branch returns h = keeps.ended e s h
  through_settled (Lacks s) normal branch returns h = keeps.lacks s h
  through_settled (InHost f args a n s) normal branch returns h = keeps.in_host f args a n s h
  through_settled Stuck normal branch returns h = keeps.stuck h
