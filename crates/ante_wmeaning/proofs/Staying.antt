-- What likeness says of a host, and no call that ends a run changes, is known after every end, also after a cut and want of memory.
use Rattle.std.proofs.Common.{ℕ, List, Result, Ok, Err, inl, inr}
use Rattle.std.specs.declared.alloc.AllocError.{AllocError}
use Rattle.ante_wmem.specs.Linear.{LinearMemory}
use Rattle.ante_wmem.specs.declared.host.HostAnswer.{HostAnswer}
use Rattle.ante_wmem.specs.declared.host.HostAnswer.TheVariants as answer
use Rattle.ante_wmeaning.specs.declared.ends.RunEnd.{RunEnd}
use Rattle.ante_wmeaning.specs.declared.ends.RunEnd.TheVariants as end
use Rattle.ante_wmeaning.specs.Configurations.{Outcome, Normal, Branch, Returned, Ended, Lacks, InHost, Stuck}
use Rattle.ante_wmeaning.specs.Environment.{Environment}
use Rattle.ante_wmeaning.specs.RunEnds.{Remainder}
use Rattle.ante_wmeaning.specs.Likeness.{EndsLike, Remains, AnswersLike}

module _ {V W R : Type 0} (Like : V → W → Type 0) (stands : Remainder V R) (P : V → Type 0) (like : (v : V) (w : W) → Like v w → P v)
    (keeps : (u : V) (number : ℕ) (args : List ℕ) (memory : LinearMemory) (left : ℕ) (a : HostAnswer R) (v : V) → P u → stands u number args memory left a v → P v) where
  ends_keep : (e : RunEnd R) (v : V) (left : ℕ) (u : Environment) (o : Outcome W R) → EndsLike Like stands e v left u o → P v
  ends_keep e v left u (Normal s) h = like v s.world h.1
  ends_keep e v left u (Branch n s) h = absurd h
  ends_keep e v left u (Returned s) h = absurd h
  ends_keep e v left u (Ended f s) h = like v s.world h.1
  ends_keep e v left u (Lacks s) h = absurd h
  ends_keep e v left u (InHost f args (answer.Value n) after s) h = absurd h
  ends_keep e v left u (InHost f args answer.Nothing after s) h = absurd h
  ends_keep e v left u (InHost f args answer.Exit after s) h = absurd h
  ends_keep e v left u (InHost f args (answer.Refused r) after s) h =
      keeps h.1.0 f args s.values.memory s.left (answer.Refused r) v (like h.1.0 s.world h.1.1) h.1.2
  ends_keep e v left u (InHost f args answer.StepLimit after s) h =
      keeps h.1.0 f args s.values.memory s.left answer.StepLimit v (like h.1.0 s.world h.1.1) h.1.2
  ends_keep e v left u (InHost f args answer.OutOfMemory after s) h = absurd h
  ends_keep e v left u Stuck h = absurd h

  rest_keeps : (v : V) → Remains Like stands v → P v
  rest_keeps v (inl h) = like v h.0 h.1
  rest_keeps v (inr h) = keeps h.5.0 h.1 h.2 h.3 h.4 answer.OutOfMemory v (like h.5.0 h.0 h.5.1) h.5.2

  pub stays_so : (o : Outcome W R) (result : Result (RunEnd R) AllocError) (v : V) (left : ℕ) → AnswersLike Like stands o result v left → P v
  stays_so o (Ok (end.Cut at)) v left h = rest_keeps v h
  stays_so o (Ok end.Done) v left h = ends_keep end.Done v left h.0 o h.1
  stays_so o (Ok end.Exit) v left h = ends_keep end.Exit v left h.0 o h.1
  stays_so o (Ok (end.Trap kind)) v left h = ends_keep (end.Trap kind) v left h.0 o h.1
  stays_so o (Ok end.StepLimit) v left h = ends_keep end.StepLimit v left h.0 o h.1
  stays_so o (Ok end.CallDepth) v left h = ends_keep end.CallDepth v left h.0 o h.1
  stays_so o (Ok (end.Refused r)) v left h = ends_keep (end.Refused r) v left h.0 o h.1
  stays_so o (Err e) v left h = rest_keeps v h
