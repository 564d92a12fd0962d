-- The parts of a turn of the loop: the look, the step, and what the instruction leads to.
use Rattle.std.proofs.Common.{◌≡◌, ℕ, suc, Bool, true, false, List, [], ◌∷◌, ◌++◌, length, take, drop, Option, None, Some, refl, sym, ap, subst, ◌∙◌}
use denote.Bor.{Bor}
use Rattle.ante_base.specs.Stops.{Looks}
use Rattle.ante_wmem.specs.Linear.{LinearMemory}
use Rattle.ante_wmem.specs.HostCalls.{Reply, HostMeaning}
use Rattle.ante_wmem.specs.HostCalls as calls
use Rattle.ante_wmem.specs.declared.host.HostAnswer.{HostAnswer}
use Rattle.ante_wmem.specs.declared.host.HostAnswer.TheVariants as answer
use Rattle.ante_wtree.specs.declared.instructions.Instr.{Instr}
use Rattle.ante_wtree.specs.declared.instructions.Instr.TheVariants as instr
use Rattle.ante_wtree.specs.declared.modules.FuncType.{FuncType}
use Rattle.ante_wtree.specs.Expressions.{Expression, Over, expression_of, cons}
use Rattle.ante_wtree.specs.Types.{masked}
use Rattle.ante_wmeaning.specs.declared.ends.RunEnd.{RunEnd}
use Rattle.ante_wmeaning.specs.declared.ends.RunEnd.TheVariants as end
use Rattle.ante_wrun.specs.declared.blocks.Frame.{Frame}
use Rattle.ante_wrun.specs.declared.blocks.Frame.TheVariants as frame
use Rattle.ante_wrun.specs.declared.thread.Thread.{Thread}
use Rattle.ante_wmeaning.specs.Environment.{Environment, after_look, after_item}
use Rattle.ante_wmeaning.specs.Configurations.{Program, State, Outcome, Normal, Branch, Returned, Ended, Lacks, InHost, Stuck, stack_of}
use Rattle.ante_wmeaning.specs.Execution.{and_then, settled, invoked, arguments, supplied, pay, seen, step, starts, due, of_reply, host_supplied, call_host, acts, does, call}
use Rattle.ante_wrun.specs.ThreadStates.{state_of, under, whole, going, after, Finds}
use Rattle.ante_wmeaning.specs.RunEnds.{Stops}
use Rattle.ante_wmeaning.specs.Environment.{Event, Looked, Supplied, CallSupplied, asked, Begins, past, looks_of, ByEvents, Wanting, Calm}
use Rattle.ante_wmeaning.specs.RunEnds.{Ends, Lacking, NotStuck, Sound}
use Rattle.ante_wmeaning.specs.HostConditions.{Replies}
use Rattle.ante_wrun.specs.InstructionCycle.{MayLook}
use Rattle.ante_wrun.proofs.Bodies.{no_items}
use Rattle.ante_wrun.proofs.Calls.{ended}
use Rattle.ante_wrun.proofs.Rules.{replies_so}

-- ---- events of a step

abbrev pub pay_events : Bool → Option ℕ → List Event → List Event
pay_events false answer tail = tail
pay_events true answer tail = Looked answer ∷ tail

abbrev pub after_pay : Bool → Environment → Environment
after_pay false v = v
after_pay true v = after_look v

pub looks_ok : {S : Type 0} (may : S → Option ℕ → S → Type 0) (d : Bool) (answer : Option ℕ) (tail : List Event) (old new : S) → looks_of tail ≡ [] → MayLook may d old answer new → Looks may old (looks_of (pay_events d answer tail)) new
looks_ok may false answer tail old new e h = subst (λ as'. Looks may old as' new) (sym e) h
looks_ok may true answer tail old new e h = (new, h, subst (λ as'. Looks may new as' new) (sym e) refl)

begins_front : (d : Bool) (v : Environment) (tail : List Event) → Begins v (pay_events d None (Supplied ∷ tail)) → Begins v (pay_events d None (Supplied ∷ []))
begins_front false v tail h = (h.0, tt)
begins_front true v tail h = (h.0, (h.1.0, tt))

begins_back : (d : Bool) (v : Environment) (tail : List Event) → Begins v (pay_events d None (Supplied ∷ tail)) → Begins (after_item (after_pay d v)) tail
begins_back false v tail h = h.1
begins_back true v tail h = h.1.1

past_is : (d : Bool) (v : Environment) (tail : List Event) → past v (pay_events d None (Supplied ∷ tail)) ≡ past (after_item (after_pay d v)) tail
past_is false v tail = refl
past_is true v tail = refl

pub past_pay : (d : Bool) (answer : Option ℕ) (v : Environment) → past v (pay_events d answer []) ≡ after_pay d v
past_pay false answer v = refl
past_pay true answer v = refl

calm_begins : (d : Bool) (v : Environment) → Calm v → Begins v (pay_events d None (Supplied ∷ []))
calm_begins false v h = (h.1 v.items, tt)
calm_begins true v h = (h.0 v.looks, (h.1 v.items, tt))

calm_pay : (d : Bool) (v : Environment) → Calm v → Calm (after_item (after_pay d v))
calm_pay false v h = h
calm_pay true v h = h

module _ {S W R : Type 0} where
  pub supplied_turn : (may : S → Option ℕ → S → Type 0) (old new : S) (d : Bool) (o o' : Environment → Outcome W R) (Q : Outcome W R → Environment → Type 0) (tail : List Event) →
      looks_of tail ≡ [] → MayLook may d old None new →
      ((v : Environment) → Begins v (pay_events d None (Supplied ∷ [])) → o v ≡ o' (after_item (after_pay d v))) →
      ((u : Environment) → Begins u tail → Q (o' u) (past u tail)) →
      ByEvents may old new (λ events. (v : Environment) → Begins v events → Q (o v) (past v events))
  supplied_turn may old new d o o' Q tail e look paid then' = (
    pay_events d None (Supplied ∷ tail),
    looks_ok may d None (Supplied ∷ tail) old new e look,
    λ v b.
        let u = after_item (after_pay d v) in
        subst (λ x. Q (o v) x) (sym (past_is d v tail)) (subst (λ x. Q x (past u tail)) (sym (paid v (begins_front d v tail b))) (then' u (begins_back d v tail b))),
  )

-- ---- the step itself

pub starts_put : {W R : Type 0} (i : Instr) (rest : Expression) (first : State W → Outcome W R) (s : State W) → starts (cons i rest) first s ≡ step s first
starts_put instr.Unreachable rest first s = refl
starts_put instr.Nop rest first s = refl
starts_put (instr.Block' kind shape body) rest first s = refl
starts_put (instr.Loop' kind shape body) rest first s = refl
starts_put (instr.If' kind shape one shape-2 two) rest first s = refl
starts_put (instr.Br label) rest first s = refl
starts_put (instr.BrIf label) rest first s = refl
starts_put (instr.BrTable labels label) rest first s = refl
starts_put instr.Return rest first s = refl
starts_put (instr.Call function) rest first s = refl
starts_put (instr.CallIndirect kind) rest first s = refl
starts_put instr.Drop rest first s = refl
starts_put instr.Select rest first s = refl
starts_put (instr.LocalGet n) rest first s = refl
starts_put (instr.LocalSet n) rest first s = refl
starts_put (instr.LocalTee n) rest first s = refl
starts_put (instr.GlobalGet n) rest first s = refl
starts_put (instr.GlobalSet n) rest first s = refl
starts_put (instr.Load kind at) rest first s = refl
starts_put (instr.Store kind at) rest first s = refl
starts_put instr.MemorySize rest first s = refl
starts_put instr.MemoryGrow rest first s = refl
starts_put (instr.I32Const n) rest first s = refl
starts_put (instr.I64Const n) rest first s = refl
starts_put instr.I32Eqz rest first s = refl
starts_put (instr.I32Compare op) rest first s = refl
starts_put instr.I64Eqz rest first s = refl
starts_put (instr.I64Compare op) rest first s = refl
starts_put (instr.I32Unary op) rest first s = refl
starts_put (instr.I32Binary op) rest first s = refl
starts_put (instr.I64Unary op) rest first s = refl
starts_put (instr.I64Binary op) rest first s = refl
starts_put instr.I32WrapI64 rest first s = refl
starts_put instr.I64ExtendI32S rest first s = refl
starts_put instr.I64ExtendI32U rest first s = refl

module _ {W R : Type 0} where
  pub pay_paid : (s : State W) (first : State W → Outcome W R) (n m : ℕ) → m ≡ suc n → s.environment.item_lacks s.environment.items ≡ false →
      pay m s first ≡ first (record s { left = n; last = m; environment = after_item s.environment })
  pay_paid s first n m e h =
      ap (λ k. pay k s first) e ∙ ap (λ b. supplied b s (λ t. first (record t { left = n; last = suc n }))) h
      ∙ ap (λ k. first (record s { left = n; last = k; environment = after_item s.environment })) (sym e)

  seen_paid : (d : Bool) (s : State W) (first : State W → Outcome W R) (n : ℕ) → s.left ≡ suc n → Begins s.environment (pay_events d None (Supplied ∷ [])) →
      seen d (s.environment.look_answer s.environment.looks) s first ≡ first (record s { left = n; last = s.left; environment = after_item (after_pay d s.environment) })
  seen_paid false s first n e h = pay_paid s first n s.left e h.0
  seen_paid true s first n e h = ap (λ a. seen true a s first) h.0 ∙ pay_paid (record s { environment = after_look s.environment }) first n s.left e h.1.0

  seen_limit : (d : Bool) (s : State W) (first : State W → Outcome W R) → s.left ≡ 0 → Begins s.environment (pay_events d None []) →
      seen d (s.environment.look_answer s.environment.looks) s first ≡ Ended end.StepLimit (record s { environment = after_pay d s.environment })
  seen_limit false s first e h = ap (λ k. pay k s first) e
  seen_limit true s first e h = ap (λ a. seen true a s first) h.0 ∙ ap (λ k. pay k (record s { environment = after_look s.environment }) first) e

  pay_lacks : (s : State W) (first : State W → Outcome W R) (n m : ℕ) → m ≡ suc n → s.environment.item_lacks s.environment.items ≡ true → pay m s first ≡ Lacks s
  pay_lacks s first n m e h = ap (λ k. pay k s first) e ∙ ap (λ b. supplied b s (λ t. first (record t { left = n; last = suc n }))) h

  seen_lacks : (d : Bool) (s : State W) (first : State W → Outcome W R) (n : ℕ) → s.left ≡ suc n → Begins s.environment (pay_events d None []) →
      (after_pay d s.environment).item_lacks (after_pay d s.environment).items ≡ true →
      seen d (s.environment.look_answer s.environment.looks) s first ≡ Lacks (record s { environment = after_pay d s.environment })
  seen_lacks false s first n e h l = pay_lacks s first n s.left e l
  seen_lacks true s first n e h l = ap (λ a. seen true a s first) h.0 ∙ pay_lacks (record s { environment = after_look s.environment }) first n s.left e l

module _ {W R : Type 0} (host : HostMeaning W R) (program : Program) where
  lacked : (free : ℕ) (below : List ℕ) (frames : List Frame) (s : State W) → under host program free below frames (Lacks s) ≡ Lacks s
  lacked free below [] s = refl
  lacked free below (frame.Block kind height rest ∷ frames) s = lacked free below frames s
  lacked free below (frame.Loop height body rest ∷ frames) s = lacked free below frames s
  lacked free below (frame.Call kind base locals above rest ∷ frames) s = lacked above (take base below) frames s

  pub in_host : (free : ℕ) (below : List ℕ) (frames : List Frame) (f : ℕ) (args : List ℕ) (a : HostAnswer R) (n : ℕ) (s : State W) →
      under host program free below frames (InHost f args a n s) ≡ InHost f args a n s
  in_host free below [] f args a n s = refl
  in_host free below (frame.Block kind height rest ∷ frames) f args a n s = in_host free below frames f args a n s
  in_host free below (frame.Loop height body rest ∷ frames) f args a n s = in_host free below frames f args a n s
  in_host free below (frame.Call kind base locals above rest ∷ frames) f args a n s = in_host above (take base below) frames f args a n s

  abbrev pub first_of : Thread → Bor Instr → State W → Outcome W R
  first_of t i = acts program (call host program t.free) (cons i.now (expression_of t.code.now))

  step_is : (o : Outcome W R) (t : Thread) (i : Bor Instr) (s : State W) → Finds host program o (Some i) t s → o ≡ whole host program t (step s (first_of t i))
  step_is o t i s h = h ∙ ap (whole host program t) (starts_put i.now (expression_of t.code.now) (first_of t i) s)

  pub paid : (o : Outcome W R) (t : Thread) (i : Bor Instr) (s : State W) (n : ℕ) → Finds host program o (Some i) t s → s.left ≡ suc n →
      Begins s.environment (pay_events (due s.left s.last) None (Supplied ∷ [])) →
      o ≡ whole host program t (first_of t i (record s { left = n; last = s.left; environment = after_item (after_pay (due s.left s.last) s.environment) }))
  paid o t i s n f e b = step_is o t i s f ∙ ap (whole host program t) (seen_paid (due s.left s.last) s (first_of t i) n e b)

  pub limited : (o : Outcome W R) (t : Thread) (i : Bor Instr) (s : State W) → Finds host program o (Some i) t s → s.left ≡ 0 →
      Begins s.environment (pay_events (due s.left s.last) None []) → o ≡ Ended end.StepLimit (record s { environment = after_pay (due s.left s.last) s.environment })
  limited o t i s f e b =
      step_is o t i s f ∙ ap (whole host program t) (seen_limit (due s.left s.last) s (first_of t i) e b)
      ∙ ended host program t.free t.state.values.below t.frames end.StepLimit (record s { environment = after_pay (due s.left s.last) s.environment })

  pub cut : (o : Outcome W R) (t : Thread) (i : Bor Instr) (s : State W) (at : ℕ) → Finds host program o (Some i) t s → due s.left s.last ≡ true →
      s.environment.look_answer s.environment.looks ≡ Some at → o ≡ Ended (end.Cut at) (record s { environment = after_look s.environment })
  cut o t i s at f d h =
      step_is o t i s f
      ∙ ap (whole host program t) (ap (λ b. seen b (s.environment.look_answer s.environment.looks) s (first_of t i)) d ∙ ap (λ a. seen true a s (first_of t i)) h)
      ∙ ended host program t.free t.state.values.below t.frames (end.Cut at) (record s { environment = after_look s.environment })

  pub wanted : (o : Outcome W R) (t : Thread) (i : Bor Instr) (s : State W) (n : ℕ) → Finds host program o (Some i) t s → s.left ≡ suc n →
      Begins s.environment (pay_events (due s.left s.last) None []) →
      (after_pay (due s.left s.last) s.environment).item_lacks (after_pay (due s.left s.last) s.environment).items ≡ true →
      o ≡ Lacks (record s { environment = after_pay (due s.left s.last) s.environment })
  wanted o t i s n f e b l =
      step_is o t i s f ∙ ap (whole host program t) (seen_lacks (due s.left s.last) s (first_of t i) n e b l)
      ∙ lacked t.free t.state.values.below t.frames (record s { environment = after_pay (due s.left s.last) s.environment })

-- ---- host calls

module _ {W R : Type 0} (host : HostMeaning W R) where
  pub replied : (kind : FuncType) (number : ℕ) (s : State W) (args : List ℕ) (outcome : calls.Outcome W R) → args ≡ masked kind.params (arguments (length kind.params) (stack_of s)) →
      s.environment.call_lacks s.environment.calls ≡ false → host s.world number args s.values.memory s.left ≡ outcome →
      call_host host kind number s ≡ of_reply kind.results number (masked kind.params (arguments (length kind.params) (stack_of s))) (drop (length kind.params) (stack_of s)) outcome.reply outcome.left s
  replied kind number s args outcome a l h =
      let args' = masked kind.params (arguments (length kind.params) (stack_of s)) in
      let below = drop (length kind.params) (stack_of s) in
      let o = host s.world number args' s.values.memory s.left in
      ap (λ b. host_supplied b number args' (of_reply kind.results number args' below o.reply o.left s) s) l
      ∙ ap (λ x. of_reply kind.results number args' below x.reply x.left s) (ap (λ x. host s.world number x s.values.memory s.left) (sym a) ∙ h)

  pub unsupplied : (kind : FuncType) (number : ℕ) (s : State W) → s.environment.call_lacks s.environment.calls ≡ true →
      call_host host kind number s ≡ InHost number (masked kind.params (arguments (length kind.params) (stack_of s))) answer.OutOfMemory s.left s
  unsupplied kind number s l =
      let args' = masked kind.params (arguments (length kind.params) (stack_of s)) in
      let below = drop (length kind.params) (stack_of s) in
      let o = host s.world number args' s.values.memory s.left in
      ap (λ b. host_supplied b number args' (of_reply kind.results number args' below o.reply o.left s) s) l

  -- a call of a run that isn't stuck is answered as its type says
  pub answered : (kind : FuncType) (number : ℕ) (s : State W) → s.environment.call_lacks s.environment.calls ≡ false → NotStuck (call_host host kind number s) →
      Replies kind.results (host s.world number (masked kind.params (arguments (length kind.params) (stack_of s))) s.values.memory s.left).reply
  answered kind number s l h =
      let args' = masked kind.params (arguments (length kind.params) (stack_of s)) in
      let below = drop (length kind.params) (stack_of s) in
      let o = host s.world number args' s.values.memory s.left in
      replies_so kind.results number args' below o.reply o.left s
      (subst NotStuck (ap (λ b. host_supplied b number args' (of_reply kind.results number args' below o.reply o.left s) s) l) h)

-- ---- whole turns

module _ {W R : Type 0} (stands : W → ℕ → List ℕ → LinearMemory → ℕ → HostAnswer R → W → Type 0) where
  pub stops_ends : (e : RunEnd R) (w : W) (left : ℕ) (u : Environment) (o : Outcome W R) → Stops e w left u o → Ends stands e w left u o
  stops_ends e w left u o h = subst (Ends stands e w left u) (sym h.1) (refl, h.2, h.3, h.4)

module _ {S W R : Type 0} (host : HostMeaning W R) (stands : W → ℕ → List ℕ → LinearMemory → ℕ → HostAnswer R → W → Type 0) (program : Program)
    (may : S → Option ℕ → S → Type 0) (old new : S) (w : W) (t0 t1 : Thread) (i : Bor Instr) (left last : ℕ)
    (find : (v : Environment) → Finds host program (going host program t0 (state_of t0.state w left last v)) (Some i) t1 (state_of t1.state w left last v)) where
  abbrev before : Environment → Outcome W R
  before v = going host program t0 (state_of t0.state w left last v)

  abbrev pub acting : (n last' : ℕ) → Environment → Outcome W R
  acting n last' u = whole host program t1 (first_of host program t1 i (state_of t1.state w n last' u))

  paid_at : (n last' : ℕ) → left ≡ suc n → last' ≡ left → (v : Environment) → Begins v (pay_events (due left last) None (Supplied ∷ [])) → before v ≡ acting n last' (after_item (after_pay (due left last) v))
  paid_at n last' e l v b =
      paid host program (before v) t1 i (state_of t1.state w left last v) n (find v) e b
      ∙ ap (λ k. acting n k (after_item (after_pay (due left last) v))) (sym l)

  -- an instruction of a run that isn't stuck
  pub sound_turn : (n last' : ℕ) → left ≡ suc n → last' ≡ left → Sound before → Sound (acting n last')
  sound_turn n last' e l h = (
    after_item (after_pay (due left last) h.0),
    calm_pay (due left last) h.0 h.1,
    subst NotStuck (paid_at n last' e l h.0 (calm_begins (due left last) h.0 h.1)) h.2,
  )

  pub turn_by : (n last' : ℕ) → left ≡ suc n → last' ≡ left → MayLook may (due left last) old None new → (Q : Outcome W R → Environment → Type 0) (tail : List Event) → looks_of tail ≡ [] →
      ((u : Environment) → Begins u tail → Q (whole host program t1 (first_of host program t1 i (state_of t1.state w n last' u))) (past u tail)) →
      ByEvents may old new (λ events. (v : Environment) → Begins v events → Q (before v) (past v events))
  turn_by n last' e l look Q tail no_looks then' =
      supplied_turn may old new (due left last) before (acting n last') Q tail no_looks look (paid_at n last' e l) then'

  pub limit_by : (left' : ℕ) → left ≡ 0 → left' ≡ 0 → MayLook may (due left last) old None new →
      ByEvents may old new (λ events. (v : Environment) → Begins v events → Ends stands end.StepLimit w left' (past v events) (before v))
  limit_by left' e f look = (
    pay_events (due left last) None [],
    looks_ok may (due left last) None [] old new refl look,
    λ v b.
        subst (Ends stands end.StepLimit w left' (past v (pay_events (due left last) None []))) (sym (limited host program (before v) t1 i (state_of t1.state w left last v) (find v) e b))
        (refl, refl, e ∙ sym f, sym (past_pay (due left last) None v)),
  )

  pub cut_by : (left' at : ℕ) → due left last ≡ true → left' ≡ left → MayLook may (due left last) old (Some at) new →
      ByEvents may old new (λ events. (v : Environment) → Begins v events → Ends stands (end.Cut at) w left' (past v events) (before v))
  cut_by left' at d e look = (
    Looked (Some at) ∷ [],
    (new, subst (λ b. MayLook may b old (Some at) new) d look, refl),
    λ v b.
        subst (Ends stands (end.Cut at) w left' (after_look v)) (sym (cut host program (before v) t1 i (state_of t1.state w left last v) at (find v) d b.0)) (refl, refl, sym e, refl),
  )

  pub lack_by : (n left' : ℕ) → left ≡ suc n → left' ≡ left → MayLook may (due left last) old None new →
      ByEvents may old new (λ events. (v : Environment) → Begins v events → Wanting (past v events) → Lacking stands w left' (past v events) (before v))
  lack_by n left' e f look = (
    pay_events (due left last) None [],
    looks_ok may (due left last) None [] old new refl look,
    λ v b want.
        let p = past_pay (due left last) None v in
        subst (Lacking stands w left' (past v (pay_events (due left last) None [])))
        (sym (wanted host program (before v) t1 i (state_of t1.state w left last v) n (find v) e b (subst (λ x. x.item_lacks x.items ≡ true) p want.0)))
        (refl, sym f, sym p),
  )

-- ---- one stretch after another

pub begins-front : (xs ys : List Event) (v : Environment) → Begins v (xs ++ ys) → Begins v xs
begins-front [] ys v h = tt
begins-front (x ∷ xs) ys v h = (h.0, begins-front xs ys (asked x v) h.1)

pub begins-back : (xs ys : List Event) (v : Environment) → Begins v (xs ++ ys) → Begins (past v xs) ys
begins-back [] ys v h = h
begins-back (x ∷ xs) ys v h = begins-back xs ys (asked x v) h.1

pub past-append : (xs ys : List Event) (v : Environment) → past v (xs ++ ys) ≡ past (past v xs) ys
past-append [] ys v = refl
past-append (x ∷ xs) ys v = past-append xs ys (asked x v)

looks-append : {S : Type 0} (may : S → Option ℕ → S → Type 0) (old mid new : S) (xs ys : List Event) → Looks may old (looks_of xs) mid → Looks may mid (looks_of ys) new → Looks may old (looks_of (xs ++ ys)) new
looks-append may old mid new [] ys h k = subst (λ s. Looks may s (looks_of ys) new) h k
looks-append may old mid new (Looked a ∷ xs) ys h k = (h.0, h.1, looks-append may h.0 mid new xs ys h.2 k)
looks-append may old mid new (Supplied ∷ xs) ys h k = looks-append may old mid new xs ys h k
looks-append may old mid new (CallSupplied ∷ xs) ys h k = looks-append may old mid new xs ys h k

module _ {S W R : Type 0} where
  pub more_events : (may : S → Option ℕ → S → Type 0) (old mid new : S) (F A : Environment → Outcome W R) (Q : Outcome W R → Environment → Type 0) →
      ByEvents may old mid (λ events. (v : Environment) → Begins v events → F v ≡ A (past v events)) →
      ByEvents may mid new (λ events. (u : Environment) → Begins u events → Q (A u) (past u events)) →
      ByEvents may old new (λ events. (v : Environment) → Begins v events → Q (F v) (past v events))
  more_events may old mid new F A Q h k = (
    h.0 ++ k.0,
    looks-append may old mid new h.0 k.0 h.1 k.1,
    λ v b.
        let e = h.2 v (begins-front h.0 k.0 v b) in
        let q = k.2 (past v h.0) (begins-back h.0 k.0 v b) in
        subst (λ x. Q (F v) x) (sym (past-append h.0 k.0 v)) (subst (λ o. Q o (past (past v h.0) k.0)) (sym e) q),
  )

-- ---- calls from outside

module _ {W R : Type 0} (host : HostMeaning W R) (program : Program) where
  outer : (t : Thread) → length t.code.now ≡ 0 → t.frames ≡ [] → (o : Outcome W R) → after host program t o ≡ settled o
  outer t c f o =
      ap (λ fs. under host program t.free t.state.values.below fs (and_then o (does program (call host program t.free) (expression_of t.code.now)))) f
      ∙ ap (λ code. settled (and_then o (does program (call host program t.free) (expression_of code)))) (no_items t.code.now c)
      ∙ over o
    where
      over : (o : Outcome W R) → settled (and_then o (does program (call host program t.free) Over)) ≡ settled o
      over (Normal s) = refl
      over (Branch n s) = refl
      over (Returned s) = refl
      over (Ended e s) = refl
      over (Lacks s) = refl
      over (InHost f args a n s) = refl
      over Stuck = refl

  pub called : (t : Thread) → length t.code.now ≡ 0 → t.frames ≡ [] → (f : ℕ) (s : State W) → s.environment.item_lacks s.environment.items ≡ false →
      invoked host program t.free f s ≡ after host program t (call host program t.free f (record s { environment = after_item s.environment }))
  called t c e f s h = ap (λ b. supplied b s (λ x. settled (call host program t.free f x))) h ∙ sym (outer t c e (call host program t.free f (record s { environment = after_item s.environment })))

module _ {S W R : Type 0} (host : HostMeaning W R) (program : Program) (may : S → Option ℕ → S → Type 0) (old : S) (w : W) (t : Thread)
    (idle : length t.code.now ≡ 0) (bare : t.frames ≡ []) (f left last : ℕ) where
  abbrev pub outset : Environment → Outcome W R
  outset v = invoked host program t.free f (state_of t.state w left last v)

  abbrev pub called_at : Environment → Outcome W R
  called_at u = after host program t (call host program t.free f (state_of t.state w left last u))

  pub sound_call : Sound outset → Sound called_at
  sound_call h = (after_item h.0, h.1, subst NotStuck (called host program t idle bare f (state_of t.state w left last h.0) (h.1.1 h.0.items)) h.2)

  pub invoke_by : (Q : Outcome W R → Environment → Type 0) (tail : List Event) → looks_of tail ≡ [] → ((u : Environment) → Begins u tail → Q (called_at u) (past u tail)) →
      ByEvents may old old (λ events. (v : Environment) → Begins v events → Q (outset v) (past v events))
  invoke_by Q tail e then' = (
    Supplied ∷ tail,
    subst (λ x. Looks may old x old) (sym e) refl,
    λ v b.
        subst (λ o. Q o (past (after_item v) tail)) (sym (called host program t idle bare f (state_of t.state w left last v) b.0)) (then' (after_item v) b.1),
  )
