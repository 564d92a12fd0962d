-- Calls, traps and growth on the machine's frames.
use Rattle.std.proofs.Common.{◌≡◌, ℕ, zero, suc, ◌<◌, ◌≤◌, Bool, true, false, List, [], ◌∷◌, ◌++◌, length, take, drop, reverse, replicate, map, Option, Result, Ok, Err, IfOk, refl, sym, ap, ◌∙◌, arith}
use Rattle.std.specs.Prelude.{slice_get, nat_lt, nat_le, if◌then◌else◌}
use Rattle.std.specs.Option.{option_map}
use Rattle.std.proofs.lemmas.Bool.{ltb-true, leb-true}
use Rattle.std.proofs.lemmas.List.{reverse-reverse}
use Rattle.std.proofs.Math.Seq.{take-append_seam, drop-append_seam}
use denote.Bor.{Bor}
use Rattle.ante_wmem.specs.Linear.{may_grow}
use Rattle.ante_wmem.specs.HostCalls.{HostMeaning}
use Rattle.ante_wtree.specs.declared.instructions.ValueKind.{ValueKind}
use Rattle.ante_wtree.specs.declared.instructions.Instr.{Instr}
use Rattle.ante_wtree.specs.declared.modules.FuncType.{FuncType}
use Rattle.ante_wtree.specs.Expressions.{Expression, expression_of}
use Rattle.ante_wtree.specs.Types.{result_of}
use Rattle.ante_wmeaning.specs.declared.ends.RunEnd.{RunEnd}
use Rattle.ante_wmeaning.specs.declared.ends.RunEnd.TheVariants as end
use Rattle.ante_wvalues.specs.declared.data.Data.{Data}
use Rattle.ante_wrun.specs.declared.blocks.Frame.{Frame}
use Rattle.ante_wrun.specs.declared.blocks.Frame.TheVariants as frame
use Rattle.ante_wrun.specs.declared.control.Function.{Function}
use Rattle.ante_wrun.specs.declared.control.Next.{Next as After}
use Rattle.ante_wrun.specs.declared.control.Next.TheVariants as next
use Rattle.ante_wmeaning.specs.PlainInstructions.{popped}
use Rattle.ante_wmeaning.specs.Environment.{Environment}
use Rattle.ante_wmeaning.specs.Configurations.{Program, FunctionInstance, State, Outcome, Ended, on_stack}
use Rattle.ante_wmeaning.specs.Execution.{and_then, of_function, chosen, of_block, arguments, pay_pages, grow_if, grow, grown_by, does, call}
use Rattle.ante_wvalues.specs.FrameValues.{FrameValues}
use Rattle.ante_wrun.specs.Frames.{InCall, unwind}
use Rattle.ante_wrun.specs.ThreadStates.{opens, under}
use Rattle.ante_wmeaning.specs.RunEnds.{Stops}
use Rattle.ante_wrun.specs.Control.{instance_of, own_at, Takes, NotHostCall, GivenAt}
use Rattle.ante_wrun.proofs.Bodies.{here, goes}

pub not_lt : (m n : ℕ) → n ≤ m → nat_lt m n ≡ false
not_lt m n le = grind (arith, ltb-true)

-- the function of a number, as the meaning has it
pub found : (all : List Function) (at : ℕ) (o : Option Function) → o ≡ slice_get all at → slice_get (map instance_of all) at ≡ option_map instance_of o
found all at o e = same all at ∙ ap (option_map instance_of) (sym e)
  where
    same : (all : List Function) (at : ℕ) → slice_get (map instance_of all) at ≡ option_map instance_of (slice_get all at)
    same [] at = refl
    same (f ∷ fs) zero = refl
    same (f ∷ fs) (suc at) = same fs at

-- a number with a function is within the list
pub within : (all : List Function) (at count : ℕ) → Takes (slice_get (map instance_of all) at) count → at < length all
within [] at count h = absurd h
within (f ∷ fs) zero count h = omega arith
within (f ∷ fs) (suc at) count h = let lt = within fs at count h in omega (arith, lt)

pub not_host : (program : Program) (at : ℕ) (n : After) → NotHostCall n → GivenAt program at n
not_host program at next.Go h = tt
not_host program at (next.Trap kind) h = tt
not_host program at next.StepLimit h = tt
not_host program at next.CallDepth h = tt
not_host program at (next.HostCall kind number) h = absurd h

pub if_ok : {A E : Type 0} (r : Result A E) (P Q : A → Type 0) → ((x : A) → P x → Q x) → IfOk r P → IfOk r Q
if_ok (Ok x) P Q f h = f x h
if_ok (Err e) P Q f h = h

module _ {W R : Type 0} (host : HostMeaning W R) (program : Program) where
  -- what has ended is not gone on with
  pub ended : (free : ℕ) (below : List ℕ) (frames : List Frame) (e : RunEnd R) (s : State W) → under host program free below frames (Ended e s) ≡ Ended e s
  ended free below [] e s = refl
  ended free below (frame.Block kind height rest ∷ frames) e s = ended free below frames e s
  ended free below (frame.Loop height body rest ∷ frames) e s = ended free below frames e s
  ended free below (frame.Call kind base locals above rest ∷ frames) e s = ended above (take base below) frames e s

  pub stops : (free : ℕ) (below : List ℕ) (frames : List Frame) (go : State W → Outcome W R) (o : Outcome W R) (e : RunEnd R) (s : State W) →
      o ≡ Ended e s → Stops e s.world s.left s.environment (under host program free below frames (and_then o go))
  stops free below frames go o e s h = (s, ap (λ x. under host program free below frames (and_then x go)) h ∙ ended free below frames e s, refl, refl, refl)

  pub call_is : (free f : ℕ) (s : State W) → call host program free f s ≡ of_function host (own_at host program free) (slice_get program.functions f) s
  call_is zero f s = refl
  call_is (suc free) f s = refl

  pub calls : (free f : ℕ) (s : State W) (o : Option FunctionInstance) → slice_get program.functions f ≡ o → call host program free f s ≡ of_function host (own_at host program free) o s
  calls free f s o e = call_is free f s ∙ ap (λ x. of_function host (own_at host program free) x s) e

module _ {W R : Type 0} (host : HostMeaning W R) (program : Program) (w : W) (left last : ℕ) (environment : Environment) where
  caller : (below locals operands : List ℕ) (frames : List Frame) (kind : Option ValueKind) (free : ℕ) (rest : Expression) (m : ℕ) (o : Outcome W R) →
      let all = below ++ (locals ++ operands) in
      unwind host program m (InCall kind locals (reverse operands) free rest ∷ opens below frames) o
      ≡ unwind host program m (InCall kind (take (length locals) (drop (length below) all)) (reverse (drop (length locals) (drop (length below) all))) free rest ∷ opens (take (length below) all) frames) o
  caller below locals operands frames kind free rest m o =
      let all = below ++ (locals ++ operands) in
      let up : drop (length below) all ≡ locals ++ operands = drop-append_seam below (locals ++ operands) in
      let a : locals ≡ take (length locals) (drop (length below) all) = sym (ap (take (length locals)) up ∙ take-append_seam locals operands) in
      let b : operands ≡ drop (length locals) (drop (length below) all) = sym (ap (drop (length locals)) up ∙ drop-append_seam locals operands) in
      let c : below ≡ take (length below) all = sym (take-append_seam below (locals ++ operands)) in
      ap (λ x. unwind host program m (InCall kind x (reverse operands) free rest ∷ opens below frames) o) a
      ∙ ap (λ x. unwind host program m (InCall kind (take (length locals) (drop (length below) all)) (reverse x) free rest ∷ opens below frames) o) b
      ∙ ap (λ x. unwind host program m (InCall kind (take (length locals) (drop (length below) all)) (reverse (drop (length locals) (drop (length below) all))) free rest ∷ opens x frames) o) c

  pub enters : (free m : ℕ) (frames fs : List Frame) (d : Data) (rest body : Bor (List Instr)) (kind : FuncType) (zeros : ℕ) (v : FrameValues) →
      free ≡ suc m →
      fs ≡ frame.Call (result_of kind.results) (length d.values.below) (length d.values.locals) free rest ∷ frames →
      v ≡ record { below = d.values.below ++ (d.values.locals ++ reverse (drop (length kind.params) d.values.stack)); locals = arguments (length kind.params) d.values.stack ++ replicate zeros 0; stack = [] } →
      under host program free d.values.below frames (and_then (own_at host program free kind zeros (expression_of body.now) (here host program w left last environment d)) (does program (call host program free) (expression_of rest.now)))
      ≡ goes host program w left last environment m fs body (record d { values = v })
  enters free m frames fs d rest body kind zeros v e f g =
      let s = here host program w left last environment d in
      let go = does program (call host program free) (expression_of rest.now) in
      let operands = reverse (drop (length kind.params) d.values.stack) in
      let v' : FrameValues = record { below = d.values.below ++ (d.values.locals ++ operands); locals = arguments (length kind.params) d.values.stack ++ replicate zeros 0; stack = [] } in
      let d' : Data = record d { values = v' } in
      let o = does program (call host program m) (expression_of body.now) (here host program w left last environment d') in
      ap (λ k. under host program free d.values.below frames (and_then (own_at host program k kind zeros (expression_of body.now) s) go)) e
      ∙ ap (λ x. unwind host program m (InCall (result_of kind.results) d.values.locals x free (expression_of rest.now) ∷ opens d.values.below frames) o) (sym (reverse-reverse (drop (length kind.params) d.values.stack)))
      ∙ caller d.values.below d.values.locals operands frames (result_of kind.results) free (expression_of rest.now) m o
      ∙ ap (λ x. goes host program w left last environment m x body d') (sym f)
      ∙ ap (λ x. goes host program w left last environment m fs body (record d { values = x })) (sym g)

module _ {W : Type 0} (R : Type 0) where
  pub dear : (pages : ℕ) (s : State W) → may_grow s.values.memory pages ≡ true → s.left < pages → grow {R = R} pages s ≡ Ended end.StepLimit (record s { left = 0 })
  dear pages s e lt =
      let more : nat_le pages s.left ≡ false = grind (arith, leb-true) in
      ap (λ b. grow_if b pages s) e ∙ ap (λ b. pay_pages b pages (grown_by pages s) s) more

-- ---- conditions

module _ {W R : Type 0} (host : HostMeaning W R) (program : Program) (w : W) (left last : ℕ) (environment : Environment) where
  chooses : (free : ℕ) (b : Bool) (one two : Bor (List Instr)) (s : State W) →
      chosen {R = R} b (does program (call host program free) (expression_of one.now)) (does program (call host program free) (expression_of two.now)) s
      ≡ does program (call host program free) (expression_of (if b then two else one).now) s
  chooses free true one two s = refl
  chooses free false one two s = refl

  pub conditional : (free : ℕ) (frames fs : List Frame) (d : Data) (kind : Option ValueKind) (height : ℕ) (rest one two code : Bor (List Instr)) (b b' : Bool) (v : FrameValues) →
      b ≡ b' → code ≡ (if b' then two else one) → v ≡ record { below = d.values.below; locals = d.values.locals; stack = popped d.values.stack } → height ≡ length v.stack → fs ≡ frame.Block kind height rest ∷ frames →
      under host program free d.values.below frames
      (and_then (of_block kind (length (popped d.values.stack)) (chosen b (does program (call host program free) (expression_of one.now)) (does program (call host program free) (expression_of two.now)) (on_stack (here host program w left last environment d) (popped d.values.stack))))
      (does program (call host program free) (expression_of rest.now)))
      ≡ goes host program w left last environment free fs code (record d { values = v })
  conditional free frames fs d kind height rest one two code b b' v e g h n f =
      let s = on_stack (here host program w left last environment d) (popped d.values.stack) in
      let go = does program (call host program free) (expression_of rest.now) in
      let runs = does program (call host program free) in
      ap (λ o. under host program free d.values.below frames (and_then (of_block kind (length (popped d.values.stack)) o) go))
      (chooses free b one two s ∙ ap (λ x. runs (expression_of x.now) s) (ap (λ x. if x then two else one) e ∙ sym g))
      ∙ ap (λ x. under host program free x.below (frame.Block kind (length x.stack) rest ∷ frames) (does program (call host program free) (expression_of code.now) (here host program w left last environment (record d { values = x })))) (sym h)
      ∙ ap (λ k. goes host program w left last environment free (frame.Block kind k rest ∷ frames) code (record d { values = v })) (sym n)
      ∙ ap (λ x. goes host program w left last environment free x code (record d { values = v })) (sym f)
