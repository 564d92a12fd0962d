-- Bodies that end, are branched out of, or begin again, on the machine's frames.
use Rattle.std.proofs.Common.{◌≡◌, ℕ, suc, ◌≤◌, List, [], ◌∷◌, length, arith, refl, sym, ap, ◌∙◌}
use Rattle.std.proofs.lemmas.Bool.{le-leb}
use denote.Bor.{Bor}
use Rattle.ante_wmem.specs.HostCalls.{HostMeaning}
use Rattle.ante_wtree.specs.declared.instructions.Instr.{Instr}
use Rattle.ante_wtree.specs.Expressions.{expression_of}
use Rattle.ante_wvalues.specs.declared.data.Data.{Data}
use Rattle.ante_wrun.specs.declared.blocks.Frame.{Frame}
use Rattle.ante_wrun.specs.declared.blocks.Frame.TheVariants as frame
use Rattle.ante_wmeaning.specs.Environment.{Environment}
use Rattle.ante_wmeaning.specs.Configurations.{Program, State, Outcome, Branch}
use Rattle.ante_wmeaning.specs.Execution.{and_then, turns, keep, only_if, does, call}
use Rattle.ante_wvalues.specs.FrameValues.{FrameValues}
use Rattle.ante_wrun.specs.ThreadStates as machine
use Rattle.ante_wrun.specs.ThreadStates.{state_of, under}
use Rattle.ante_wmeaning.proofs.Falls.{HostFalls, does_lowers, call_lowers, turns_open}

module _ {W R : Type 0} (host : HostMeaning W R) (program : Program) (w : W) (left last : ℕ) (environment : Environment) where
  abbrev pub here : Data → State W
  here d = state_of d w left last environment

  abbrev pub goes : (free : ℕ) (frames : List Frame) → Bor (List Instr) → Data → Outcome W R
  goes free frames code d = machine.goes host program free frames code.now d.values (here d)

  abbrev with_values : Data → FrameValues → Data
  with_values d v = record d { values = v }

  pub again : HostFalls host → (free : ℕ) (below : List ℕ) (frames : List Frame) (height : ℕ) (body rest : Bor (List Instr)) (s : State W) →
      under host program free below frames (and_then (turns (suc s.left) (does program (call host program free) (expression_of body.now)) height s) (does program (call host program free) (expression_of rest.now)))
      ≡ under host program free below (frame.Loop height body rest ∷ frames) (does program (call host program free) (expression_of body.now) s)
  again falls free below frames height body rest s =
      ap (λ o. under host program free below frames (and_then o (does program (call host program free) (expression_of rest.now))))
      (turns_open s.left (does program (call host program free) (expression_of body.now)) height
      (does_lowers program (call host program free) (call_lowers host falls program free) (expression_of body.now)) s refl)

  pub land_Loop : HostFalls host → (free n : ℕ) (frames new : List Frame) (d : Data) (height : ℕ) (body rest : Bor (List Instr)) (v : FrameValues) →
      frames ≡ frame.Loop height body rest ∷ new → n ≡ 0 → height ≤ length d.values.stack →
      v ≡ record { below = d.values.below; locals = d.values.locals; stack = keep height d.values.stack } →
      under host program free d.values.below frames (Branch n (here d)) ≡ goes free frames body (with_values d v)
  land_Loop falls free n frames new d height body rest v e f le g =
      let kept : FrameValues = record { below = d.values.below; locals = d.values.locals; stack = keep height d.values.stack } in
      ap (λ fs. under host program free d.values.below fs (Branch n (here d))) e ∙ ap (λ k. under host program free d.values.below (frame.Loop height body rest ∷ new) (Branch k (here d))) f
      ∙ ap (λ b. under host program free d.values.below new (and_then (only_if b (turns (suc left) (does program (call host program free) (expression_of body.now)) height (here (with_values d kept)))) (does program (call host program free) (expression_of rest.now))))
      (le-leb height (length d.values.stack) le)
      ∙ again falls free d.values.below new height body rest (here (with_values d kept))
      ∙ ap (λ fs. goes free fs body (with_values d kept)) (sym e)
      ∙ ap (λ x. goes free frames body (with_values d x)) (sym g)

pub no_items : {A : Type 0} (xs : List A) → length xs ≡ 0 → xs ≡ []
no_items [] e = refl
no_items (x ∷ xs) e = absurd (omega (arith, e))
