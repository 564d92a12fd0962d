-- Branches to labels inside a function, on the machine's frames.
use Rattle.std.proofs.Common.{◌≡◌, ℕ, zero, suc, ◌+◌, ◌-◌, ◌<◌, ◌≤◌, true, false, List, [], ◌∷◌, length, drop, Option, None, Some, slice_get, refl, sym, ap, subst, ◌∙◌, arith}
use Rattle.std.specs.Prelude.{◌==◌, slice_index_or}
use Rattle.std.proofs.lemmas.Bool.{le-leb}
use denote.Bor.{Bor}
use Rattle.ante_wmem.specs.HostCalls.{HostMeaning}
use Rattle.ante_wtree.specs.declared.instructions.Instr.{Instr}
use Rattle.ante_wtree.specs.declared.instructions.ValueKind.{ValueKind}
use Rattle.ante_wtree.specs.Expressions.{Expression, Br, BrIf, BrTable, expression_of}
use Rattle.ante_wvalues.specs.declared.data.Data.{Data}
use Rattle.ante_wrun.specs.declared.blocks.Frame.{Frame}
use Rattle.ante_wrun.specs.declared.blocks.Frame.TheVariants as frame
use Rattle.ante_wmeaning.specs.Environment.{Environment}
use Rattle.ante_wmeaning.specs.Configurations.{Program, State, Outcome, Normal, Branch, Returned, on_stack}
use Rattle.ante_wmeaning.specs.Arities.{arity}
use Rattle.ante_wmeaning.specs.Execution.{keep, unwound, only_if, and_then, jump_unless, taking, acts, does, call}
use Rattle.ante_wmeaning.specs.PlainInstructions.{low, top, popped}
use Rattle.ante_wvalues.specs.FrameValues.{FrameValues}
use Rattle.ante_wrun.specs.ThreadStates.{state_of, under, goes, Reaches, Returns, Nested}
use Rattle.ante_wmeaning.specs.RunEnds.{NotStuck}
use Rattle.ante_wrun.specs.Stretches.{IsOwnLabel}
use Rattle.ante_wmeaning.proofs.Falls.{HostFalls}
use Rattle.ante_wrun.proofs.Bodies.{land_Loop}
use Rattle.ante_wrun.proofs.Rules.{has_one, inner, reaches, BrIf_is, BrTable_is}

-- ---- the frames above a label

pub reached : (depth : ℕ) (frames : List Frame) (count : ℕ) → Reaches frames depth count → Reaches (drop depth frames) 0 count
reached zero frames count r = r
reached (suc n) [] count r = absurd r
reached (suc n) (frame.Block kind height rest ∷ frames) count r = reached n frames count r
reached (suc n) (frame.Loop height body rest ∷ frames) count r = reached n frames count r
reached (suc n) (frame.Call kind base locals free rest ∷ frames) count r = absurd r

pub nested_past : (depth below : ℕ) (frames : List Frame) (count : ℕ) → Reaches frames depth count → Nested below frames → Nested below (drop depth frames)
nested_past zero below frames count r n = n
nested_past (suc d) below [] count r n = absurd r
nested_past (suc d) below (frame.Block kind height rest ∷ frames) count r n = nested_past d below frames count r n
nested_past (suc d) below (frame.Loop height body rest ∷ frames) count r n = nested_past d below frames count r n
nested_past (suc d) below (frame.Call kind base locals free rest ∷ frames) count r n = absurd r

some_is : {A : Type 0} (x y : A) → Some x ≡ Some y → x ≡ y
some_is x y h = cc

pub in_front : (depth : ℕ) (frames : List Frame) (f : Frame) → slice_get frames depth ≡ Some f → drop depth frames ≡ f ∷ drop (depth + 1) frames
in_front depth frames f e = let next : suc depth ≡ depth + 1 = omega arith in at depth frames e ∙ ap (λ n. f ∷ drop n frames) next
  where
    at : (depth : ℕ) (frames : List Frame) → slice_get frames depth ≡ Some f → drop depth frames ≡ f ∷ drop (suc depth) frames
    at depth [] e = cc
    at zero (x ∷ xs) e = ap (λ y. y ∷ xs) (some_is x f e)
    at (suc n) (x ∷ xs) e = at n xs e

pub there : (depth : ℕ) (frames : List Frame) (count : ℕ) → Reaches frames depth count → slice_get frames depth ≡ None → ⊥
there zero [] count r e = r
there zero (f ∷ frames) count r e = cc
there (suc n) [] count r e = r
there (suc n) (frame.Block kind height rest ∷ frames) count r e = there n frames count r e
there (suc n) (frame.Loop height body rest ∷ frames) count r e = there n frames count r e
there (suc n) (frame.Call kind base locals free rest ∷ frames) count r e = r

-- ---- the function's own label

pub own_label : (depth : ℕ) (frames : List Frame) (count : ℕ) (kind : Option ValueKind) (base locals free : ℕ) (rest : Bor (List Instr)) → Reaches frames depth count →
    slice_get frames depth ≡ Some (frame.Call kind base locals free rest) → IsOwnLabel frames depth
own_label zero [] count kind base locals free rest r e = r
own_label zero (frame.Block k h x ∷ frames) count kind base locals free rest r e = cc
own_label zero (frame.Loop h b x ∷ frames) count kind base locals free rest r e = cc
own_label zero (frame.Call k b l f x ∷ frames) count kind base locals free rest r e = tt
own_label (suc n) [] count kind base locals free rest r e = r
own_label (suc n) (frame.Block k h x ∷ frames) count kind base locals free rest r e = own_label n frames count kind base locals free rest r e
own_label (suc n) (frame.Loop h b x ∷ frames) count kind base locals free rest r e = own_label n frames count kind base locals free rest r e
own_label (suc n) (frame.Call k b l f x ∷ frames) count kind base locals free rest r e = r

pub returns_from : (depth : ℕ) (frames : List Frame) (count : ℕ) → IsOwnLabel frames depth → Reaches frames depth count → Returns frames count
returns_from depth [] count o r = o
returns_from zero (frame.Block k h x ∷ frames) count o r = absurd o
returns_from (suc n) (frame.Block k h x ∷ frames) count o r = returns_from n frames count o r
returns_from zero (frame.Loop h b x ∷ frames) count o r = absurd o
returns_from (suc n) (frame.Loop h b x ∷ frames) count o r = returns_from n frames count o r
returns_from zero (frame.Call k b l f x ∷ frames) count o r = r
returns_from (suc n) (frame.Call k b l f x ∷ frames) count o r = absurd o

module _ {W R : Type 0} (host : HostMeaning W R) (program : Program) where
  pub as_return : (depth free : ℕ) (below : List ℕ) (frames : List Frame) (s : State W) → IsOwnLabel frames depth →
      under host program free below frames (Branch depth s) ≡ under host program free below frames (Returned s)
  as_return depth free below [] s o = absurd o
  as_return zero free below (frame.Block k h x ∷ frames) s o = absurd o
  as_return (suc n) free below (frame.Block k h x ∷ frames) s o = as_return n free below frames s o
  as_return zero free below (frame.Loop h b x ∷ frames) s o = absurd o
  as_return (suc n) free below (frame.Loop h b x ∷ frames) s o = as_return n free below frames s o
  as_return zero free below (frame.Call k b l f x ∷ frames) s o = refl
  as_return (suc n) free below (frame.Call k b l f x ∷ frames) s o = absurd o

  -- ---- a label inside the function

  passes : (depth free : ℕ) (below : List ℕ) (frames : List Frame) (count : ℕ) (s : State W) → Reaches frames depth count →
      under host program free below frames (Branch depth s) ≡ under host program free below (drop depth frames) (Branch 0 s)
  passes zero free below frames count s r = refl
  passes (suc n) free below [] count s r = absurd r
  passes (suc n) free below (frame.Block kind height rest ∷ frames) count s r = passes n free below frames count s r
  passes (suc n) free below (frame.Loop height body rest ∷ frames) count s r = passes n free below frames count s r
  passes (suc n) free below (frame.Call kind base locals above rest ∷ frames) count s r = absurd r

  module _ (w : W) (free left last : ℕ) (o : Environment) (d : Data) (depth : ℕ) (frames new : List Frame) (v v' : FrameValues) (reaches : Reaches frames depth (length v.stack)) where
    abbrev here : State W
    here = state_of (record d { values = v }) w left last o

    abbrev on : FrameValues → State W
    on x = state_of (record d { values = x }) w left last o

    pub land_at_block : (kind : Option ValueKind) (height : ℕ) (rest : Bor (List Instr)) → slice_get frames depth ≡ Some (frame.Block kind height rest) →
        v' ≡ record { below = v.below; locals = v.locals; stack = unwound kind height v.stack } → new ≡ drop (depth + 1) frames →
        under host program free v.below frames (Branch depth here) ≡ goes host program free new rest.now v' (on v')
    land_at_block kind height rest e k n =
        let front = in_front depth frames (frame.Block kind height rest) e in
        let le : height + arity kind ≤ length v.stack = subst (λ fs. Reaches fs 0 (length v.stack)) front (reached depth frames (length v.stack) reaches) in
        passes depth free v.below frames (length v.stack) here reaches
        ∙ ap (λ fs. under host program free v.below fs (Branch 0 here)) front
        ∙ ap (λ b. under host program free v.below (drop (depth + 1) frames) (and_then (only_if b (Normal (on_stack here (unwound kind height v.stack)))) (does program (call host program free) (expression_of rest.now))))
        (le-leb (height + arity kind) (length v.stack) le)
        ∙ ap (λ x. goes host program free (drop (depth + 1) frames) rest.now x (on x)) (sym k)
        ∙ ap (λ fs. goes host program free fs rest.now v' (on v')) (sym n)

    pub land_at_loop : HostFalls host → (height : ℕ) (body rest : Bor (List Instr)) → slice_get frames depth ≡ Some (frame.Loop height body rest) →
        v' ≡ record { below = v.below; locals = v.locals; stack = keep height v.stack } → new ≡ drop depth frames →
        under host program free v.below frames (Branch depth here) ≡ goes host program free new body.now v' (on v')
    land_at_loop falls height body rest e k n =
        let front = in_front depth frames (frame.Loop height body rest) e in
        let le : height ≤ length v.stack = subst (λ fs. Reaches fs 0 (length v.stack)) front (reached depth frames (length v.stack) reaches) in
        passes depth free v.below frames (length v.stack) here reaches
        ∙ land_Loop host program w left last o falls free 0 (drop depth frames) (drop (depth + 1) frames) (record d { values = v }) height body rest v' front refl le k
        ∙ ap (λ fs. goes host program free fs body.now v' (on v')) (sym n)

  -- ---- a branch that is the next instruction

  module _ (w : W) (free left last : ℕ) (o : Environment) (d : Data) (frames : List Frame) (v : FrameValues) (x : Expression) (rest : Expression) where
    abbrev state : State W
    state = state_of (record d { values = v }) w left last o

    abbrev outcome : Outcome W R
    outcome = under host program free v.below frames (acts program (call host program free) x state)

    pub takes : (y : Expression) (go : ℕ → State W → Outcome W R) → x ≡ y → acts program (call host program free) y state ≡ taking v.stack state go → NotStuck outcome → 0 < length v.stack
    takes y go e f h = has_one v.stack state go (subst NotStuck (ap (λ z. acts program (call host program free) z state) e ∙ f) (inner host program free v.below frames _ h))

    pub reaches_by : (n : ℕ) → x ≡ Br n rest → NotStuck outcome → Reaches frames n (length v.stack)
    reaches_by n e h = reaches host program free v.below frames n state (subst (λ z. NotStuck (under host program free v.below frames (acts program (call host program free) z state))) e h)

    as_branch : (n : ℕ) → x ≡ BrIf n rest → 0 < length v.stack →
        outcome ≡ under host program free v.below frames (and_then (jump_unless (low (top v.stack) == 0) n (on_stack state (popped v.stack))) (does program (call host program free) rest))
    as_branch n e lt =
        ap (λ z. under host program free v.below frames (acts program (call host program free) z state)) e
        ∙ ap (under host program free v.below frames) (BrIf_is program (call host program free) state lt n rest)

    pub goes_on : (n : ℕ) (v' : FrameValues) → x ≡ BrIf n rest → 0 < length v.stack → (low (top v.stack) == 0) ≡ true → v' ≡ record { below = v.below; locals = v.locals; stack = popped v.stack } →
        outcome ≡ under host program free v'.below frames (does program (call host program free) rest (state_of (record d { values = v' }) w left last o))
    goes_on n v' e lt z k =
        as_branch n e lt
        ∙ ap (λ b. under host program free v.below frames (and_then (jump_unless b n (on_stack state (popped v.stack))) (does program (call host program free) rest))) z
        ∙ ap (λ y. under host program free y.below frames (does program (call host program free) rest (state_of (record d { values = y }) w left last o))) (sym k)

    pub taken : (n : ℕ) → x ≡ BrIf n rest → 0 < length v.stack → (low (top v.stack) == 0) ≡ false → outcome ≡ under host program free v.below frames (Branch n (on_stack state (popped v.stack)))
    taken n e lt z =
        as_branch n e lt
        ∙ ap (λ b. under host program free v.below frames (and_then (jump_unless b n (on_stack state (popped v.stack))) (does program (call host program free) rest))) z

    pub reaches_if : (n : ℕ) → x ≡ BrIf n rest → 0 < length v.stack → (low (top v.stack) == 0) ≡ false → NotStuck outcome → Reaches frames n (length (popped v.stack))
    reaches_if n e lt z h = reaches host program free v.below frames n (on_stack state (popped v.stack)) (subst NotStuck (taken n e lt z) h)

    pub tabled : (ns : List ℕ) (n : ℕ) → x ≡ BrTable ns n rest → 0 < length v.stack →
        outcome ≡ under host program free v.below frames (Branch (slice_index_or ns (low (top v.stack)) n) (on_stack state (popped v.stack)))
    tabled ns n e lt =
        ap (λ z. under host program free v.below frames (acts program (call host program free) z state)) e
        ∙ ap (under host program free v.below frames) (BrTable_is program (call host program free) state lt ns n rest)

    pub reaches_tabled : (ns : List ℕ) (n : ℕ) → x ≡ BrTable ns n rest → 0 < length v.stack → NotStuck outcome → Reaches frames (slice_index_or ns (low (top v.stack)) n) (length (popped v.stack))
    reaches_tabled ns n e lt h = reaches host program free v.below frames (slice_index_or ns (low (top v.stack)) n) (on_stack state (popped v.stack)) (subst NotStuck (tabled ns n e lt) h)

pub length_popped : (xs : List ℕ) → 0 < length xs → length xs - 1 ≡ length (popped xs)
length_popped [] lt = absurd (omega (arith, lt))
length_popped (x ∷ xs) lt = omega arith
