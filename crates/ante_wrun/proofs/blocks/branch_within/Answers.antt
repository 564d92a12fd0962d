use Rattle.std.proofs.Common.{◌≡◌, false, length, refl, sym, ap, subst, ◌∙◌, arith}
use Rattle.std.specs.Prelude.{◌==◌, slice_index_or}
use Rattle.std.proofs.lemmas.Bool.{eqb-true}
use Rattle.ante_wtree.specs.Expressions.{cons_shape, expression_of}
use Rattle.ante_wmeaning.specs.PlainInstructions.{low, top, popped}
use Rattle.ante_wmeaning.specs.Configurations.{Branch}
use Rattle.ante_wrun.specs.ThreadStates.{state_of, under, Reaches}
use Rattle.ante_wrun.proofs.Landing.{takes, reaches_by, goes_on, taken, reaches_if, tabled, reaches_tabled}
use Rattle.ante_wrun.proofs.blocks.branch_within.Goals as goal

pub inner_label-requires : goal.inner_label-requires
inner_label-requires g c =
    let q = c.requires in
    let rest = expression_of c.args.rest.now in
    (length c.args.values.now.stack, reaches_by g.H.Host.meaning q.0 q.1 q.2 q.3 q.4 q.5 q.6 c.args.frames.now c.args.values.now (cons_shape c.args.shape rest) rest c.in-Br.depth (ap (λ s. cons_shape s rest) c.in-Br.is) q.7)

pub land-requires-clause-reaches : goal.land-requires-clause-reaches
land-requires-clause-reaches g c =
    let q = c.requires in
    let rest = expression_of c.args.rest.now in
    reaches_by g.H.Host.meaning q.0 q.1 q.2 q.3 q.4 q.5 q.6 c.args.frames.now c.args.values.now (cons_shape c.args.shape rest) rest c.in-Br.depth (ap (λ s. cons_shape s rest) c.in-Br.is) q.7

pub top-requires : goal.top-requires
top-requires g c =
    let q = c.requires in
    let rest = expression_of c.args.rest.now in
    takes g.H.Host.meaning q.0 q.1 q.2 q.3 q.4 q.5 q.6 c.args.frames.now c.args.values.now (cons_shape c.args.shape rest) rest _ _ (ap (λ s. cons_shape s rest) c.in-BrIf.is) refl q.7

pub pop-requires : goal.pop-requires
pop-requires g c =
    let q = c.requires in
    let rest = expression_of c.args.rest.now in
    takes g.H.Host.meaning q.0 q.1 q.2 q.3 q.4 q.5 q.6 c.args.frames.now c.args.values.now (cons_shape c.args.shape rest) rest _ _ (ap (λ s. cons_shape s rest) c.in-BrIf.is) refl q.7

pub returns-then-low-eq0-clause-leads : goal.returns-then-low-eq0-clause-leads
returns-then-low-eq0-clause-leads g c = λ program w free left last o d.
    let q = c.requires in
    let rest = expression_of c.args.rest.now in
    let v = c.args.values.now in
    let x = cons_shape c.args.shape rest in
    let lt = takes g.H.Host.meaning q.0 q.1 q.2 q.3 q.4 q.5 q.6 c.args.frames.now v x rest _ _ (ap (λ s. cons_shape s rest) c.in-BrIf.is) refl q.7 in
    let n : low (top v.stack) ≡ c.low.result = sym (c.low.ensures ∙ ap low c.top.ensures) in
    goes_on g.H.Host.meaning program w free left last o d c.args.frames.now v x rest c.in-BrIf.depth c.pop.new.self (ap (λ s. cons_shape s rest) c.in-BrIf.is) lt (ap (λ k. k == 0) (n ∙ c.if-low-eq0.true)) c.pop.ensures.rest

pub inner_label-requires-in-BrIf : goal.inner_label-requires-in-BrIf
inner_label-requires-in-BrIf g c =
    let q = c.requires in
    let rest = expression_of c.args.rest.now in
    let v = c.args.values.now in
    let x = cons_shape c.args.shape rest in
    let lt = takes g.H.Host.meaning q.0 q.1 q.2 q.3 q.4 q.5 q.6 c.args.frames.now v x rest _ _ (ap (λ s. cons_shape s rest) c.in-BrIf.is) refl q.7 in
    let n : low (top v.stack) ≡ c.low.result = sym (c.low.ensures ∙ ap low c.top.ensures) in
    let z : (low (top v.stack) == 0) ≡ false = ap (λ k. k == 0) n ∙ grind (arith, eqb-true, c.if-low-eq0.false) in
    (length (popped v.stack), reaches_if g.H.Host.meaning q.0 q.1 q.2 q.3 q.4 q.5 q.6 c.args.frames.now v x rest c.in-BrIf.depth (ap (λ s. cons_shape s rest) c.in-BrIf.is) lt z q.7)

pub pop-requires-in-BrIf : goal.pop-requires-in-BrIf
pop-requires-in-BrIf g c =
    let q = c.requires in
    let rest = expression_of c.args.rest.now in
    takes g.H.Host.meaning q.0 q.1 q.2 q.3 q.4 q.5 q.6 c.args.frames.now c.args.values.now (cons_shape c.args.shape rest) rest _ _ (ap (λ s. cons_shape s rest) c.in-BrIf.is) refl q.7

pub land-requires-in-BrIf-clause-reaches : goal.land-requires-in-BrIf-clause-reaches
land-requires-in-BrIf-clause-reaches g c =
    let q = c.requires in
    let rest = expression_of c.args.rest.now in
    let v = c.args.values.now in
    let x = cons_shape c.args.shape rest in
    let lt = takes g.H.Host.meaning q.0 q.1 q.2 q.3 q.4 q.5 q.6 c.args.frames.now v x rest _ _ (ap (λ s. cons_shape s rest) c.in-BrIf.is) refl q.7 in
    let n : low (top v.stack) ≡ c.low.result = sym (c.low.ensures ∙ ap low c.top.ensures) in
    let z : (low (top v.stack) == 0) ≡ false = ap (λ k. k == 0) n ∙ grind (arith, eqb-true, c.if-low-eq0.false) in
    subst (λ y. Reaches c.args.frames.now c.in-BrIf.depth (length y.stack)) (sym c.pop-in-BrIf.ensures.rest)
    (reaches_if g.H.Host.meaning q.0 q.1 q.2 q.3 q.4 q.5 q.6 c.args.frames.now v x rest c.in-BrIf.depth (ap (λ s. cons_shape s rest) c.in-BrIf.is) lt z q.7)

pub returns-in_ok-frame-in-BrIf-clause-leads : goal.returns-in_ok-frame-in-BrIf-clause-leads
returns-in_ok-frame-in-BrIf-clause-leads g c = λ program w free left last o d.
    let q = c.requires in
    let rest = expression_of c.args.rest.now in
    let v = c.args.values.now in
    let x = cons_shape c.args.shape rest in
    let lt = takes g.H.Host.meaning q.0 q.1 q.2 q.3 q.4 q.5 q.6 c.args.frames.now v x rest _ _ (ap (λ s. cons_shape s rest) c.in-BrIf.is) refl q.7 in
    let n : low (top v.stack) ≡ c.low.result = sym (c.low.ensures ∙ ap low c.top.ensures) in
    let z : (low (top v.stack) == 0) ≡ false = ap (λ k. k == 0) n ∙ grind (arith, eqb-true, c.if-low-eq0.false) in
    taken g.H.Host.meaning program w free left last o d c.args.frames.now v x rest c.in-BrIf.depth (ap (λ s. cons_shape s rest) c.in-BrIf.is) lt z
    ∙ ap (λ y. under g.H.Host.meaning program free y.below c.args.frames.now (Branch c.in-BrIf.depth (state_of (record d { values = y }) w left last o))) (sym c.pop-in-BrIf.ensures.rest)
    ∙ c.land-in-BrIf.ensures.leads program w free left last o d

-- a table of labels
pub top-requires-in-BrTable : goal.top-requires-in-BrTable
top-requires-in-BrTable g c =
    let q = c.requires in
    let rest = expression_of c.args.rest.now in
    let v = c.args.values.now in
    let x = cons_shape c.args.shape rest in
    let lt = takes g.H.Host.meaning q.0 q.1 q.2 q.3 q.4 q.5 q.6 c.args.frames.now v x rest _ _ (ap (λ s. cons_shape s rest) c.in-BrTable.is) refl q.7 in
    lt

pub pop-requires-in-BrTable : goal.pop-requires-in-BrTable
pop-requires-in-BrTable g c =
    let q = c.requires in
    let rest = expression_of c.args.rest.now in
    let v = c.args.values.now in
    let x = cons_shape c.args.shape rest in
    let lt = takes g.H.Host.meaning q.0 q.1 q.2 q.3 q.4 q.5 q.6 c.args.frames.now v x rest _ _ (ap (λ s. cons_shape s rest) c.in-BrTable.is) refl q.7 in
    lt

pub inner_label-requires-in-BrTable : goal.inner_label-requires-in-BrTable
inner_label-requires-in-BrTable g c =
    let q = c.requires in
    let rest = expression_of c.args.rest.now in
    let v = c.args.values.now in
    let x = cons_shape c.args.shape rest in
    let lt = takes g.H.Host.meaning q.0 q.1 q.2 q.3 q.4 q.5 q.6 c.args.frames.now v x rest _ _ (ap (λ s. cons_shape s rest) c.in-BrTable.is) refl q.7 in
    let n : slice_index_or c.in-BrTable.labels.now (low (top v.stack)) c.in-BrTable.last ≡ c.label-depth.result =
    ap (λ k. slice_index_or c.in-BrTable.labels.now k c.in-BrTable.last) (sym (c.low-in-BrTable.ensures ∙ ap low c.top-in-BrTable.ensures)) ∙ sym c.label-depth.ensures in
    let reached = subst (λ k. Reaches c.args.frames.now k (length (popped v.stack))) n (reaches_tabled g.H.Host.meaning q.0 q.1 q.2 q.3 q.4 q.5 q.6 c.args.frames.now v x rest c.in-BrTable.labels.now c.in-BrTable.last (ap (λ s. cons_shape s rest) c.in-BrTable.is) lt q.7) in
    (length (popped v.stack), reached)

pub land-requires-in-BrTable-clause-reaches : goal.land-requires-in-BrTable-clause-reaches
land-requires-in-BrTable-clause-reaches g c =
    let q = c.requires in
    let rest = expression_of c.args.rest.now in
    let v = c.args.values.now in
    let x = cons_shape c.args.shape rest in
    let lt = takes g.H.Host.meaning q.0 q.1 q.2 q.3 q.4 q.5 q.6 c.args.frames.now v x rest _ _ (ap (λ s. cons_shape s rest) c.in-BrTable.is) refl q.7 in
    let n : slice_index_or c.in-BrTable.labels.now (low (top v.stack)) c.in-BrTable.last ≡ c.label-depth.result =
    ap (λ k. slice_index_or c.in-BrTable.labels.now k c.in-BrTable.last) (sym (c.low-in-BrTable.ensures ∙ ap low c.top-in-BrTable.ensures)) ∙ sym c.label-depth.ensures in
    let reached = subst (λ k. Reaches c.args.frames.now k (length (popped v.stack))) n (reaches_tabled g.H.Host.meaning q.0 q.1 q.2 q.3 q.4 q.5 q.6 c.args.frames.now v x rest c.in-BrTable.labels.now c.in-BrTable.last (ap (λ s. cons_shape s rest) c.in-BrTable.is) lt q.7) in
    subst (λ y. Reaches c.args.frames.now c.label-depth.result (length y.stack)) (sym c.pop-in-BrTable.ensures.rest) reached

pub returns-in_ok-frame-in-BrTable-clause-leads : goal.returns-in_ok-frame-in-BrTable-clause-leads
returns-in_ok-frame-in-BrTable-clause-leads g c = λ program w free left last o d.
    let q = c.requires in
    let rest = expression_of c.args.rest.now in
    let v = c.args.values.now in
    let x = cons_shape c.args.shape rest in
    let lt = takes g.H.Host.meaning q.0 q.1 q.2 q.3 q.4 q.5 q.6 c.args.frames.now v x rest _ _ (ap (λ s. cons_shape s rest) c.in-BrTable.is) refl q.7 in
    let n : slice_index_or c.in-BrTable.labels.now (low (top v.stack)) c.in-BrTable.last ≡ c.label-depth.result =
    ap (λ k. slice_index_or c.in-BrTable.labels.now k c.in-BrTable.last) (sym (c.low-in-BrTable.ensures ∙ ap low c.top-in-BrTable.ensures)) ∙ sym c.label-depth.ensures in
    tabled g.H.Host.meaning program w free left last o d c.args.frames.now v x rest c.in-BrTable.labels.now c.in-BrTable.last (ap (λ s. cons_shape s rest) c.in-BrTable.is) lt
    ∙ ap (λ k. under g.H.Host.meaning program free v.below c.args.frames.now (Branch k (state_of (record d { values = record { below = v.below; locals = v.locals; stack = popped v.stack } }) w left last o))) n
    ∙ ap (λ y. under g.H.Host.meaning program free y.below c.args.frames.now (Branch c.label-depth.result (state_of (record d { values = y }) w left last o))) (sym c.pop-in-BrTable.ensures.rest)
    ∙ c.land-in-BrTable.ensures.leads program w free left last o d
