use Rattle.std.proofs.Common.{[], ◌∷◌, length, drop, sym, ap, subst, ◌∙◌}
use Rattle.std.proofs.lemmas.Bool.{eqb-true}
use Rattle.ante_wrun.specs.ThreadStates.{goes, Nested}
use Rattle.ante_wrun.proofs.Bodies.{no_items}
use Rattle.ante_wrun.proofs.blocks.after_blocks.Goals as goal

pub ended-preserved-in-Block : goal.ended-preserved-in-Block
ended-preserved-in-Block g c =
    let l = c.ended in
    let top = c.in-Some.ensures ∙ ap (λ f. f ∷ drop 1 l.frames) c.in-Block.is in (
      λ program free v s.
          l.invariant.0 program free v s
          ∙ ap (λ code. goes g.H.Host.meaning program free l.frames code v s) (no_items l.rest.now (eqb-true (length l.rest.now) 0 (sym c.is_empty.ensures ∙ c.ended-test.true)))
          ∙ ap (λ fs. goes g.H.Host.meaning program free fs [] v s) top
          ∙ ap (λ fs. goes g.H.Host.meaning program free fs c.in-Block.after.now v s) (sym c.discard.ensures),
      λ below n. subst (Nested below) (sym c.discard.ensures) (subst (Nested below) top (l.invariant.1 below n)),
    )

pub ended-preserved : goal.ended-preserved
ended-preserved g c =
    let l = c.ended in
    let top = c.in-Some.ensures ∙ ap (λ f. f ∷ drop 1 l.frames) c.in-Loop.is in (
      λ program free v s.
          l.invariant.0 program free v s
          ∙ ap (λ code. goes g.H.Host.meaning program free l.frames code v s) (no_items l.rest.now (eqb-true (length l.rest.now) 0 (sym c.is_empty.ensures ∙ c.ended-test.true)))
          ∙ ap (λ fs. goes g.H.Host.meaning program free fs [] v s) top
          ∙ ap (λ fs. goes g.H.Host.meaning program free fs c.in-Loop.after.now v s) (sym c.discard-in-Loop.ensures),
      λ below n. subst (Nested below) (sym c.discard-in-Loop.ensures) (subst (Nested below) top (l.invariant.1 below n)),
    )
