use Rattle.std.proofs.Common.{Some, length, sym, ap, subst, ◌∙◌}
use Rattle.ante_wrun.specs.ThreadStates.{Reaches, Nested}
use Rattle.ante_wrun.proofs.Landing.{reached, nested_past, in_front, land_at_block, land_at_loop}
use Rattle.ante_wrun.proofs.blocks.land.Goals as goal

pub unwind-requires : goal.unwind-requires
unwind-requires g c =
    let e = c.requires.label ∙ ap Some c.in-Block.is in
    subst (λ fs. Reaches fs 0 (length c.args.values.now.stack)) (in_front c.args.depth c.args.frames.now _ e) (reached c.args.depth c.args.frames.now _ c.requires.reaches)

pub keep-requires : goal.keep-requires
keep-requires g c =
    let e = c.requires.label ∙ ap Some c.in-Loop.is in
    subst (λ fs. Reaches fs 0 (length c.args.values.now.stack)) (in_front c.args.depth c.args.frames.now _ e) (reached c.args.depth c.args.frames.now _ c.requires.reaches)

pub returns-in-Block-clause-leads : goal.returns-in-Block-clause-leads
returns-in-Block-clause-leads g c = λ program w free left last o d.
    land_at_block g.H.Host.meaning program w free left last o d c.args.depth c.args.frames.now c.discard.new.frames c.args.values.now c.unwind.new.self c.requires.reaches
    c.in-Block.kind c.in-Block.height c.in-Block.rest (c.requires.label ∙ ap Some c.in-Block.is) c.unwind.ensures c.discard.ensures

pub returns-in-Block-clause-nested : goal.returns-in-Block-clause-nested
returns-in-Block-clause-nested g c = λ below n.
    let fs = c.args.frames.now in
    let e = c.requires.label ∙ ap Some c.in-Block.is in
    subst (Nested below) (sym c.discard.ensures)
    (subst (Nested below) (in_front c.args.depth fs _ e) (nested_past c.args.depth below fs _ c.requires.reaches n))

pub returns-in-Loop-clause-leads : goal.returns-in-Loop-clause-leads
returns-in-Loop-clause-leads g c = λ program w free left last o d.
    land_at_loop g.H.Host.meaning program w free left last o d c.args.depth c.args.frames.now c.discard-in-Loop.new.frames c.args.values.now c.keep.new.self c.requires.reaches
    g.met.H.Host.falls c.in-Loop.height c.in-Loop.body _ (c.requires.label ∙ ap Some c.in-Loop.is) c.keep.ensures c.discard-in-Loop.ensures

pub returns-in-Loop-clause-nested : goal.returns-in-Loop-clause-nested
returns-in-Loop-clause-nested g c = λ below n. subst (Nested below) (sym c.discard-in-Loop.ensures) (nested_past c.args.depth below c.args.frames.now _ c.requires.reaches n)
