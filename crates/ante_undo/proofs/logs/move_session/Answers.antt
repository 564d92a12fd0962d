use Rattle.std.proofs.Common.{◌≤◌, ◌∷◌, [], ◌++◌, sym, ap, subst, ◌∙◌}
use Rattle.ante_undo.specs.Slots.{mentions_at}
use Rattle.ante_undo.specs.Logs.{named_in, AreMoved}
use Rattle.ante_undo.proofs.Moves.{last_is, last_set, last_named, moved_session}
use Rattle.ante_undo.proofs.logs.move_session.Goals as goal

pub turn-requires-clause-named : goal.turn-requires-clause-named
turn-requires-clause-named g c q =
    let cut = c.cut_last-last.ensures in
    let it = last_is _ cut.0 _ cut.2 c.in-Some.ensures.value in
    subst (λ l. named_in g.K.Ord.cmp q l ≤ mentions_at g.K.Ord.cmp q c.args.slots.now.entries) (sym it) (last_named g.K.Ord.cmp c.args.slots.now.entries c.cut_last-last.new.list cut.0 cut.1 q (c.requires.named q))

pub returns-clause-moved : goal.returns-clause-moved
returns-clause-moved g c =
    let cut = c.cut_last-last.ensures in
    let it = last_is _ cut.0 _ cut.2 c.in-Some.ensures.value in
    let es = c.args.slots.now.entries in
    let moved = moved_session c.cut_last-last.new.list c.args.to.now c.turn.ensures.turned in
    subst (λ from. AreMoved g.K.Ord.cmp es from c.args.to.now c.turn.new.slots.entries c.cut_last-last.new.list c.append.new.self) (ap (λ x. c.cut_last-last.new.list ++ x ∷ []) it ∙ sym cut.1)
    (subst (λ to. AreMoved g.K.Ord.cmp es (c.cut_last-last.new.list ++ c.in-Some.log.now ∷ []) c.args.to.now c.turn.new.slots.entries c.cut_last-last.new.list to)
    (ap (λ l. c.args.to.now ++ l) (sym (last_set _ cut.0 _ cut.2)) ∙ sym c.in-Ok.ensures.items)
    moved)
