use Rattle.std.proofs.Common.{◌<◌, ◌≤◌, ◌∷◌, [], ◌++◌, sym, ap, subst, ◌∙◌, arith}
use Rattle.ante_undo.specs.Slots.{mentions_at}
use Rattle.ante_undo.specs.Logs.{named_in, IsMoved}
use Rattle.ante_undo.proofs.Moves.{last_is, last_set, named_last, moved_entry}
use Rattle.ante_undo.proofs.logs.move_entry.Goals as goal

pub exchange-requires : goal.exchange-requires
exchange-requires g c =
    let cut = c.cut_last-last.ensures in
    let it = last_is _ cut.0 _ cut.2 c.in-Some.ensures.value in
    let some = named_last g.met.K.Ord.total c.cut_last-last.new.list cut.0 in
    let covered = subst (λ log. named_in g.K.Ord.cmp cut.0.0 log ≤ mentions_at g.K.Ord.cmp cut.0.0 c.args.slots.now.entries) cut.1 (c.requires.named cut.0.0) in
    let named : 0 < mentions_at g.K.Ord.cmp cut.0.0 c.args.slots.now.entries = omega arith in
    record { named = subst (λ x. 0 < mentions_at g.K.Ord.cmp x.0 c.args.slots.now.entries) (sym it) named }

pub returns-clause-moved : goal.returns-clause-moved
returns-clause-moved g c =
    let cut = c.cut_last-last.ensures in
    let it = last_is _ cut.0 _ cut.2 c.in-Some.ensures.value in
    let es = c.args.slots.now.entries in
    let moved = moved_entry g.met.K.Ord.total c.requires.exact es c.exchange.new.slots.entries c.requires.ordered c.exchange.ensures.ordered c.cut_last-last.new.list c.args.to.now c.in-Some.change.now c.exchange.ensures.slots in
    subst (λ from. IsMoved g.K.Ord.cmp es from c.args.to.now c.exchange.new.slots.entries c.cut_last-last.new.list c.append.new.self) (ap (λ x. c.cut_last-last.new.list ++ x ∷ []) it ∙ sym cut.1)
    (subst (λ to. IsMoved g.K.Ord.cmp es (c.cut_last-last.new.list ++ c.in-Some.change.now ∷ []) c.args.to.now c.exchange.new.slots.entries c.cut_last-last.new.list to)
    (ap (λ x. c.args.to.now ++ x ∷ []) (sym c.exchange.ensures.change) ∙ ap (λ l. c.args.to.now ++ l) (sym (last_set _ cut.0 _ cut.2)) ∙ sym c.in-Ok.ensures.items)
    moved)
