use Rattle.std.proofs.Common.{ap, ◌∙◌, ◌++◌, ◌∷◌, []}
use Rattle.ante_undo.specs.Slots.{value_at}
use Rattle.ante_undo.proofs.Ends.{set_pushed, get_pushed}
use Rattle.ante_undo.proofs.logs.add_entry.Goals as goal

pub returns-clause-log : goal.returns-clause-log
returns-clause-log g c =
    let pushed = c.in_default.ensures.items in
    let it = get_pushed c.args.log.now c.push_back.new.self c.args.change c.in-Some.entry.now pushed c.in-Some.ensures.value in
    set_pushed c.args.log.now c.push_back.new.self c.args.change c.enter.new.change pushed
    ∙ ap (λ x. c.args.log.now ++ x ∷ []) (c.in_default-enter.ensures.change ∙ ap (λ x. (x.0, value_at g.K.Ord.cmp x.0 c.args.slots.now.entries)) it)
