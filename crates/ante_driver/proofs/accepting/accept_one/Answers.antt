use Rattle.std.proofs.Common.{Ok, true, false, ap, ◌∙◌, refl}
use Rattle.ante_journal.specs.Desk.{crowded, taking}
use Rattle.ante_driver.proofs.Runs.{then_went, went_err}
use Rattle.ante_driver.proofs.Went.{at_stage, last_calm}
use Rattle.ante_driver.proofs.accepting.accept_one.Goals as goal

pub returns-in_err-admit-clause-went : goal.returns-in_err-admit-clause-went
returns-in_err-admit-clause-went g c = went_err _ g.L.Links.tells _ _ _ _ _ c.from_residual.result c.from_residual.ensures.1 c.in_err-admit.ensures.went

pub close-requires-clause-calm : goal.close-requires-clause-calm
close-requires-clause-calm g c =
    (last_calm c.admit.new.front.slots.items c.as_slice.result.now c.admit.new.front.queue.items c.as_slice.ensures.value (c.admit.ensures.last (c.in_ok-admit.was ∙ ap Ok c.if-branch.true))).1

pub returns-then-branch-clause-went : goal.returns-then-branch-clause-went
returns-then-branch-clause-went g c =
    let h = last_calm c.admit.new.front.slots.items c.as_slice.result.now c.admit.new.front.queue.items c.as_slice.ensures.value (c.admit.ensures.last (c.in_ok-admit.was ∙ ap Ok c.if-branch.true)) in
    then_went g.L.Links.tells _ _ _ _ _ _ _ c.close.result
    (λ told. at_stage _ _ _ (g.L.Links.to_come c.admit.new.links) (g.L.Links.links c.admit.new.links) c.admit.new.front c.in_ok-admit.field-0 true c.if-branch.true (c.in_ok-admit.ensures.went told))
    (c.close.ensures.went crowded taking (h.0, refl))

pub returns-clause-went : goal.returns-clause-went
returns-clause-went g c = λ told.
    at_stage _ _ _ (g.L.Links.to_come c.admit.new.links) (g.L.Links.links c.admit.new.links) c.admit.new.front c.in_ok-admit.field-0 false c.if-branch.false (c.in_ok-admit.ensures.went told)
