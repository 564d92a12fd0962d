use Rattle.std.proofs.Common.{Ok, ap, ◌∙◌, refl}
use Rattle.ante_journal.specs.Desk.{taking}
use Rattle.ante_driver.proofs.Runs.{leads_then, then_served, then_went, went_err}
use Rattle.ante_driver.proofs.Went.{calm_of}
use Rattle.ante_driver.proofs.serving.serve_link.Goals as goal

pub read_once-requires-clause-idle : goal.read_once-requires-clause-idle
read_once-requires-clause-idle g c = c.take_one.ensures.idle (c.in_ok-take_one.was ∙ ap Ok c.if-branch.false)

pub close-requires-clause-calm : goal.close-requires-clause-calm
close-requires-clause-calm g c = calm_of _ _ _ c.in_ok-read_once.ensures.idle

pub returns-in_err-take_one-clause-went : goal.returns-in_err-take_one-clause-went
returns-in_err-take_one-clause-went g c = went_err _ g.L.Links.tells _ _ _ _ _ c.from_residual.result c.from_residual.ensures.1 c.in_err-take_one.ensures.went

pub returns-then-branch-clause-went : goal.returns-then-branch-clause-went
returns-then-branch-clause-went g c = c.in_ok-take_one.ensures.went

pub returns-in_err-read_once-clause-went : goal.returns-in_err-read_once-clause-went
returns-in_err-read_once-clause-went g c =
    went_err _ g.L.Links.tells _ _ _ _ _ c.from_residual-in_err-read_once.result c.from_residual-in_err-read_once.ensures.1
    (λ told. then_served _ _ _ _ _ _ (c.in_ok-take_one.ensures.went told) (c.in_err-read_once.ensures.went told))

pub returns-in_err-take_one-2-clause-went : goal.returns-in_err-take_one-2-clause-went
returns-in_err-take_one-2-clause-went g c =
    went_err _ g.L.Links.tells _ _ _ _ _ c.from_residual-in_err-take_one-2.result c.from_residual-in_err-take_one-2.ensures.1
    (λ told. then_served _ _ _ _ _ _ (leads_then _ _ _ _ _ _ (c.in_ok-take_one.ensures.went told) (c.in_ok-read_once.ensures.went told)) (c.in_err-take_one-2.ensures.went told))

pub returns-then-branch-2-clause-went : goal.returns-then-branch-2-clause-went
returns-then-branch-2-clause-went g c = λ told.
    leads_then _ _ _ _ _ _ (leads_then _ _ _ _ _ _ (c.in_ok-take_one.ensures.went told) (c.in_ok-read_once.ensures.went told)) (c.in_ok-take_one-2.ensures.went told)

pub returns-clause-went : goal.returns-clause-went
returns-clause-went g c =
    then_went g.L.Links.tells _ _ _ _ _ _ _ c.close.result
    (λ told. leads_then _ _ _ _ _ _ (c.in_ok-take_one.ensures.went told) (c.in_ok-read_once.ensures.went told)) (c.close.ensures.went taking taking refl)
