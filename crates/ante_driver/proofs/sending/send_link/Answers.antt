use Rattle.std.proofs.Common.{refl}
use Rattle.ante_journal.specs.Desk.{sending}
use Rattle.ante_driver.proofs.Runs.{then_went, went_err}
use Rattle.ante_driver.proofs.sending.send_link.Goals as goal

pub returns-in_err-send_all-clause-went : goal.returns-in_err-send_all-clause-went
returns-in_err-send_all-clause-went g c = went_err _ g.L.Links.tells _ _ _ _ _ c.from_residual.result c.from_residual.ensures.1 c.in_err-send_all.ensures.went

pub returns-then-branch-clause-went : goal.returns-then-branch-clause-went
returns-then-branch-clause-went g c = then_went g.L.Links.tells _ _ _ _ _ _ _ c.close.result c.in_ok-send_all.ensures.went (c.close.ensures.went sending sending refl)

pub returns-then-is_over-clause-went : goal.returns-then-is_over-clause-went
returns-then-is_over-clause-went g c = then_went g.L.Links.tells _ _ _ _ _ _ _ c.close-then-is_over.result c.in_ok-send_all.ensures.went (c.close-then-is_over.ensures.went sending sending refl)

pub returns-clause-went : goal.returns-clause-went
returns-clause-went g c = c.in_ok-send_all.ensures.went
