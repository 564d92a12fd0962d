use Rattle.std.proofs.Common.{refl}
use Rattle.ante_driver.proofs.Runs.{leads_then, then_served, leads_stay, went_err}
use Rattle.ante_driver.proofs.serving.serve_links.Goals as goal

pub loop-link-init : goal.loop-link-init
loop-link-init g c = record { room = c.requires.room; paired = c.requires.paired; leads = λ told. leads_stay _ _ _ _ refl refl }

pub loop-link-preserved : goal.loop-link-preserved
loop-link-preserved g c = record {
  room = c.in_ok-serve_idle.ensures.room;
  paired = c.in_ok-serve_idle.ensures.paired;
  leads = λ told. leads_then _ _ _ _ _ _ (c.loop-link.invariant.leads told) (c.in_ok-serve_idle.ensures.went told);
}

pub returns-in_err-serve_idle-clause-went : goal.returns-in_err-serve_idle-clause-went
returns-in_err-serve_idle-clause-went g c =
    went_err _ g.L.Links.tells _ _ _ _ _ c.from_residual.result c.from_residual.ensures.1
    (λ told. then_served _ _ _ _ _ _ (c.loop-link.invariant.leads told) (c.in_err-serve_idle.ensures.went told))

pub returns-clause-went : goal.returns-clause-went
returns-clause-went g c = c.loop-link.invariant.leads
