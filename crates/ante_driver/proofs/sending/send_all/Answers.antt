use Rattle.std.proofs.Common.{refl}
use Rattle.ante_driver.proofs.Runs.{leads_then, then_served, leads_stay, went_err}
use Rattle.ante_driver.proofs.sending.send_all.Goals as goal

pub loop-write-init : goal.loop-write-init
loop-write-init g c = record { paired = c.requires.paired; calm = c.requires.calm; leads = λ told. leads_stay _ _ _ _ refl refl }

pub loop-write-preserved : goal.loop-write-preserved
loop-write-preserved g c = record {
  paired = c.in_ok-send_once.ensures.paired;
  calm = c.in_ok-send_once.ensures.calm;
  leads = λ told. leads_then _ _ _ _ _ _ (c.loop-write.invariant.leads told) (c.in_ok-send_once.ensures.went told);
}

pub returns-in_err-send_once-clause-went : goal.returns-in_err-send_once-clause-went
returns-in_err-send_once-clause-went g c =
    went_err _ g.L.Links.tells _ _ _ _ _ c.from_residual.result c.from_residual.ensures.1
    (λ told. then_served _ _ _ _ _ _ (c.loop-write.invariant.leads told) (c.in_err-send_once.ensures.went told))

pub returns-in-Rests-clause-went : goal.returns-in-Rests-clause-went
returns-in-Rests-clause-went g c = λ told. leads_then _ _ _ _ _ _ (c.loop-write.invariant.leads told) (c.in_ok-send_once.ensures.went told)

pub returns-in-Failed-clause-went : goal.returns-in-Failed-clause-went
returns-in-Failed-clause-went g c = λ told. leads_then _ _ _ _ _ _ (c.loop-write.invariant.leads told) (c.in_ok-send_once.ensures.went told)
