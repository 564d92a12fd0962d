use Rattle.ante_core.proofs.History.{history}
use Rattle.ante_core.proofs.laws.every_job_is_served.Goals as goal

pub returns : goal.returns
returns g c = λ world events. (history _ world events).served
