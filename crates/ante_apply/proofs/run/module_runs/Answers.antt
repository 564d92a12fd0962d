use Rattle.ante_apply.proofs.Ends.{ended_runs}
use Rattle.ante_apply.proofs.run.module_runs.Goals as goal

pub returns-clause-runs : goal.returns-clause-runs
returns-clause-runs g c = ended_runs _ _ _ _ _ _ c.run_code-end.result.0 c.ended.result c.run_code-end.ensures.runs c.ended.ensures
