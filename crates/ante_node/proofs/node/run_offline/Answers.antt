use Rattle.ante_node.proofs.Endings.{run_ended, run_fault, run_written}
use Rattle.ante_node.proofs.node.run_offline.Goals as goal

pub returns-clause-fault : goal.returns-clause-fault
returns-clause-fault g c = run_fault _ _ _ _ _ _ _ _ c.run-fault.ensures.ends

pub returns-clause-written : goal.returns-clause-written
returns-clause-written g c = run_written _ _ _ _ _ _ _ _ c.run-fault.ensures.ends

pub returns-clause-ended : goal.returns-clause-ended
returns-clause-ended g c = run_ended _ _ _ _ _ _ _ _ c.run-fault.ensures.ends
