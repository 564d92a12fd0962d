use Rattle.ante_sysapi_tests.proofs.Numbers.{is_sys}
use Rattle.ante_sysapi_tests.proofs.trial.is_sys_call.Goals as goal

pub returns : goal.returns
returns c = is_sys c.args.number
