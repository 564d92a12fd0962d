use Rattle.ante_apply.proofs.Modules.{found_for}
use Rattle.ante_apply.proofs.codes.module_for.Goals as goal

pub returns-in-Ok : goal.returns-in-Ok
returns-in-Ok c = λ accepts a. found_for accepts a c.args.code.now c.in-Ok.module c.in-Ok.ensures.found
