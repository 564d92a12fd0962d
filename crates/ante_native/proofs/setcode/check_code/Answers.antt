use Rattle.std.proofs.Common.{◌==◌, ◌∙◌, length, sym}
use Rattle.ante_types.specs.declared.failure.Failure.TheVariants as failure
use Rattle.ante_native.proofs.Steps.{no_bad_code, bad_code}
use Rattle.ante_native.proofs.setcode.check_code.Goals as goal

pub returns-then-branch : goal.returns-then-branch
returns-then-branch c = λ accepts is. no_bad_code (length c.args.code.now == 0) (accepts c.args.code.now) failure.BadCode (sym c.if-branch.true ∙ c.in_ok-may_be_code.ensures accepts is)

pub returns-else-branch : goal.returns-else-branch
returns-else-branch c = λ accepts is. bad_code (length c.args.code.now == 0) (accepts c.args.code.now) failure.BadCode (sym c.if-branch.false ∙ c.in_ok-may_be_code.ensures accepts is)
