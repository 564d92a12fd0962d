use Rattle.std.proofs.Common.{[], ◌∷◌}
use Rattle.ante_wtree.specs.Trees.{tree_of}
use Rattle.ante_wmeaning.specs.Instantiation.{program_in}
use Rattle.ante_wmeaning.proofs.GivenTypes.{imports_typed}
use Rattle.ante_wrun_tests.proofs.Twice.{counting, counting_typed, same_holder, counted_run}
use Rattle.ante_wrun_tests.proofs.counting.run_once.Goals as goal

pub run-requires-clause-answers : goal.run-requires-clause-answers
run-requires-clause-answers g c =
    imports_typed (λ host function args left. Unit {0}) counting (program_in (tree_of c.args.module.now)) c.imports_have_host_types.ensures counting_typed

pub returns-clause-holder : goal.returns-clause-holder
returns-clause-holder g c = same_holder (tree_of c.args.module.now) (1 ∷ 2 ∷ 3 ∷ []) c.args.host.now c.args.steps c.run.result c.run.new.host c.run.new.left c.run.ensures.comes

pub returns-clause-count : goal.returns-clause-count
returns-clause-count g c = counted_run (tree_of c.args.module.now) (1 ∷ 2 ∷ 3 ∷ []) c.args.host.now c.args.steps c.run.result c.run.new.host c.run.new.left c.run.ensures.comes
    (λ at is. let asked = c.run.ensures.cut at is in cc)
