use Rattle.ante_wtree.specs.Trees.{tree_of}
use Rattle.ante_wmeaning.specs.Instantiation.{program_in}
use Rattle.ante_wmeaning.proofs.GivenTypes.{imports_typed}
use Rattle.ante_wrun_tests.specs.Plays.{outcome}
use Rattle.ante_wrun_tests.proofs.Typed.{typed}
use Rattle.ante_wrun_tests.proofs.table.Table.run.Goals as goal

pub run-requires-clause-answers : goal.run-requires-clause-answers
run-requires-clause-answers g c = imports_typed (λ host function args left. Unit {0}) (λ host function args memory left. outcome host function args memory left)
    (program_in (tree_of c.in-Some.module)) c.imports_have_host_types.ensures
    (λ number params result args host memory left type fit allowed. typed number params result args host memory left type)
