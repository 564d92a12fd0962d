use Rattle.std.proofs.Common.{subst}
use Rattle.ante_wtree.specs.Trees.{tree_of}
use Rattle.ante_wmeaning.specs.Instantiation.{program_in}
use Rattle.ante_wmeaning.specs.HostConditions.{HaveHostTypes}
use Rattle.ante_wmeaning.proofs.GivenTypes.{have_host_types}
use Rattle.ante_wmeaning.proofs.laws.imports_have_host_types.Goals as goal

pub returns : goal.returns
returns c = subst (λ m. HaveHostTypes (program_in (tree_of m))) c.module-tree.ensures.module
    (have_host_types c.one_number_a_name.ensures (tree_of c.module-tree.result.now) c.module-tree.ensures.valid)
