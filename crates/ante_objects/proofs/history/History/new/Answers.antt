use Rattle.std.proofs.Common.{rules}
use Rattle.std.specs.FinMap.{nat_cmp-IsAntisymmetric, slice_cmp-IsAntisymmetric}
use Rattle.ante_objects.proofs.history.History.new.Goals as goal

pub new-requires-clause-exact : goal.new-requires-clause-exact
new-requires-clause-exact c = search (rules, slice_cmp-IsAntisymmetric, nat_cmp-IsAntisymmetric)
