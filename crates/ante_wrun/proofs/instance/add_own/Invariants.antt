use Rattle.std.proofs.Common.{◌≡◌, ◌<◌, ◌++◌, length, map}
use Rattle.std.specs.List.{AllByRecursion}
use Rattle.ante_wtree.specs.Trees.{body_of}
use Rattle.ante_wrun.specs.Control.{instance_of}
use Rattle.ante_wmeaning.specs.Instantiation.{own_functions}
use Rattle.ante_wrun.proofs.instance.add_own.Given as goal

abbrev pub invariant-functions : goal.invariant-functions
invariant-functions l =
    (map instance_of l.all.items ++ own_functions l.types l.kind (map body_of l.code)
    ≡ map instance_of l.fn.all.items ++ own_functions l.types l.fn.kinds (map body_of l.fn.codes))
    × AllByRecursion (λ kind. kind < length l.types) l.kind
    × (length l.kind ≡ length l.code)

abbrev pub decreases-functions : goal.decreases-functions
decreases-functions l = length l.kind
