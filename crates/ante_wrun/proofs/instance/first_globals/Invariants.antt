use Rattle.std.proofs.Common.{◌≡◌, ◌++◌, length, map}
use Rattle.std.specs.List.{AllByRecursion}
use Rattle.ante_wmeaning.specs.Instantiation.{constant}
use Rattle.ante_wrun.specs.GrantedByValidity.{IsLiteral}
use Rattle.ante_wrun.proofs.instance.first_globals.Given as goal

abbrev pub invariant-globals : goal.invariant-globals
invariant-globals l = (l.values.items ++ map (λ g. constant g.init) l.rest ≡ map (λ g. constant g.init) l.fn.globals) × AllByRecursion (λ g. IsLiteral g.init) l.rest

abbrev pub decreases-globals : goal.decreases-globals
decreases-globals l = length l.rest
