use Rattle.std.proofs.Common.{◌≡◌, ◌++◌, length, map}
use Rattle.std.specs.List.{AllByRecursion}
use Rattle.ante_wrun.specs.Control.{instance_of}
use Rattle.ante_wmeaning.specs.Instantiation.{given_functions}
use Rattle.ante_wrun.specs.GrantedByValidity.{Links}
use Rattle.ante_wrun.proofs.instance.given_functions.Given as goal

abbrev pub invariant-imports : goal.invariant-imports
invariant-imports l = (map instance_of l.all.items ++ given_functions l.types l.rest ≡ given_functions l.types l.fn.imports) × AllByRecursion (Links l.types) l.rest

abbrev pub decreases-imports : goal.decreases-imports
decreases-imports l = length l.rest
