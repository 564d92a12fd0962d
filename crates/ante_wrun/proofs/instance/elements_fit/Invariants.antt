use Rattle.std.proofs.Common.{◌≡◌, length}
use Rattle.std.specs.List.{AllByRecursion}
use Rattle.ante_wmeaning.specs.Instantiation.{elements_fit}
use Rattle.ante_wrun.specs.GrantedByValidity.{IsLiteral}
use Rattle.ante_wrun.proofs.instance.elements_fit.Given as goal

abbrev pub invariant-elements : goal.invariant-elements
invariant-elements l = (elements_fit l.places l.rest ≡ elements_fit l.places l.fn.elements) × AllByRecursion (λ e. IsLiteral e.offset) l.rest

abbrev pub decreases-elements : goal.decreases-elements
decreases-elements l = length l.rest
