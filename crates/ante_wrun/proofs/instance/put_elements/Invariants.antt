use Rattle.std.proofs.Common.{◌≡◌, length, true}
use Rattle.std.specs.Prelude.{fold}
use Rattle.std.specs.List.{AllByRecursion}
use Rattle.ante_wmeaning.specs.Instantiation.{with_element, elements_fit}
use Rattle.ante_wrun.specs.GrantedByValidity.{IsLiteral}
use Rattle.ante_wrun.proofs.instance.put_elements.Given as goal

abbrev pub invariant-elements : goal.invariant-elements
invariant-elements l =
    (fold with_element l.table l.rest ≡ fold with_element l.fn.table l.fn.elements)
    × AllByRecursion (λ e. IsLiteral e.offset) l.rest
    × (elements_fit (length l.table) l.rest ≡ true)

abbrev pub decreases-elements : goal.decreases-elements
decreases-elements l = length l.rest
