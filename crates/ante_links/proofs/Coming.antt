-- What taking the next link off those to come leaves.
use Rattle.std.proofs.Common.{◌≡◌, List, [], ◌∷◌, ◌++◌, Option, Some, subst, ap, ◌∙◌}
use Rattle.std.specs.List.{AllByRecursion}
use Rattle.ante_links.specs.LinkStates.{LinkState, fresh_link}
use Rattle.ante_links.specs.Memory.{IsFresh, inputs_of}

pub next_link : (given new : List LinkState) (coming left : List (Option LinkState)) (link : LinkState) → coming ≡ Some link ∷ left → AllByRecursion IsFresh coming → new ≡ given ++ link ∷ []
    → (new ≡ given ++ fresh_link link.left ∷ []) × (inputs_of coming ≡ Some link.left ∷ inputs_of left)
next_link given new coming left link e fresh is = (is ∙ ap (λ (l : LinkState). given ++ l ∷ []) (subst (AllByRecursion IsFresh) e fresh).0, ap inputs_of e)
