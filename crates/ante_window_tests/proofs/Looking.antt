-- Looks, one more at a time.
use Rattle.std.proofs.Common.{ℕ, List, [], ◌∷◌, ◌++◌, Option, subst, refl}
use Rattle.ante_base.specs.Stops.{Looks}

pub look_then : {S : Type 0} (may : S → Option ℕ → S → Type 0) (old mid new : S) (answers : List (Option ℕ)) (answer : Option ℕ) → Looks may old answers mid →
    may mid answer new → Looks may old (answers ++ answer ∷ []) new
look_then may old mid new [] answer h m = (new, subst (λ s. may s answer new) h m, refl)
look_then may old mid new (x ∷ xs) answer h m = (h.0, h.1, look_then may h.0 mid new xs answer h.2 m)
