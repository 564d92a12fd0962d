-- What looks one after the other make of the count.
use Rattle.std.specs.Prelude.{◌≡◌, ℕ, suc, List, [], ◌∷◌, length, Option, Some, None}
use Rattle.std.proofs.Common.{◌∙◌, sym, ap, subst, arith}
use Rattle.ante_base.specs.Stops.{Looks, looked, Rises}

no_more : (count : ℕ) → looked count 0 ≡ count
no_more count = grind arith

one_and : (count more : ℕ) → looked (looked count 1) more ≡ looked count (suc more)
one_and count more = grind arith

none_rise : (a : Option ℕ) → Rises 0 a a
none_rise None = tt
none_rise (Some count) = ap Some (sym (no_more count))

rise_then : (more : ℕ) (a b c : Option ℕ) → Rises 1 a b → Rises more b c → Rises (suc more) a c
rise_then more None b c p q = tt
rise_then more (Some x) b c p q = subst (λ o. Rises more o c → c ≡ Some (looked x (suc more))) (sym p) (λ r. r ∙ ap Some (one_and x more)) q

-- Where each look raises the count by one, looks raise it by their number.
pub Looks-rise : {S : Type 0} (may : S → Option ℕ → S → Type 0) (looks : S → Option ℕ) →
    ((old : S) (answer : Option ℕ) (new : S) → may old answer new → Rises 1 (looks old) (looks new)) →
    (answers : List (Option ℕ)) (old new : S) → Looks may old answers new → Rises (length answers) (looks old) (looks new)
Looks-rise may looks one [] old new h = subst (λ s. Rises 0 (looks old) (looks s)) (sym h) (none_rise (looks old))
Looks-rise may looks one (answer ∷ answers) old new h =
    rise_then (length answers) (looks old) (looks h.0) (looks new) (one old answer h.0 h.1) (Looks-rise may looks one answers h.0 new h.2)
