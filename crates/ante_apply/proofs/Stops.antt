-- Looks one after another.
use Rattle.std.proofs.Common.{◌≡◌, refl, sym, ap, subst, ◌∙◌, ℕ, ◌+◌, List, [], ◌∷◌, ◌++◌, Option, None, Some, arith}
use Rattle.ante_base.specs.Stops.{Looks, looked, Rises}
use Rattle.ante_execution.specs.Stopping.{Reaches, AskedAt}

-- ---- the count

looked_both : (count n m : ℕ) → looked (looked count n) m ≡ looked count (n + m)
looked_both count n m = omega arith

pub rises_both : (n m : ℕ) (old mid new : Option ℕ) → Rises n old mid → Rises m mid new → Rises (n + m) old new
rises_both n m None mid new a b = tt
rises_both n m (Some count) mid new a b =
    let e : new ≡ Some (looked (looked count n) m) = subst (λ x. Rises m x new) a b in
    e ∙ ap Some (looked_both count n m)

pub rises_none : (old : Option ℕ) → Rises 0 old old
rises_none None = tt
rises_none (Some count) = ap Some (sym (looked_none count))
  where
    looked_none : (c : ℕ) → looked c 0 ≡ c
    looked_none c = omega arith

-- ---- the stop

module _ {S : Type 0} (may : S → Option ℕ → S → Type 0) where
  pub looks_both : (xs ys : List (Option ℕ)) (a b c : S) → Looks may a xs b → Looks may b ys c → Looks may a (xs ++ ys) c
  looks_both [] ys a b c one two = subst (λ x. Looks may x ys c) one two
  looks_both (x ∷ xs) ys a b c one two = (one.0, one.1, looks_both xs ys one.0 b c one.2 two)

  pub reaches_none : (s : S) → Reaches may s s
  reaches_none s = ([], refl)

  pub reaches_both : (a b c : S) → Reaches may a b → Reaches may b c → Reaches may a c
  reaches_both a b c one two = (one.0 ++ two.0, looks_both one.0 two.0 a b c one.1 two.1)

  pub asked_after : (a b c : S) (at : ℕ) → Reaches may a b → AskedAt may b at c → AskedAt may a at c
  asked_after a b c at one two = (two.0, reaches_both a b two.0 one two.1, two.2)
