-- Tests that decide: of two things that neither holds, and of lists.
use Rattle.std.proofs.Common.{◌≡◌, ◌⊎◌, inl, inr, ⊎_elim, ℕ, zero, suc, ◌&&◌, Bool, true, false, List, [], ◌∷◌, Any, Some, slice_get, refl, sym, subst, arith}
use Rattle.std.specs.Bool.{Decides}
use Rattle.std.specs.List.{list_all, list_any}
use Rattle.std.proofs.lemmas.Bool.Decides.{Decides-and, Decides-or, Decides-like, not_from_Decides}

pub neither_decide : {A B : Type 0} (a b : Bool) → Decides a (A → ⊥) → Decides b (B → ⊥) → Decides (a && b) (A ⊎ B → ⊥)
neither_decide a b d e = Decides-like (a && b) (λ p. ⊎_elim p.0 p.1) (λ n. (λ x. n (inl x), λ y. n (inr y))) (Decides-and a b d e)

-- What is decided holds where nothing refutes it.
pub twice_decides : {A : Type 0} (b : Bool) → Decides b A → Decides b ((A → ⊥) → ⊥)
twice_decides true d = (λ t n. n (d.0 refl), λ n. refl)
twice_decides false d = (λ t. cc, λ n. absurd (n (not_from_Decides false d refl)))

module _ {X : Type 0} where
  -- ---- some element, or none

  some_of : (P : X → Type 0) (x : X) (xs : List X) → P x ⊎ Any P xs → Any P (x ∷ xs)
  some_of P x xs (inl p) = (0, x, omega arith, refl, p)
  some_of P x xs (inr (k, y, lt, e, p)) = (suc k, y, omega arith, e, p)

  which : (P : X → Type 0) (x : X) (xs : List X) → Any P (x ∷ xs) → P x ⊎ Any P xs
  which P x xs (zero, y, lt, e, p) = inl (subst P (sym e) p)
  which P x xs (suc k, y, lt, e, p) = inr (k, y, omega arith, e, p)

  none_of : (P : X → Type 0) → Any P [] → ⊥
  none_of P (k, y, lt, e, p) = omega (arith, lt)

  pub any_decides : (test : X → Bool) (P : X → Type 0) → ((x : X) → Decides (test x) (P x)) → (xs : List X) → Decides (list_any test xs) (Any P xs)
  any_decides test P d [] = (λ t. cc, λ a. absurd (none_of P a))
  any_decides test P d (x ∷ xs) =
      Decides-like (list_any test (x ∷ xs)) (some_of P x xs) (which P x xs) (Decides-or (test x) (list_any test xs) (d x) (any_decides test P d xs))

  pub none_decides : (test : X → Bool) (P : X → Type 0) → ((x : X) → Decides (test x) (P x → ⊥)) → (xs : List X) → Decides (list_all test xs) (Any P xs → ⊥)
  none_decides test P d [] = (λ t. none_of P, λ n. refl)
  none_decides test P d (x ∷ xs) =
      Decides-like (list_all test (x ∷ xs)) (λ n a. n (which P x xs a)) (λ n p. n (some_of P x xs p))
      (neither_decide (test x) (list_all test xs) (d x) (none_decides test P d xs))

  -- ---- each element, by its place

  abbrev pub AtEach : (X → Type 0) → List X → Type 0
  AtEach P xs = (at : ℕ) (x : X) → slice_get xs at ≡ Some x → P x

  split : (P : X → Type 0) (x : X) (xs : List X) → P x × AtEach P xs → AtEach P (x ∷ xs)
  split P x xs p zero y is = let e : x ≡ y = cc in subst P e p.0
  split P x xs p (suc at) y is = p.1 at y is

  pub each_decides : (test : X → Bool) (P : X → Type 0) → ((x : X) → Decides (test x) (P x)) → (xs : List X) → Decides (list_all test xs) (AtEach P xs)
  each_decides test P d [] = (λ t at x is. cc, λ h. refl)
  each_decides test P d (x ∷ xs) =
      Decides-like (list_all test (x ∷ xs)) (split P x xs) (λ h. (h 0 x refl, λ at y is. h (suc at) y is))
      (Decides-and (test x) (list_all test xs) (d x) (each_decides test P d xs))
