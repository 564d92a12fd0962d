-- The least place with a property is found by looking at one after the other.
use Rattle.std.proofs.Common.{◌≡◌, ⊎_elim, ℕ, zero, suc, ◌+◌, ◌<◌, List, [], ◌∷◌, None, Some, slice_get, sym, subst, ◌∙◌, arith}
use Rattle.std.proofs.lemmas.Bool.{cases_lt}

pub one_further : (P : ℕ → Type 0) (at : ℕ) → ((k : ℕ) → k < at → P k → ⊥) → (P at → ⊥) → (k : ℕ) → k < at + 1 → P k → ⊥
one_further P at h n k lt p = ⊎_elim (λ less. h k less p) (λ more. let e : k ≡ at = omega arith in n (subst P e p)) (cases_lt k at)

pub get_past : {A : Type 0} (xs : List A) (a k : ℕ) (x : A) → slice_get xs a ≡ None → slice_get xs k ≡ Some x → k < a
get_past [] a k x n s = cc
get_past (y ∷ ys) zero k x n s = cc
get_past (y ∷ ys) (suc a) zero x n s = omega arith
get_past (y ∷ ys) (suc a) (suc k) x n s = omega (arith, get_past ys a k x n s)

some_is : {A : Type 0} {x y : A} → Some x ≡ Some y → x ≡ y
some_is h = cc

-- the one that is there has the property that another at the place has
pub that_one : {A : Type 0} (P : A → Type 0) (xs : List A) (at : ℕ) (x y : A) → slice_get xs at ≡ Some x → slice_get xs at ≡ Some y → P x → P y
that_one P xs at x y e f p = subst P (some_is (sym e ∙ f)) p
