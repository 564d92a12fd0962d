-- One place of a list.
use Rattle.std.proofs.Common.{◌≡◌, ℕ, zero, suc, ◌<◌, List, [], ◌∷◌, length, Some, get_or, slice_get, slice_set, ap, ◌∙◌, refl, arith}
use Rattle.std.proofs.lemmas.List.{length-set}
use Rattle.std.proofs.lemmas.Option.{none-some, slice_get_read}
use Rattle.ante_links.specs.Links.{Changes}

pub changes : {A : Type 0} (n : ℕ) (old new : List A) (x y : A) (How : A → A → Type 0) →
    n < length old → x ≡ get_or old n x → new ≡ slice_set old n y → How x y → Changes n old new How
changes n old new x y How h e i how = record { before = x; after = y; there = slice_get_read old (length old) n x refl h e; is = i; how = how }

pub length-change : {A : Type 0} (n : ℕ) (old new : List A) (How : A → A → Type 0) → Changes n old new How → length new ≡ length old
length-change n old new How c = ap (λ (l : List _). length l) c.is ∙ length-set old n c.after

get-set : {A : Type 0} (xs : List A) (n : ℕ) (x y : A) → slice_get xs n ≡ Some x → slice_get (slice_set xs n y) n ≡ Some y
get-set [] n x y e = absurd (none-some x e)
get-set (a ∷ xs) zero x y e = refl
get-set (a ∷ xs) (suc n) x y e = get-set xs n x y e

pub set_there : {A : Type 0} (n : ℕ) (old new : List A) (How : A → A → Type 0) (c : Changes n old new How) → slice_get new n ≡ Some c.after
set_there n old new How c = ap (λ (l : List _). slice_get l n) c.is ∙ get-set old n c.before c.after c.there

pub place_in : {A : Type 0} (xs : List A) (n : ℕ) → n < length xs → (x : A) × (slice_get xs n ≡ Some x)
place_in [] n h = absurd (omega arith)
place_in (x ∷ xs) zero h = (x, refl)
place_in (x ∷ xs) (suc n) h = place_in xs n (omega arith)
