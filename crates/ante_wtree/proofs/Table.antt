-- The names of the table differ.
use Rattle.std.proofs.Common.{◌≡◌, ℕ, zero, suc, ◌<◌, ◌^◌, Bool, true, false, not, ◌&&◌, ◌||◌, nat_eq, List, [], ◌∷◌, Option, Some, map, slice_get, get_or, length, refl, sym, ap, ◌∙◌, subst, arith, eq-eqb}
use Rattle.std.specs.Option.{option_map}
use Rattle.std.proofs.lemmas.Option.{slice_get-map, slice_get-get_or, slice_get_within}
use denote.Bor.{Bor}
use Rattle.ante_wtree.specs.declared.instructions.ValueKind.{ValueKind}
use Rattle.ante_wtree.specs.Intrinsics.{names, types, name_at, type_at}
use Rattle.ante_wtree.proofs.SameKinds.{both}

-- a row as the code has it
abbrev Row : Type 0
Row = Bor (List ℕ) × Bor (List ValueKind) × Option ValueKind

-- the name of the row at a place
pub named : (rows : List Row) (at : ℕ) (d : Row) → at < length rows → slice_get (map (λ r. r.0.now) rows) at ≡ Some (get_or rows at d).0.now
named rows at d lt = slice_get-map (λ r. r.0.now) rows at ∙ ap (option_map (λ (r : Row). r.0.now)) (slice_get-get_or rows at d lt)

-- ---- the test that names differ, and what it says

abbrev equals : List ℕ → List ℕ → Bool
equals [] [] = true
equals [] (b ∷ bs) = false
equals (a ∷ more) [] = false
equals (a ∷ more) (b ∷ bs) = nat_eq a b && equals more bs

abbrev among : List (List ℕ) → List ℕ → Bool
among [] x = false
among (y ∷ ys) x = equals x y || among ys x

abbrev differ : List (List ℕ) → Bool
differ [] = true
differ (x ∷ xs) = not (among xs x) && differ xs

equals_self : (x : List ℕ) → equals x x ≡ true
equals_self [] = refl
equals_self (a ∷ more) = rw (eq-eqb a a refl) (equals_self more)

or_right : (a : Bool) → (a || true) ≡ true
or_right true = refl
or_right false = refl

is_among : (ys : List (List ℕ)) (n : ℕ) (x : List ℕ) → slice_get ys n ≡ Some x → among ys x ≡ true
is_among [] n x h = cc
is_among (y ∷ ys) zero x h = let e : y ≡ x = cc in rw (e, equals_self x) refl
is_among (y ∷ ys) (suc n) x h = rw (is_among ys n x h) (or_right (equals x y))

pub one_place : (xs : List (List ℕ)) → differ xs ≡ true → (m n : ℕ) (x : List ℕ) → slice_get xs m ≡ Some x → slice_get xs n ≡ Some x → m ≡ n
one_place [] d m n x h k = cc
one_place (y ∷ ys) d zero zero x h k = refl
one_place (y ∷ ys) d zero (suc n) x h k = let e : y ≡ x = cc in let a : among ys y ≡ true = is_among ys n y (k ∙ ap Some (sym e)) in let b = (both (not (among ys y)) (differ ys) d).0 in let c : not true ≡ true = subst (λ v. not v ≡ true) a b in cc
one_place (y ∷ ys) d (suc m) zero x h k = let e : y ≡ x = cc in let a : among ys y ≡ true = is_among ys m y (h ∙ ap Some (sym e)) in let b = (both (not (among ys y)) (differ ys) d).0 in let c : not true ≡ true = subst (λ v. not v ≡ true) a b in cc
one_place (y ∷ ys) d (suc m) (suc n) x h k = ap suc (one_place ys (both (not (among ys y)) (differ ys) d).1 m n x h k)

names_differ : differ names ≡ true
names_differ = refl

pub one_number : (m n : ℕ) (name : List ℕ) → name_at m ≡ Some name → name_at n ≡ Some name → m ≡ n
one_number m n name h k = one_place names names_differ m n name h k

-- numbers fit
pub number_below : (n : ℕ) (name : List ℕ) → name_at n ≡ Some name → n < 2 ^ 32
number_below n name h = omega (arith, slice_get_within names n name h)

pub type_of_row : (rows : List Row) (at : ℕ) → map (λ r. (r.1.now, r.2)) rows ≡ types → option_map (λ r. (r.1.now, r.2)) (slice_get rows at) ≡ type_at at
type_of_row rows at e = sym (slice_get-map (λ r. (r.1.now, r.2)) rows at) ∙ ap (λ xs. slice_get xs at) e
