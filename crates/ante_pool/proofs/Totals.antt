-- Sums over all seats, and how they change with one seat.
use Rattle.std.proofs.Common.{◌≡◌, ℕ, zero, suc, ◌+◌, ◌≤◌, List, [], ◌∷◌, ◌++◌, set, ap, refl, arith, sym}
use mathlib.Core.Option.{some, some-injective, some-ne-none}
use lib.ListN.{get_elem?}
use Rattle.ante_pool.specs.declared.words.Known.{Known}
use Rattle.ante_pool.specs.Seats.{times}
use Rattle.ante_pool.specs.Standing.{total}

pub total_set : (f : Known → ℕ) (views : List Known) (id : ℕ) (v w : Known) → get_elem? views id ≡ some v → total f (set views id w) + f v ≡ total f views + f w
total_set f [] id v w at = absurd (some-ne-none v (sym at))
total_set f (u ∷ us) zero v w at = let e : f u ≡ f v = ap f (some-injective u v at) in omega arith
total_set f (u ∷ us) (suc id) v w at = let t = total_set f us id v w at in omega arith

pub total_push : (f : Known → ℕ) (views : List Known) (w : Known) → total f (views ++ w ∷ []) ≡ total f views + f w
total_push f [] w = omega arith
total_push f (u ∷ us) w = let t = total_push f us w in omega arith

pub total_at : (f : Known → ℕ) (views : List Known) (id : ℕ) (v : Known) → get_elem? views id ≡ some v → f v ≤ total f views
total_at f [] id v at = absurd (some-ne-none v (sym at))
total_at f (u ∷ us) zero v at = let e : f u ≡ f v = ap f (some-injective u v at) in omega arith
total_at f (u ∷ us) (suc id) v at = let t = total_at f us id v at in omega arith

pub total_two : (f : Known → ℕ) (views : List Known) (id other : ℕ) (v w : Known) → get_elem? views id ≡ some v → get_elem? views other ≡ some w → ¬ (other ≡ id) → f v + f w ≤ total f views
total_two f [] id other v w a b apart = absurd (some-ne-none v (sym a))
total_two f (u ∷ us) zero zero v w a b apart = absurd (apart refl)
total_two f (u ∷ us) zero (suc other) v w a b apart = let e : f u ≡ f v = ap f (some-injective u v a) in let t = total_at f us other w b in omega arith
total_two f (u ∷ us) (suc id) zero v w a b apart = let e : f u ≡ f w = ap f (some-injective u w b) in let t = total_at f us id v a in omega arith
total_two f (u ∷ us) (suc id) (suc other) v w a b apart = let t = total_two f us id other v w a b (λ e. apart (ap suc e)) in omega arith

pub total_le : (f g : Known → ℕ) → ((v : Known) → f v ≤ g v) → (views : List Known) → total f views ≤ total g views
total_le f g h [] = omega arith
total_le f g h (u ∷ us) = let a = h u in let t = total_le f g h us in omega arith

total_none : (f g : Known → ℕ) (views : List Known) → total f views ≡ 0 → ((j : ℕ) (u : Known) → get_elem? views j ≡ some u → f u ≡ 0 → g u ≡ 0) → total g views ≡ 0
total_none f g [] e h = refl
total_none f g (u ∷ us) e h = let a = h zero u refl (omega arith) in let t = total_none f g us (omega arith) (λ j. h (suc j)) in omega arith

-- where one seat has all of f, and a seat with nothing of f has nothing of g, that seat has all of g
pub total_alone : (f g : Known → ℕ) (views : List Known) (id : ℕ) (v : Known) → get_elem? views id ≡ some v → f v ≡ total f views → ((j : ℕ) (u : Known) → get_elem? views j ≡ some u → f u ≡ 0 → g u ≡ 0) → total g views ≡ g v
total_alone f g [] id v at e h = absurd (some-ne-none v (sym at))
total_alone f g (u ∷ us) zero v at e h =
    let a : f u ≡ f v = ap f (some-injective u v at) in let b : g u ≡ g v = ap g (some-injective u v at) in let t = total_none f g us (omega arith) (λ j. h (suc j)) in omega arith
total_alone f g (u ∷ us) (suc id) v at e h =
    let le = total_at f us id v at in let a = h zero u refl (omega arith) in let t = total_alone f g us id v at (omega arith) (λ j. h (suc j)) in omega arith

pub times_append : (x : ℕ) (xs ys : List ℕ) → times x (xs ++ ys) ≡ times x xs + times x ys
times_append x [] ys = omega arith
times_append x (z ∷ zs) ys = let t = times_append x zs ys in omega arith

pub set_at : (views : List Known) (id : ℕ) (v w : Known) → get_elem? views id ≡ some v → get_elem? (set views id w) id ≡ some w
set_at [] id v w at = absurd (some-ne-none v (sym at))
set_at (u ∷ us) zero v w at = refl
set_at (u ∷ us) (suc id) v w at = set_at us id v w at
