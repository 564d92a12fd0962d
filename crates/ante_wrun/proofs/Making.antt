-- What making an instance takes from lists and from the host's table.
use Rattle.std.proofs.Common.{◌≡◌, ◌↔◌, ℕ, zero, suc, ◌+◌, ◌<◌, Bool, true, false, nat_lt, cond, List, [], ◌∷◌, length, get_or, Option, None, Some, slice_get, refl, sym, ap, ◌∙◌, arith, ltb-true, lt-ltb, add-one}
use Rattle.std.specs.Prelude.{slice_set}
use Rattle.std.specs.List.{position_or_len}
use Rattle.std.specs.Str.{bytes_eq}
use Rattle.std.proofs.lemmas.Slice.Eq.{bytes_eq-Decides}
use Rattle.std.proofs.lemmas.List.Sums.{fails_before_first, passes_at_first}
use Rattle.std.proofs.lemmas.Option.{slice_get-get_or, slice_get_within, get_or_from_slice_get}
use Rattle.ante_wtree.specs.Intrinsics.{names, name_at}
use Rattle.ante_wmeaning.specs.Instantiation.{host_place, placed}

-- ---- a name's number

place_cases : (xs : List (List ℕ)) (name : List ℕ) (b : Bool) → nat_lt (position_or_len (bytes_eq name) xs) (length xs) ≡ b → (r : Option ℕ) →
    ((n : ℕ) → (r ≡ Some n) ↔ (slice_get xs n ≡ Some name)) → r ≡ cond b (Some (position_or_len (bytes_eq name) xs)) None
place_cases xs name true e r h =
    let n = position_or_len (bytes_eq name) xs in
    let lt : n < length xs = ltb-true n (length xs) e in
    let is : name ≡ get_or xs n [] = (bytes_eq-Decides name (get_or xs n [])).0 (passes_at_first (bytes_eq name) xs [] lt) in
    (h n).1 (slice_get-get_or xs n [] lt ∙ ap Some (sym is))
place_cases xs name false e None h = refl
place_cases xs name false e (Some k) h =
    let n = position_or_len (bytes_eq name) xs in
    let at : slice_get xs k ≡ Some name = (h k).0 refl in
    let lt : k < length xs = slice_get_within xs k name at in
    let before : k < n = grind (arith, e, lt, lt-ltb) in
    let fails : bytes_eq name (get_or xs k []) ≡ false = fails_before_first (bytes_eq name) xs k [] before in
    let passes : bytes_eq name (get_or xs k []) ≡ true = (bytes_eq-Decides name (get_or xs k [])).1 (sym (get_or_from_slice_get xs k name [] at)) in
    cc

pub place_is : (name : List ℕ) (r : Option ℕ) → ((n : ℕ) → (r ≡ Some n) ↔ (name_at n ≡ Some name)) → r ≡ host_place name
unfolding host_place
place_is name r h = place_cases names name (nat_lt (position_or_len (bytes_eq name) names) (length names)) refl r h

-- ---- writing items one after the other

placed_suc : {A : Type 0} (xs : List A) (at : ℕ) (y : A) (ys : List A) → at < length xs → placed xs at (y ∷ ys) ≡ placed (slice_set xs at y) (suc at) ys
placed_suc [] at y ys lt = absurd (omega arith)
placed_suc (x ∷ xs) zero y ys lt = refl
placed_suc (x ∷ xs) (suc at) y ys lt = ap (λ zs. x ∷ zs) (placed_suc xs at y ys (omega arith))

pub placed_next : {A : Type 0} (xs : List A) (at : ℕ) (y : A) (ys : List A) → at < length xs → placed xs at (y ∷ ys) ≡ placed (slice_set xs at y) (at + 1) ys
placed_next xs at y ys lt = placed_suc xs at y ys lt ∙ ap (λ n. placed (slice_set xs at y) n ys) (sym (add-one at))
