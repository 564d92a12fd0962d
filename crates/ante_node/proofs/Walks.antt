-- Walks over a list: what is still to come answers as the whole does.
use Rattle.std.proofs.Common.{◌≡◌, ℕ, ◌+◌, ◌<◌, ◌≤◌, Bool, true, false, cond, List, [], ◌∷◌, ◌++◌, length, drop, get_or, Option, Some, None, refl, sym, ap, subst, ◌∙◌, append_assoc}
use Rattle.std.specs.Prelude.{◌||◌}
use Rattle.std.proofs.lemmas.List.{drop_all, drop_more, append-nil}
use Rattle.ante_types.specs.declared.chain.Action.{Action}
use Rattle.ante_types.specs.World.{World}
use Rattle.ante_types.specs.declared.trace.ActionTrace.{ActionTrace}
use Rattle.ante_pack.specs.Names.{name_text}
use Rattle.ante_types.specs.declared.failure.Failure.TheVariants.{WriteRefused}
use Rattle.ante_node.specs.ReadOnly.{first_some, first_where, is_native, is_there, run_of, runs_from, unknown_account, write_refused}

-- the item at a place, before those after it
pub next_is : {A : Type 0} (xs : List A) (i : ℕ) (x : A) → i < length xs → x ≡ get_or xs i x → drop i xs ≡ x ∷ drop (i + 1) xs
next_is {A} xs i x lt is = drop_more xs i x lt ∙ ap (λ (y : A). y ∷ drop (i + 1) xs) (sym is)

-- ---- the first item that has a value

where-step : {A B : Type 0} (f : A → Option B) (xs : List A) (i : ℕ) (x : A) (total : Option B) → i < length xs → x ≡ get_or xs i x → first_where f (drop i xs) ≡ total → first_some (f x) (first_where f (drop (i + 1) xs)) ≡ total
unfolding first_where
where-step {A} {B} f xs i x total lt is so_far = subst (λ (ys : List A). first_where f ys ≡ total) (next_is xs i x lt is) so_far

pub where-goes : {A B : Type 0} (f : A → Option B) (xs : List A) (i : ℕ) (x : A) (total : Option B) → i < length xs → x ≡ get_or xs i x → f x ≡ None → first_where f (drop i xs) ≡ total → first_where f (drop (i + 1) xs) ≡ total
where-goes {A} {B} f xs i x total lt is none so_far =
    subst (λ (o : Option B). first_some o (first_where f (drop (i + 1) xs)) ≡ total) none (where-step f xs i x total lt is so_far)

pub where-stops : {A B : Type 0} (f : A → Option B) (xs : List A) (i : ℕ) (x : A) (b : B) (total : Option B) → i < length xs → x ≡ get_or xs i x → f x ≡ Some b → first_where f (drop i xs) ≡ total → Some b ≡ total
where-stops {A} {B} f xs i x b total lt is some so_far =
    subst (λ (o : Option B). first_some o (first_where f (drop (i + 1) xs)) ≡ total) some (where-step f xs i x total lt is so_far)

pub where-ends : {A B : Type 0} (f : A → Option B) (xs : List A) (i : ℕ) (total : Option B) → length xs ≤ i → first_where f (drop i xs) ≡ total → None ≡ total
unfolding first_where
where-ends {A} {B} f xs i total le so_far = subst (λ (ys : List A). first_where f ys ≡ total) (drop_all i xs le) so_far

-- ---- the runs up to the first native action

runs-step : (done : List ActionTrace) (xs : List Action) (i : ℕ) (x : Action) (total : List ActionTrace) → i < length xs → x ≡ get_or xs i x → done ++ runs_from (i + 1) (drop i xs) ≡ total
    → (done ++ run_of (i + 1) x ∷ []) ++ cond (is_native x) [] (runs_from (i + 1 + 1) (drop (i + 1) xs)) ≡ total
unfolding runs_from
runs-step done xs i x total lt is so_far =
    append_assoc done (run_of (i + 1) x ∷ []) (cond (is_native x) [] (runs_from (i + 1 + 1) (drop (i + 1) xs)))
    ∙ subst (λ (ys : List Action). done ++ runs_from (i + 1) ys ≡ total) (next_is xs i x lt is) so_far

pub runs-go : (done : List ActionTrace) (xs : List Action) (i : ℕ) (x : Action) (total : List ActionTrace) → i < length xs → x ≡ get_or xs i x → is_native x ≡ false → done ++ runs_from (i + 1) (drop i xs) ≡ total
    → (done ++ run_of (i + 1) x ∷ []) ++ runs_from (i + 1 + 1) (drop (i + 1) xs) ≡ total
runs-go done xs i x total lt is other so_far =
    subst (λ (b : Bool). (done ++ run_of (i + 1) x ∷ []) ++ cond b [] (runs_from (i + 1 + 1) (drop (i + 1) xs)) ≡ total) other (runs-step done xs i x total lt is so_far)

pub runs-stop : (done : List ActionTrace) (xs : List Action) (i : ℕ) (x : Action) (total : List ActionTrace) → i < length xs → x ≡ get_or xs i x → is_native x ≡ true → done ++ runs_from (i + 1) (drop i xs) ≡ total
    → done ++ run_of (i + 1) x ∷ [] ≡ total
runs-stop done xs i x total lt is native so_far =
    sym (append-nil (done ++ run_of (i + 1) x ∷ []))
    ∙ subst (λ (b : Bool). (done ++ run_of (i + 1) x ∷ []) ++ cond b [] (runs_from (i + 1 + 1) (drop (i + 1) xs)) ≡ total) native (runs-step done xs i x total lt is so_far)

pub runs-end : (done : List ActionTrace) (xs : List Action) (i : ℕ) (total : List ActionTrace) → length xs ≤ i → done ++ runs_from (i + 1) (drop i xs) ≡ total → done ≡ total
unfolding runs_from
runs-end done xs i total le so_far =
    sym (append-nil done) ∙ subst (λ (ys : List Action). done ++ runs_from (i + 1) ys ≡ total) (drop_all i xs le) so_far

-- ---- what one action is to the walks

pub or_no_other : (b : Bool) → b ≡ (b || false)
or_no_other true = refl
or_no_other false = refl

pub unknown_yes : (world : World) (a : Action) (there : Bool) → there ≡ is_there world a.account → there ≡ false → unknown_account world a ≡ Some a.account
unknown_yes world a there e absent = let test : is_there world a.account ≡ false = sym e ∙ absent in rw test refl

pub unknown_no : (world : World) (a : Action) (there : Bool) → there ≡ is_there world a.account → there ≡ true → unknown_account world a ≡ None
unknown_no world a there e found = let test : is_there world a.account ≡ true = sym e ∙ found in rw test refl

pub refused_yes : (a : Action) (native : Bool) → native ≡ is_native a → native ≡ true → write_refused a ≡ Some (WriteRefused (name_text a.name.0))
refused_yes a native e is = let test : is_native a ≡ true = sym e ∙ is in rw test refl

pub refused_no : (a : Action) (native : Bool) → native ≡ is_native a → native ≡ false → write_refused a ≡ None
refused_no a native e other = let test : is_native a ≡ false = sym e ∙ other in rw test refl
