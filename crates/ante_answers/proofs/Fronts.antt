-- A front that grows entry by entry.
use Rattle.std.proofs.Common.{◌≡◌, ℕ, zero, suc, ◌+◌, ◌-◌, ◌<◌, ◌≤◌, List, [], ◌∷◌, ◌++◌, length, map, take, drop, Option, Some, None, is_some, refl, sym, ap, subst, ◌∙◌, arith}
use Rattle.std.specs.List.{slice_get}
use Rattle.std.proofs.lemmas.List.{length-append, map-append, length-take-le, take-append-drop}
use Rattle.std.proofs.lemmas.Option.{slice_get_within}
use Rattle.ante_undo.specs.Entries.{first_entry}
use Rattle.ante_answers.specs.Walks.{Follows, IsFront}
use Rattle.ante_answers.proofs.Rising.{none_is_some}

module _ {K V : Type 0} where
  -- the first entry after a front stands at the place of the front's length
  pub there : (all : List (K × V)) (n : ℕ) (e : K × V) → Some e ≡ first_entry (drop n all) → slice_get all n ≡ Some e
  there [] zero e is = none_is_some e (sym is)
  there [] (suc n) e is = none_is_some e (sym is)
  there (x ∷ xs) zero e is = sym is
  there (x ∷ xs) (suc n) e is = there xs n e is

  pub one_more : (all : List (K × V)) (n : ℕ) (e : K × V) → slice_get all n ≡ Some e → take (suc n) all ≡ take n all ++ e ∷ []
  one_more [] n e is = none_is_some e is
  one_more (x ∷ xs) zero e is = let same : x ≡ e = cc in ap (λ x. x ∷ []) same
  one_more (x ∷ xs) (suc n) e is = ap (λ rest. x ∷ rest) (one_more xs n e is)

  pub at_end : (all : List (K × V)) (n : ℕ) → None ≡ first_entry (drop n all) → length all ≤ n
  at_end [] n is = omega arith
  at_end (x ∷ xs) zero is = none_is_some x is
  at_end (x ∷ xs) (suc n) is = let rest = at_end xs n is in omega (arith, rest)

  module _ {B : Type 0} (view : K × V → B) where
    pub front_begins : (all : List (K × V)) (next : Option (K × V)) → next ≡ first_entry all → IsFront view all [] next
    front_begins all next is = record { within = omega arith; items = refl; next = is }

    pub longer : (given : List B) (item : B) → length (given ++ item ∷ []) ≡ suc (length given)
    longer given item = length-append given (item ∷ []) ∙ omega arith

    pub front_grows : (all : List (K × V)) (given : List B) (key : K) (value : V) (item : B) (next : Option (K × V)) → IsFront view all given (Some (key, value)) → item ≡ view (key, value) → Follows all key next → IsFront view all (given ++ item ∷ []) next
    front_grows all given key value item next front is follows =
        let place = there all (length given) (key, value) front.next in
        let more = longer given item in
        record {
          within = let inside = slice_get_within all (length given) (key, value) place in omega (arith, inside, more);
          items = ap (λ given. given ++ item ∷ []) front.items ∙ ap (λ item. map view (take (length given) all) ++ item ∷ []) is
              ∙ sym (ap (λ n. map view (take n all)) more ∙ ap (map view) (one_more all (length given) (key, value) place) ∙ map-append view (take (length given) all) ((key, value) ∷ []));
          next = follows (length given) value place ∙ sym (ap (λ n. first_entry (drop n all)) more);
        }

    pub whole : (all : List (K × V)) (given : List B) → IsFront view all given None → length given ≡ length all
    whole all given front = let end = at_end all (length given) front.next in omega (arith, end, front.within)

    pub take_all : (n : ℕ) (xs : List (K × V)) → length xs ≤ n → take n xs ≡ xs
    take_all zero [] le = refl
    take_all (suc n) [] le = refl
    take_all zero (x ∷ xs) le = absurd (omega (arith, le))
    take_all (suc n) (x ∷ xs) le = ap (λ xs. x ∷ xs) (take_all n xs (omega (arith, le)))

    pub front_is_all : (all : List (K × V)) (given : List B) → IsFront view all given None → given ≡ map view all
    front_is_all all given front = front.items ∙ ap (map view) (take_all (length given) all (at_end all (length given) front.next))

    -- each step gives one of the entries that are left
    pub fewer_left : (all : List (K × V)) (given : List B) (e : K × V) (item : B) → IsFront view all given (Some e) → length all - length (given ++ item ∷ []) < length all - length given
    fewer_left all given e item front =
        let inside = slice_get_within all (length given) e (there all (length given) e front.next) in
        let more = longer given item in
        omega (arith, inside, more)
