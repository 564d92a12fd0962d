-- A list and an object, written as the first item and then the others each after a comma.
use Rattle.std.proofs.Common.{◌≡◌, ℕ, true, List, [], ◌∷◌, ◌++◌, map, refl, sym, ap, ◌∙◌, append_assoc}
use Rattle.std.specs.List.{flat_map}
use Rattle.std.proofs.lemmas.List.Concat.{flat_map-cons}
use Rattle.json.specs.Print.{quoted}
use Rattle.serde_json.specs.Data.{Data}
use Rattle.serde_json.specs.Written.{compact_text, items_text, members_text}
use Rattle.ante_pack.specs.Adds.{Adds}
use Rattle.ante_json_text.specs.Values.{items_of, members_of, list_value, object_value, member_text}

-- the texts of the later ones, one after another, and then the end
grouped : {A : Type 0} (g : A → List ℕ) (y : A) (ys : List A) (end : List ℕ) → flat_map g (y ∷ ys) ++ end ≡ g y ++ (flat_map g ys ++ end)
grouped g y ys end = ap (λ (t : List ℕ). t ++ end) (flat_map-cons g y ys) ∙ append_assoc (g y) (flat_map g ys) end

items_later : {A : Type 0} (f : A → Data) (xs : List A) → items_text true (items_of (map f xs)) ≡ flat_map (λ y. 44 ∷ compact_text (f y)) xs ++ 93 ∷ []
items_later f [] = refl
items_later {A} f (y ∷ ys) =
    ap (λ (t : List ℕ). 44 ∷ (compact_text (f y) ++ t)) (items_later f ys) ∙ sym (grouped (λ (z : A). 44 ∷ compact_text (f z)) y ys (93 ∷ []))

pub adds_list : {A : Type 0} (f : A → Data) (x : A) (xs : List A) (old new : List ℕ)
    → Adds old new (91 ∷ (compact_text (f x) ++ (flat_map (λ y. 44 ∷ compact_text (f y)) xs ++ 93 ∷ []))) → Adds old new (compact_text (list_value (map f (x ∷ xs))))
adds_list f x xs old new h = record { is = h.is ∙ ap (λ (t : List ℕ). old ++ (91 ∷ (compact_text (f x) ++ t))) (sym (items_later f xs)) }

-- a member and what follows it
member_then : (m : List ℕ × Data) (rest : List ℕ) → member_text m ++ rest ≡ quoted m.0 ++ 58 ∷ (compact_text m.1 ++ rest)
member_then m rest = append_assoc (quoted m.0) (58 ∷ compact_text m.1) rest

members_later : {A : Type 0} (f : A → List ℕ × Data) (xs : List A) → members_text true (members_of (map f xs)) ≡ flat_map (λ y. 44 ∷ member_text (f y)) xs ++ 125 ∷ []
members_later f [] = refl
members_later {A} f (y ∷ ys) =
    ap (λ (t : List ℕ). 44 ∷ (quoted (f y).0 ++ 58 ∷ (compact_text (f y).1 ++ t))) (members_later f ys)
    ∙ ap (λ (t : List ℕ). 44 ∷ t) (sym (member_then (f y) (flat_map (λ (z : A). 44 ∷ member_text (f z)) ys ++ 125 ∷ [])))
    ∙ sym (grouped (λ (z : A). 44 ∷ member_text (f z)) y ys (125 ∷ []))

pub adds_object : {A : Type 0} (f : A → List ℕ × Data) (x : A) (xs : List A) (old new : List ℕ)
    → Adds old new (123 ∷ (member_text (f x) ++ (flat_map (λ y. 44 ∷ member_text (f y)) xs ++ 125 ∷ []))) → Adds old new (compact_text (object_value (map f (x ∷ xs))))
adds_object {A} f x xs old new h = record {
  is =
      h.is ∙ ap (λ (t : List ℕ). old ++ (123 ∷ t)) (member_then (f x) (flat_map (λ (y : A). 44 ∷ member_text (f y)) xs ++ 125 ∷ []))
      ∙ ap (λ (t : List ℕ). old ++ (123 ∷ (quoted (f x).0 ++ 58 ∷ (compact_text (f x).1 ++ t)))) (sym (members_later f xs));
}
