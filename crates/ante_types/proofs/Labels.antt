-- A name can be a label.
use Rattle.std.proofs.Common.{◌≡◌, ℕ, ◌/◌, ◌%◌, ◌<◌, Bool, true, List, [], ◌∷◌, length, refl, ap, ◌∙◌, arith}
use Rattle.std.specs.List.{list_all, range_with_len}
use Rattle.std.proofs.lemmas.List.{take-map}
use Rattle.std.proofs.lemmas.List.Folds.{list_all-map}
use Rattle.std.proofs.lemmas.List.Sums.{AllPass-from_list_all}
use Rattle.std.proofs.lemmas.Nat.{mod_below}
use Rattle.ante_pack.specs.Names.{alphabet, worth, choices, character_at, name_text}
use Rattle.ante_pack.proofs.NameDigits.{choices-most, choices-positive}
use Rattle.ante_types.specs.Labels.{is_label_char, is_label}

char_is_label : (n place : ℕ) → is_label_char (character_at n place) ≡ true
char_is_label n place =
    let digit = n / worth place % choices place in
    let inside : digit < length alphabet = omega (arith, mod_below (n / worth place) (choices place) (choices-positive place), choices-most place) in
    AllPass-from_list_all is_label_char alphabet refl digit 0 inside

always : {A : Type 0} (p : A → Bool) → ((x : A) → p x ≡ true) → (xs : List A) → list_all p xs ≡ true
always p h [] = refl
always p h (x ∷ xs) = rw (h x) (always p h xs)

pub name_is_label : (n : ℕ) → is_label (name_text n) ≡ true
unfolding name_text
name_is_label n =
    let places = range_with_len 0 13 in
    ap is_label (take-map (character_at n) _ places) ∙ list_all-map is_label_char (character_at n) _ ∙ always (λ (place : ℕ). is_label_char (character_at n place)) (char_is_label n) _
