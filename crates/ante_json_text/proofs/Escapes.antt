-- Bytes that stand in a string as they are.
use Rattle.std.proofs.Common.{◌≡◌, ℕ, ◌+◌, ◌≤◌, ◌<◌, List, [], ◌∷◌, ◌++◌, length, take, get_or, refl, sym, ap, ap₂, ◌∙◌}
use Rattle.std.proofs.lemmas.Bool.{le-ltb}
use Rattle.std.proofs.lemmas.List.{take_more}
use Rattle.std.specs.List.{flat_map}
use Rattle.std.proofs.lemmas.Grind.{flat_map-append}
use Rattle.std.proofs.lemmas.List.Concat.{flat_map-cons}
use Rattle.json.specs.Print.{escape_letter, escape_byte, escape}

pub plain_byte : (x : ℕ) → escape_letter x ≡ 0 → 32 ≤ x → escape_byte x ≡ x ∷ []
unfolding escape_byte
plain_byte x letter le = rw (letter, le-ltb x 32 le) refl

pub plain_more : (xs : List ℕ) (i : ℕ) → i < length xs → escape_byte (get_or xs i 0) ≡ get_or xs i 0 ∷ [] → escape (take i xs) ≡ take i xs → escape (take (i + 1) xs) ≡ take (i + 1) xs
plain_more xs i lt byte before =
    let x = get_or xs i 0 in
    let more = take_more xs i 0 lt in
    let one : flat_map escape_byte (x ∷ []) ≡ x ∷ [] = flat_map-cons escape_byte x [] ∙ ap (λ (t : List ℕ). t ++ flat_map escape_byte []) byte in
    ap escape more ∙ flat_map-append escape_byte (take i xs) (x ∷ []) ∙ ap₂ (λ (a b : List ℕ). a ++ b) before one ∙ sym more
