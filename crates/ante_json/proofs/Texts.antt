-- A list of texts, read one after another.
use Rattle.std.proofs.Common.{◌≡◌, ℕ, List, [], ◌∷◌, ◌++◌, Option, Some, None, refl, sym, ap, append_assoc}
use Rattle.std.specs.Prelude.{option_map}
use Rattle.serde_json.specs.Data.{Data, Items, item}
use Rattle.serde_json.specs.Find.{as_str}
use Rattle.ante_json.specs.Kinds.{texts_from}

-- texts that were read, before those that are left
abbrev pub with_front : List (List ℕ) → Option (List (List ℕ)) → Option (List (List ℕ))
with_front found None = None
with_front found (Some later) = Some (found ++ later)

pub one_more : (found : List (List ℕ)) (text : List ℕ) (d : Data) (ds : Items) → as_str d ≡ Some text
    → with_front found (texts_from (item d ds)) ≡ with_front (found ++ text ∷ []) (texts_from ds)
one_more found text d ds h = rw h (go (texts_from ds))
  where
    go : (later : Option (List (List ℕ))) → with_front found (option_map (λ texts. text ∷ texts) later) ≡ with_front (found ++ text ∷ []) later
    go None = refl
    go (Some later) = ap (λ (x : List (List ℕ)). Some x) (sym (append_assoc found (text ∷ []) later))

pub none_of : (found : List (List ℕ)) (d : Data) (ds : Items) → as_str d ≡ None → with_front found (texts_from (item d ds)) ≡ None
none_of found d ds h = rw h refl
