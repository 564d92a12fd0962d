-- The words of a command line: that at most one place is at fault, and none where the words are accepted; and what the
-- first words tell, seen through what each word's bytes are.
use Rattle.std.proofs.Common.{◌≡◌, ℕ, ◌+◌, ◌-◌, ◌<◌, ◌≤◌, Bool, true, false, not, eqb, List, [], ◌∷◌, ◌++◌, map, length, take, drop, refl, sym, ap, ◌∙◌, subst, inl, inr, arith, append_assoc}
use Rattle.std.specs.Prelude.{codes}
use Rattle.std.specs.Cmp.Lexicographic.{pointwise}
use Rattle.std.proofs.Math.Seq.{take-add}
use Rattle.std.proofs.lemmas.Bool.{cases_lt}
use Rattle.std.proofs.lemmas.List.{take-append-drop}
use lib.Pointwise.{bytes_decides}
use Rattle.ante_node.specs.declared.command.Command.{Command}
use Rattle.ante_node.specs.declared.command.Command.TheVariants.{Ask}
use Rattle.ante_node.specs.Commands.{Begins, IsBadWord, Names}

-- ---- one place

shorter : (xs ys : List (List ℕ)) → Begins (xs ++ ys) → Begins xs
shorter xs ys b = (ys ++ b.0, b.1, subst (Names b.1) (append_assoc xs ys b.0) b.2)

begins_before : (words : List (List ℕ)) (k n : ℕ) → Begins (take (k + n) words) → Begins (take k words)
begins_before words k n b = shorter (take k words) (take n (drop k words)) (subst Begins (take-add k n words) b)

within : (words : List (List ℕ)) (at : ℕ) → IsBadWord words at → at ≤ length words
within words at (b, inl p) = omega (arith, p.0)
within words at (b, inr p) = omega (arith, p.0)

earlier : (words : List (List ℕ)) (a b : ℕ) → IsBadWord words a → IsBadWord words b → a < b → ⊥
earlier words a b (_, inl p) bad lt =
    let e : b ≡ (a + 1) + (b - (a + 1)) = omega (arith, lt) in
    p.1 (begins_before words (a + 1) (b - (a + 1)) (subst (λ (n : ℕ). Begins (take n words)) e bad.0))
earlier words a b (_, inr p) bad lt = omega (arith, lt, p.0, within words b bad)

pub one_bad_word : (words : List (List ℕ)) (a b : ℕ) → IsBadWord words a → IsBadWord words b → a ≡ b
one_bad_word words a b x y =
    elim (cases_lt a b) [
      | inl lt ↦ absurd (earlier words a b x y lt)
      | inr le ↦ elim (cases_lt b a) [
        | inl lt ↦ absurd (earlier words b a y x lt)
        | inr le2 ↦ omega (arith, le, le2)
      ]
    ]

pub accepted_not_bad : (words : List (List ℕ)) (command : Command) (at : ℕ) → Names command words → IsBadWord words at → ⊥
accepted_not_bad words command at names (_, inl p) =
    p.1 (drop (at + 1) words, command, subst (Names command) (sym (take-append-drop (at + 1) words)) names)
accepted_not_bad words command at names (_, inr p) = p.1 (command, names)

-- ---- the words of `ask`

is_ask : (command : Command) (words : List (List ℕ)) → Names command words → words ≡ codes "ask" ∷ []
is_ask Ask words names = names

begins_ask : Begins []
begins_ask = (codes "ask" ∷ [], Ask, refl)

pub none_is_bad : {A : Type 0} (f : A → List ℕ) (words : List A) → length words ≡ 0 → IsBadWord (map f words) 0
none_is_bad f [] none = (begins_ask, inr (refl, λ p. no_words p.0 p.1))
  where
    no_words : (command : Command) → Names command [] → ⊥
    no_words command names = let e = is_ask command [] names in cc
none_is_bad f (x ∷ xs) none = absurd (omega (arith, none))

pub first_is_bad : {A : Type 0} (f : A → List ℕ) (words : List A) (word : A) (others : List A) → words ≡ word ∷ others → (f word ≡ codes "ask" → ⊥) → IsBadWord (map f words) 0
first_is_bad {A} f words word others e differs =
    subst (λ (ws : List A). IsBadWord (map f ws) 0) (sym e) (begins_ask, inl (omega arith, λ b. other b.1 b.0 b.2))
  where
    other : (command : Command) (rest : List (List ℕ)) → Names command (f word ∷ rest) → ⊥
    other command rest names = let e = is_ask command (f word ∷ rest) names in differs cc

pub ask_and_more : {A : Type 0} (f : A → List ℕ) (words : List A) (word : A) (others : List A) → words ≡ word ∷ others → (length others ≡ 0 → ⊥) → f word ≡ codes "ask" → IsBadWord (map f words) 1
ask_and_more f words word [] e some is = absurd (some refl)
ask_and_more {A} f words word (x ∷ xs) e some is =
    subst (λ (ws : List A). IsBadWord (map f ws) 1) (sym e) (([], Ask, ap (λ (w : List ℕ). w ∷ []) is), inl (omega arith, λ b. two b.1 b.0 b.2))
  where
    two : (command : Command) (rest : List (List ℕ)) → Names command (f word ∷ f x ∷ rest) → ⊥
    two command rest names = let e = is_ask command (f word ∷ f x ∷ rest) names in cc

pub ask_alone : {A : Type 0} (f : A → List ℕ) (words : List A) (word : A) (others : List A) → words ≡ word ∷ others → length others ≡ 0 → f word ≡ codes "ask" → Names Ask (map f words)
ask_alone {A} f words word [] e none is = subst (λ (ws : List A). Names Ask (map f ws)) (sym e) (ap (λ (w : List ℕ). w ∷ []) is)
ask_alone f words word (x ∷ xs) e none is = absurd (omega (arith, none))

-- what a comparison of two texts says, by whether it found a difference
pub texts_equal : (xs ys : List ℕ) (differ : Bool) → differ ≡ not (pointwise eqb xs ys) → differ ≡ false → xs ≡ ys
texts_equal xs ys differ e same = (bytes_decides xs ys).0 (same_then (pointwise eqb xs ys) (sym e ∙ same))
  where
    same_then : (b : Bool) → not b ≡ false → b ≡ true
    same_then true h = refl
    same_then false h = absurd cc

pub texts_differ : (xs ys : List ℕ) (differ : Bool) → differ ≡ not (pointwise eqb xs ys) → differ ≡ true → xs ≡ ys → ⊥
texts_differ xs ys differ e other same = absurd (let clash = sym (both (pointwise eqb xs ys) ((bytes_decides xs ys).1 same)) ∙ sym e ∙ other in cc)
  where
    both : (b : Bool) → b ≡ true → not b ≡ false
    both true h = refl
    both false h = absurd cc
