-- Two exports have one name: a name that comes again was seen before.
use Rattle.std.proofs.Common.{◌≡◌, ◌↔◌, ◌⊎◌, inl, inr, ⊎_elim, ℕ, zero, suc, List, [], ◌∷◌, length, Any, Bor, Bool, true, false, not, cond, refl, sym, ap, subst, ◌∙◌, arith}
use Rattle.std.specs.List.{list_any}
use Rattle.std.specs.Ordering.{is_eq}
use Rattle.std.specs.Str.{bytes_eq}
use Rattle.std.proofs.lemmas.Slice.Eq.{bytes_eq-Decides}
use Rattle.std.proofs.lemmas.Map.Text.{is_eq-slice_cmp}
use Rattle.std.specs.BTreeSet as sorted
use Rattle.std.specs.BTreeSet.{BTreeSet}
use Rattle.std.specs.Ordering.{nat_cmp}
use Rattle.std.specs.Cmp.Lexicographic.{slice_cmp}
use Rattle.ante_wtree.specs.declared.modules.Export.{Export}
use Rattle.ante_wvalid.specs.Modules.{Twice}

-- one of the exports has a name with this property
abbrev pub Within : (List ℕ → Type 0) → List Export → Type 0
Within S [] = ⊥
Within S (e ∷ es) = S e.name ⊎ Within S es

to_within : (n : List ℕ) (es : List Export) → Any (λ d. d.name ≡ n) es → Within (λ m. m ≡ n) es
to_within n [] (k, x, lt, e, p) = absurd (omega arith)
to_within n (d ∷ es) (zero, x, lt, e, p) = inl (ap (λ z. z.name) e ∙ p)
to_within n (d ∷ es) (suc k, x, lt, e, p) = inr (to_within n es (k, x, omega arith, e, p))

from_within : (n : List ℕ) (es : List Export) → Within (λ m. m ≡ n) es → Any (λ d. d.name ≡ n) es
from_within n [] h = absurd h
from_within n (d ∷ es) (inl p) = (0, d, omega arith, refl, p)
from_within n (d ∷ es) (inr r) = let a = from_within n es r in (suc a.0, a.1, omega arith, a.3, a.4)

within_map : (S T : List ℕ → Type 0) → ((m : List ℕ) → S m → T m) → (es : List Export) → Within S es → Within T es
within_map S T f [] h = h
within_map S T f (e ∷ es) (inl s) = inl (f e.name s)
within_map S T f (e ∷ es) (inr r) = inr (within_map S T f es r)

within_split : (S T U : List ℕ → Type 0) → ((m : List ℕ) → U m → S m ⊎ T m) → (es : List Export) → Within U es → Within S es ⊎ Within T es
within_split S T U f [] h = absurd h
within_split S T U f (e ∷ es) (inl u) = ⊎_elim (λ s. inl (inl s)) (λ t. inr (inl t)) (f e.name u)
within_split S T U f (e ∷ es) (inr r) = ⊎_elim (λ s. inl (inr s)) (λ t. inr (inr t)) (within_split S T U f es r)

-- the name is in the set
abbrev pub named : List ℕ → Bor (List ℕ)
named m = record { ref_ptr = (0, 0); now = m }

abbrev pub Seen : BTreeSet (Bor (List ℕ)) → List ℕ → Type 0
Seen seen m = sorted.contains (λ x y. slice_cmp nat_cmp x.now y.now) seen (named m) ≡ true

-- what is left to be found, once these names were seen
abbrev pub Left : (List ℕ → Type 0) → List Export → Type 0
Left S es = Within S es ⊎ Twice es

pub left_first : (S : List ℕ → Type 0) (es : List Export) → ((m : List ℕ) → S m → ⊥) → Twice es ↔ Left S es
left_first S es n = (λ t. inr t, λ l. ⊎_elim (λ w. absurd (none es w)) (λ t. t) l)
  where
    none : (es : List Export) → Within S es → ⊥
    none [] h = h
    none (e ∷ es) (inl s) = n e.name s
    none (e ∷ es) (inr r) = none es r

pub left_more : (S T : List ℕ → Type 0) (all rest tail : List Export) (e : Export) → rest ≡ e ∷ tail → Twice all ↔ Left S rest → (S e.name → ⊥) →
    ((m : List ℕ) → T m ↔ ((m ≡ e.name) ⊎ S m)) → Twice all ↔ Left T tail
left_more S T all rest tail e is h n t = (
  λ x. forth (subst (Left S) is (h.0 x)),
  λ x. h.1 (subst (Left S) (sym is) (back x)),
)
  where
    forth : Left S (e ∷ tail) → Left T tail
    forth (inl (inl s)) = absurd (n s)
    forth (inl (inr w)) = inl (within_map S T (λ m s. (t m).1 (inr s)) tail w)
    forth (inr (inl a)) = inl (within_map (λ m. m ≡ e.name) T (λ m s. (t m).1 (inl s)) tail (to_within e.name tail a))
    forth (inr (inr w)) = inr w

    back : Left T tail → Left S (e ∷ tail)
    back (inl w) = ⊎_elim (λ s. inr (inl (from_within e.name tail s))) (λ s. inl (inr s)) (within_split (λ m. m ≡ e.name) S T (λ m. (t m).0) tail w)
    back (inr w) = inr (inr w)

pub left_stops : (S : List ℕ → Type 0) (all rest tail : List Export) (e : Export) → rest ≡ e ∷ tail → Twice all ↔ Left S rest → S e.name → Twice all
left_stops S all rest tail e is h s = h.1 (subst (Left S) (sym is) (inl (inl s)))

pub left_none : (S : List ℕ → Type 0) (all rest : List Export) → length rest ≡ 0 → Twice all ↔ Left S rest → Twice all → ⊥
left_none S all [] e h t = ⊎_elim (λ w. w) (λ w. w) (h.0 t)
left_none S all (d ∷ es) e h t = absurd (omega arith)

pub none_seen : (seen : BTreeSet (Bor (List ℕ))) → length seen.keys ≡ 0 → (m : List ℕ) → Seen seen m → ⊥
none_seen seen e m h = none seen.keys e h
  where
    none : (keys : List (Bor (List ℕ))) → length keys ≡ 0 → list_any (λ q. is_eq (slice_cmp nat_cmp m q.now)) keys ≡ true → ⊥
    none [] e h = cc
    none (k ∷ ks) e h = absurd (omega arith)

updated : (new old test : Bool) (m n : List ℕ) → new ≡ cond test true old → test ≡ bytes_eq n m → (new ≡ true) ↔ ((m ≡ n) ⊎ (old ≡ true))
updated new old true m n e t = (λ x. inl (sym ((bytes_eq-Decides n m).0 (sym t))), λ y. e)
updated new old false m n e t = (λ x. inr (sym e ∙ x), λ y. ⊎_elim (λ q. let b = (bytes_eq-Decides n m).1 (sym q) in cc) (λ z. e ∙ z) y)

pub seen_more : (seen new : BTreeSet (Bor (List ℕ))) (name : Bor (List ℕ)) (n : List ℕ) → name.now ≡ n → sorted.Updates (λ x y. slice_cmp nat_cmp x.now y.now) seen new name true →
    (m : List ℕ) → Seen new m ↔ ((m ≡ n) ⊎ Seen seen m)
seen_more seen new name n e h m = updated _ _ (is_eq (slice_cmp nat_cmp name.now m)) m n (h.0 (named m)) (is_eq-slice_cmp name.now m ∙ ap (λ x. bytes_eq x m) e)

pub seen_not : (seen : BTreeSet (Bor (List ℕ))) (name : Bor (List ℕ)) (n : List ℕ) (added : Bool) → name.now ≡ n → added ≡ not (sorted.contains (λ x y. slice_cmp nat_cmp x.now y.now) seen name) → added ≡ true → Seen seen n → ⊥
seen_not seen name n added e h a s = let t : Seen seen name.now = subst (Seen seen) (sym e) s in let f : not true ≡ true = subst (λ b. not b ≡ true) t (sym h ∙ a) in cc

pub seen_yes : (seen : BTreeSet (Bor (List ℕ))) (name : Bor (List ℕ)) (n : List ℕ) (added : Bool) → name.now ≡ n → added ≡ not (sorted.contains (λ x y. slice_cmp nat_cmp x.now y.now) seen name) → added ≡ false → Seen seen n
seen_yes seen name n added e h a = subst (Seen seen) e (yes_of (sorted.contains (λ x y. slice_cmp nat_cmp x.now y.now) seen name) (sym h ∙ a))
  where
    yes_of : (b : Bool) → not b ≡ false → b ≡ true
    yes_of true e = refl
    yes_of false e = cc
