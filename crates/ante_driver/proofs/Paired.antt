-- Each slot keeps its link.
use Rattle.std.proofs.Common.{◌≡◌, ℕ, ◌+◌, ◌<◌, ◌≤◌, true, false, List, [], ◌∷◌, ◌++◌, length, slice_get, Some, sym, ap, ◌∙◌, subst, refl, arith}
use Rattle.std.proofs.lemmas.List.{length-append}
use Rattle.std.specs.List.{AllByRecursion}
use Rattle.ante_links.specs.LinkStates.{LinkState}
use Rattle.ante_links.specs.Links.{Changes}
use Rattle.ante_journal.specs.declared.waiting.Waiting.{Waiting}
use Rattle.ante_journal.specs.Desk.{waits}
use Rattle.ante_driver.specs.declared.front.Slot.{Slot}
use Rattle.ante_driver.specs.Shown.{IsPaired, HasCalmLast}
use Rattle.ante_driver.proofs.Places.{length-change}

abbrev Numbered : ℕ → List Waiting → Type 0
Numbered n queue = AllByRecursion (λ w. w.link < n) queue

numbered_more : (n k : ℕ) (queue : List Waiting) → n ≤ k → Numbered n queue → Numbered k queue
numbered_more n k [] h p = tt
numbered_more n k (w ∷ queue) h p = (omega (arith, p.0), numbered_more n k queue h p.1)

pub paired_accept : (slots slots' : List Slot) (queue : List Waiting) (links links' : List LinkState) (s : Slot) (l : LinkState) → IsPaired slots queue links → length links < 4294967295 → slots' ≡ slots ++ s ∷ [] → links' ≡ links ++ l ∷ [] → IsPaired slots' queue links'
paired_accept slots slots' queue links links' s l p h e f =
    let a : length slots' ≡ length slots + 1 = ap (λ (x : List Slot). length x) e ∙ length-append slots (s ∷ []) in
    let b : length links' ≡ length links + 1 = ap (λ (x : List LinkState). length x) f ∙ length-append links (l ∷ []) in
    record { same = omega (arith, p.same); few = omega arith; numbered = numbered_more (length links) (length links') queue (omega arith) p.numbered }

-- the lists keep their lengths
pub paired_keep : (slots slots' : List Slot) (queue : List Waiting) (links links' : List LinkState) → IsPaired slots queue links → length slots' ≡ length slots → length links' ≡ length links → IsPaired slots' queue links'
paired_keep slots slots' queue links links' p e f =
    record { same = omega (arith, p.same); few = omega (arith, p.few); numbered = numbered_more (length links) (length links') queue (omega arith) p.numbered }

pub same_paired : (slots : List Slot) (queue : List Waiting) (links links' : List LinkState) (n : ℕ) (How : LinkState → LinkState → Type 0) → IsPaired slots queue links → Changes n links links' How → IsPaired slots queue links'
same_paired slots queue links links' n How p d = paired_keep slots slots queue links links' p refl (length-change n links links' How d)

-- nothing waits on a link that isn't there yet
waits_past : (n : ℕ) (queue : List Waiting) → Numbered n queue → waits n queue ≡ false
waits_past n [] p = refl
waits_past n (w ∷ queue) p =
    let below : w.link < n = p.0 in
    let rest : waits n queue ≡ false = waits_past n queue p.1 in
    grind arith

at_end : {A : Type 0} (xs : List A) (x : A) → slice_get (xs ++ x ∷ []) (length xs) ≡ Some x
at_end [] x = refl
at_end (y ∷ xs) x = at_end xs x

pub calm_new : (slots slots' : List Slot) (queue : List Waiting) (links : List LinkState) (s : Slot) → IsPaired slots queue links → slots' ≡ slots ++ s ∷ [] → s.is_open ≡ true → HasCalmLast slots' queue
calm_new slots slots' queue links s p e o = record {
  place = length slots;
  is_last = sym (ap (λ (x : List Slot). length x) e ∙ length-append slots (s ∷ []) ∙ omega arith);
  calm = record {
    slot = s;
    there = ap (λ (x : List Slot). slice_get x (length slots)) e ∙ at_end slots s;
    is_open = o;
    free = waits_past (length slots) queue (subst (λ (k : ℕ). Numbered k queue) (sym p.same) p.numbered);
  };
}

numbered_push : (n : ℕ) (queue : List Waiting) (w : Waiting) → w.link < n → Numbered n queue → Numbered n (queue ++ w ∷ [])
numbered_push n [] w h p = (h, tt)
numbered_push n (x ∷ queue) w h p = (p.0, numbered_push n queue w h p.1)

pub paired_push : (slots : List Slot) (queue queue' : List Waiting) (links : List LinkState) (w : Waiting) → IsPaired slots queue links → w.link < length slots → queue' ≡ queue ++ w ∷ [] → IsPaired slots queue' links
paired_push slots queue queue' links w p h e =
    record { same = p.same; few = p.few; numbered = subst (Numbered (length links)) (sym e) (numbered_push (length links) queue w (omega (arith, p.same)) p.numbered) }
