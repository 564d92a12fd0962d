-- The peers that slots and links stand for, place by place.
use Rattle.std.proofs.Common.{◌≡◌, ℕ, zero, suc, ◌+◌, Bool, true, false, List, [], ◌∷◌, ◌++◌, length, take, drop, Some, slice_get, slice_set, sym, ap, ◌∙◌, refl, arith, append_assoc}
use Rattle.std.proofs.lemmas.List.{take-append-drop}
use Rattle.std.proofs.lemmas.Option.{none-some, same_Some}
use Rattle.ante_links.specs.LinkStates.{LinkState, fresh_link}
use Rattle.ante_journal.specs.Desk.{Peer, new_peer, count_open, one_if}
use Rattle.ante_driver.specs.declared.front.Slot.{Slot}
use Rattle.ante_driver.specs.Shown.{peer_of, peers_of, AreWritten}
use Rattle.ante_driver.specs.Slots.{open_slots}

pub peer_is : (p q : Peer) → p.rest ≡ q.rest → p.is_open ≡ q.is_open → p.is_last ≡ q.is_last → p.said ≡ q.said → p ≡ q
peer_is p q a b c d =
    ap (λ (x : List ℕ). record { rest = x; is_open = p.is_open; is_last = p.is_last; said = p.said }) a
    ∙ ap (λ (x : Bool). record { rest = q.rest; is_open = x; is_last = p.is_last; said = p.said }) b
    ∙ ap (λ (x : Bool). record { rest = q.rest; is_open = q.is_open; is_last = x; said = p.said }) c
    ∙ ap (λ (x : List ℕ). record { rest = q.rest; is_open = q.is_open; is_last = q.is_last; said = x }) d

pub peers_get : (slots : List Slot) (links : List LinkState) (n : ℕ) (s : Slot) (l : LinkState) → slice_get slots n ≡ Some s → slice_get links n ≡ Some l → slice_get (peers_of slots links) n ≡ Some (peer_of s l)
peers_get [] links n s l p q = absurd (none-some s p)
peers_get (a ∷ slots) [] n s l p q = absurd (none-some l q)
peers_get (a ∷ slots) (b ∷ links) zero s l p q =
    ap (λ (x : Slot). Some (peer_of x b)) (same_Some a s p) ∙ ap (λ (y : LinkState). Some (peer_of s y)) (same_Some b l q)
peers_get (a ∷ slots) (b ∷ links) (suc n) s l p q = peers_get slots links n s l p q

pub peers_length : (slots : List Slot) (links : List LinkState) → length slots ≡ length links → length (peers_of slots links) ≡ length slots
peers_length [] links e = refl
peers_length (a ∷ slots) [] e = absurd (omega arith)
peers_length (a ∷ slots) (b ∷ links) e = ap suc (peers_length slots links (omega arith))

pub peers_open : (slots : List Slot) (links : List LinkState) → length slots ≡ length links → count_open (peers_of slots links) ≡ open_slots slots
peers_open [] links e = refl
peers_open (a ∷ slots) [] e = absurd (omega arith)
peers_open (a ∷ slots) (b ∷ links) e = ap (λ (n : ℕ). one_if a.is_open + n) (peers_open slots links (omega arith))

-- one slot changes
pub peers_set_slot : (slots : List Slot) (links : List LinkState) (n : ℕ) (s : Slot) (l : LinkState) → slice_get links n ≡ Some l → peers_of (slice_set slots n s) links ≡ slice_set (peers_of slots links) n (peer_of s l)
peers_set_slot [] links n s l q = refl
peers_set_slot (a ∷ slots) [] n s l q = absurd (none-some l q)
peers_set_slot (a ∷ slots) (b ∷ links) zero s l q = ap (λ (y : LinkState). peer_of s y ∷ peers_of slots links) (same_Some b l q)
peers_set_slot (a ∷ slots) (b ∷ links) (suc n) s l q = ap (λ (ps : List Peer). peer_of a b ∷ ps) (peers_set_slot slots links n s l q)

-- a slot and its link change, and stand for the same
pub peers_same : (slots : List Slot) (links : List LinkState) (n : ℕ) (s t : Slot) (k l : LinkState) → slice_get slots n ≡ Some s → slice_get links n ≡ Some k → peer_of t l ≡ peer_of s k → peers_of (slice_set slots n t) (slice_set links n l) ≡ peers_of slots links
peers_same [] links n s t k l p q e = absurd (none-some s p)
peers_same (a ∷ slots) [] n s t k l p q e = absurd (none-some k q)
peers_same (a ∷ slots) (b ∷ links) zero s t k l p q e =
    ap (λ (x : Peer). x ∷ peers_of slots links) (e ∙ sym (ap (λ (x : Slot). peer_of x k) (same_Some a s p)) ∙ sym (ap (λ (y : LinkState). peer_of a y) (same_Some b k q)))
peers_same (a ∷ slots) (b ∷ links) (suc n) s t k l p q e = ap (λ (x : List Peer). peer_of a b ∷ x) (peers_same slots links n s t k l p q e)

-- one link alone changes, and stands for the same
pub peers_same_link : (slots : List Slot) (links : List LinkState) (n : ℕ) (k l : LinkState) → slice_get links n ≡ Some k → l.left ≡ k.left → l.written ≡ k.written → peers_of slots (slice_set links n l) ≡ peers_of slots links
peers_same_link [] links n k l q d w = refl
peers_same_link (a ∷ slots) [] n k l q d w = absurd (none-some k q)
peers_same_link (a ∷ slots) (b ∷ links) zero k l q d w =
    let e : k ≡ b = sym (same_Some b k q) in
    ap (λ (x : Peer). x ∷ peers_of slots links) (peer_is (peer_of a l) (peer_of a b)
    (ap (λ (x : List ℕ). a.held.items ++ x) (d ∙ ap (λ (y : LinkState). y.left) e)) refl refl
    (ap (λ (x : List ℕ). x ++ a.output.items) (w ∙ ap (λ (y : LinkState). y.written) e)))
peers_same_link (a ∷ slots) (b ∷ links) (suc n) k l q d w = ap (λ (x : List Peer). peer_of a b ∷ x) (peers_same_link slots links n k l q d w)

pub peers_push : (slots : List Slot) (links : List LinkState) (s : Slot) (l : LinkState) → length slots ≡ length links → peers_of (slots ++ s ∷ []) (links ++ l ∷ []) ≡ peers_of slots links ++ peer_of s l ∷ []
peers_push [] [] s l e = refl
peers_push [] (b ∷ links) s l e = absurd (omega arith)
peers_push (a ∷ slots) [] s l e = absurd (omega arith)
peers_push (a ∷ slots) (b ∷ links) s l e = ap (λ (x : List Peer). peer_of a b ∷ x) (peers_push slots links s l (omega arith))

-- a slot that holds nothing and a link of which nothing was read are a new peer
pub new_is : (s : Slot) (input : List ℕ) → s.held.items ≡ [] → s.output.items ≡ [] → s.is_open ≡ true → s.is_last ≡ false → peer_of s (fresh_link input) ≡ new_peer input
new_is s input h o p q = peer_is (peer_of s (fresh_link input)) (new_peer input) (ap (λ (x : List ℕ). x ++ input) h) p q o

-- what was written is the front of what is said
pub written-peers : (slots : List Slot) (links : List LinkState) → length slots ≡ length links → AreWritten (peers_of slots links) links
written-peers [] [] e = tt
written-peers [] (b ∷ links) e = absurd (omega arith)
written-peers (a ∷ slots) [] e = absurd (omega arith)
written-peers (a ∷ slots) (b ∷ links) e = ((a.output.items, refl), written-peers slots links (omega arith))

-- a link more, to which nothing was written
pub written-push : (peers : List Peer) (links : List LinkState) (l : LinkState) → l.written ≡ [] → AreWritten peers links → AreWritten peers (links ++ l ∷ [])
written-push [] [] l e w = (e, tt)
written-push [] (b ∷ links) l e w = (w.0, written-push [] links l e w.1)
written-push (p ∷ peers) [] l e w = absurd w
written-push (p ∷ peers) (b ∷ links) l e w = (w.0, written-push peers links l e w.1)

-- a link that was written to as before
pub written-set : (peers : List Peer) (links : List LinkState) (n : ℕ) (k l : LinkState) → slice_get links n ≡ Some k → l.written ≡ k.written → AreWritten peers links → AreWritten peers (slice_set links n l)
written-set [] [] n k l q e w = absurd (none-some k q)
written-set [] (b ∷ links) zero k l q e w = (e ∙ sym (ap (λ (y : LinkState). y.written) (same_Some b k q)) ∙ w.0, w.1)
written-set [] (b ∷ links) (suc n) k l q e w = (w.0, written-set [] links n k l q e w.1)
written-set (p ∷ peers) [] n k l q e w = absurd w
written-set (p ∷ peers) (b ∷ links) zero k l q e w =
    ((w.0.0, w.0.1 ∙ ap (λ (x : List ℕ). x ++ w.0.0) (sym (e ∙ sym (ap (λ (y : LinkState). y.written) (same_Some b k q))))), w.1)
written-set (p ∷ peers) (b ∷ links) (suc n) k l q e w = (w.0, written-set peers links n k l q e w.1)

-- the front of a link's replies is written to it
pub written_more : (slots : List Slot) (links : List LinkState) (n k : ℕ) (s : Slot) (a b : LinkState) → length slots ≡ length links → slice_get slots n ≡ Some s → slice_get links n ≡ Some a → b.written ≡ a.written ++ take k s.output.items → AreWritten (peers_of slots links) (slice_set links n b)
written_more [] links n k s a b e p q w = absurd (none-some s p)
written_more (x ∷ slots) [] n k s a b e p q w = absurd (none-some a q)
written_more (x ∷ slots) (y ∷ links) zero k s a b e p q w =
    let i : x ≡ s = same_Some x s p in
    let j : y ≡ a = same_Some y a q in (
      (
        drop k s.output.items,
        ap (λ (z : LinkState). z.written ++ x.output.items) j ∙ ap (λ (z : Slot). a.written ++ z.output.items) i
            ∙ ap (λ (l : List ℕ). a.written ++ l) (sym (take-append-drop k s.output.items)) ∙ sym (append_assoc a.written (take k s.output.items) (drop k s.output.items)) ∙ ap (λ (l : List ℕ). l ++ drop k s.output.items) (sym w),
      ),
      written-peers slots links (omega arith),
    )
written_more (x ∷ slots) (y ∷ links) (suc n) k s a b e p q w = ((x.output.items, refl), written_more slots links n k s a b (omega arith) p q w)
