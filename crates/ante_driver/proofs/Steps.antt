-- What each change of the driver's data is in the run.
use Rattle.std.proofs.Common.{◌≡◌, ℕ, zero, suc, nat_lt, nat_le, Bool, true, false, List, [], ◌∷◌, ◌++◌, length, take, drop, Option, Some, slice_get, slice_set, Ok, if◌then◌else◌, sym, ap, ◌∙◌, subst, refl, arith, append_assoc}
use Rattle.std.proofs.lemmas.List.{take-append-drop}
use Rattle.std.proofs.lemmas.Bool.Decides.{nat_tests}
use Rattle.std.proofs.lemmas.Option.{none-some, same_Some}
use Rattle.ante_links.specs.LinkStates.{LinkState, fresh_link}
use Rattle.ante_links.specs.Links.{Changes}
use Rattle.ante_journal.specs.declared.event.NodeEvent.TheVariants as event
use Rattle.ante_journal.specs.declared.waiting.Waiting.{Waiting}
use Rattle.ante_journal.specs.Desk.{Peer, new_peer, Stage, accepting, crowded, taking, DeskRow, Closes, stage_after, most_open}
use Rattle.ante_driver.specs.declared.front.Slot.{Slot}
use Rattle.ante_driver.specs.declared.front.Stop.{Stop}
use Rattle.ante_driver.specs.declared.front.Front.{Front}
use Rattle.ante_driver.specs.Shown.{peer_of, peers_of, desk_with, IsCalm}
use Rattle.ante_driver.specs.Slots.{Holds, Shuts, Sends, open_slots}
use Rattle.ante_driver.specs.Fronts.{KeepsRest, stage_with}
use Rattle.ante_driver.proofs.Peers.{peer_is, peers_get, peers_length, peers_open, peers_set_slot, peers_same, peers_push, new_is}

-- the link of a slot
pub link_at : (slots : List Slot) (links : List LinkState) (n : ℕ) (s : Slot) → slice_get slots n ≡ Some s → length slots ≡ length links → (l : LinkState) × (slice_get links n ≡ Some l)
link_at [] links n s p e = absurd (none-some s p)
link_at (a ∷ slots) [] n s p e = absurd (omega arith)
link_at (a ∷ slots) (b ∷ links) zero s p e = (b, refl)
link_at (a ∷ slots) (b ∷ links) (suc n) s p e = link_at slots links n s p (omega arith)

-- a desk with the same queue and turn
pub rest_is : (come come' : List (Option (List ℕ))) (peers' : List Peer) (old new : Front) (stage : Stage) → KeepsRest old new → come' ≡ come →
    desk_with come' peers' new.queue.items new.turn new.took stage ≡ desk_with come peers' old.queue.items old.turn old.took stage
rest_is come come' peers' old new stage k c =
    ap (λ (x : List (Option (List ℕ))). desk_with x peers' new.queue.items new.turn new.took stage) c
    ∙ ap (λ x. desk_with come peers' x.items new.turn new.took stage) k.queue
    ∙ ap (λ (x : ℕ). desk_with come peers' old.queue.items x new.took stage) k.turn
    ∙ ap (λ (x : Bool). desk_with come peers' old.queue.items old.turn x stage) k.took

-- a link and its slot more
pub accepted : (come coming : List (Option (List ℕ))) (links links' : List LinkState) (slots slots' : List Slot) (queue : List Waiting) (turn : ℕ) (took : Bool) (s : Slot) (input : List ℕ) →
    length slots ≡ length links → come ≡ Some input ∷ coming → links' ≡ links ++ fresh_link input ∷ [] → slots' ≡ slots ++ s ∷ [] → s.held.items ≡ [] → s.output.items ≡ [] → s.is_open ≡ true → s.is_last ≡ false →
    DeskRow (desk_with come (peers_of slots links) queue turn took accepting) (event.Link turn) (desk_with coming (peers_of slots' links') queue turn took (stage_after (open_slots slots)))
accepted come coming links links' slots slots' queue turn took s input same f g h held output is_open is_last =
    let q : peers_of slots' links' ≡ peers_of slots links ++ new_peer input ∷ [] =
    ap (λ (x : List Slot). peers_of x links') h ∙ ap (λ (x : List LinkState). peers_of (slots ++ s ∷ []) x) g
    ∙ peers_push slots links s (fresh_link input) same ∙ ap (λ (x : Peer). peers_of slots links ++ x ∷ []) (new_is s input held output is_open is_last) in (
      input,
      coming,
      refl,
      refl,
      f,
      ap (λ (x : List Peer). desk_with coming x queue turn took (stage_after (open_slots slots))) q
          ∙ ap (λ (x : ℕ). desk_with coming (peers_of slots links ++ new_peer input ∷ []) queue turn took (stage_after x)) (sym (peers_open slots links same)),
    )

-- the stage that the call names is the row's
pub stage_is : (count : ℕ) (many : Bool) → many ≡ nat_le most_open count → stage_with {E = Stop} (Ok many) ≡ stage_after count
stage_is count true e =
    let h : nat_lt count most_open ≡ false = grind (arith, nat_tests) in
    ap (λ (b : Bool). if b then taking else crowded) (sym h)
stage_is count false e =
    let h : nat_lt count most_open ≡ true = grind (arith, nat_tests) in
    ap (λ (b : Bool). if b then taking else crowded) (sym h)

-- a link closes
pub closed : (come : List (Option (List ℕ))) (links : List LinkState) (slots slots' : List Slot) (queue : List Waiting) (turn : ℕ) (took : Bool) (stage after : Stage) (n : ℕ) →
    length slots ≡ length links → IsCalm n slots queue → Closes stage n (length slots) after → Changes n slots slots' Shuts →
    DeskRow (desk_with come (peers_of slots links) queue turn took stage) (event.Gone n) (desk_with come (peers_of slots' links) queue turn took after)
closed come links slots slots' queue turn took stage after n same calm may c =
    let k = link_at slots links n calm.slot calm.there same in
    let b : c.before ≡ calm.slot = same_Some c.before calm.slot (sym c.there ∙ calm.there) in
    let p : Peer = peer_of calm.slot k.0 in
    let shut : Peer = record p { is_open = false } in
    let e : peer_of c.after k.0 ≡ shut = peer_is (peer_of c.after k.0) shut
    (ap (λ (x : List ℕ). x ++ (k.0).left) (c.how.held ∙ ap (λ (x : Slot). x.held.items) b)) c.how.is_open (c.how.is_last ∙ ap (λ (x : Slot). x.is_last) b)
    (ap (λ (x : List ℕ). (k.0).written ++ x) (c.how.output ∙ ap (λ (x : Slot). x.output.items) b)) in
    let q : peers_of slots' links ≡ slice_set (peers_of slots links) n shut =
    ap (λ (x : List Slot). peers_of x links) c.is ∙ peers_set_slot slots links n c.after k.0 k.1 ∙ ap (λ (x : Peer). slice_set (peers_of slots links) n x) e in (
      p,
      record { there = peers_get slots links n calm.slot k.0 calm.there k.1; is_open = calm.is_open; free = calm.free },
      subst (λ (x : ℕ). Closes stage n x after) (sym (peers_length slots links same)) may,
      ap (λ (x : List Peer). desk_with come x queue turn took after) q,
    )

-- bytes that were read are held: the peers stand for the same
pub filled : (links links' : List LinkState) (slots slots' : List Slot) (n : ℕ) (bytes : List ℕ) (How : LinkState → LinkState → Type 0) → (c : Changes n links links' How) → (c.after).written ≡ (c.before).written → (c.before).left ≡ bytes ++ (c.after).left →
    Changes n slots slots' (Holds bytes) → peers_of slots' links' ≡ peers_of slots links
filled links links' slots slots' n bytes How c w l d =
    let p : peer_of d.after c.after ≡ peer_of d.before c.before = peer_is (peer_of d.after c.after) (peer_of d.before c.before)
    (ap (λ (x : List ℕ). x ++ (c.after).left) d.how.held ∙ append_assoc (d.before).held.items bytes (c.after).left ∙ ap (λ (x : List ℕ). (d.before).held.items ++ x) (sym l))
    d.how.is_open d.how.is_last
    (ap (λ (x : List ℕ). x ++ (d.after).output.items) w ∙ ap (λ (x : List ℕ). (c.before).written ++ x) d.how.output) in
    ap (λ (x : List Slot). peers_of x links') d.is ∙ ap (λ (x : List LinkState). peers_of (slice_set slots n d.after) x) c.is
    ∙ peers_same slots links n d.before d.after c.before c.after d.there c.there p

-- bytes that were written: the peers stand for the same
pub passed_on : (links links' : List LinkState) (slots slots' : List Slot) (n count : ℕ) (How : LinkState → LinkState → Type 0) → (c : Changes n links links' How) → (d : Changes n slots slots' (Sends count)) →
    (c.after).left ≡ (c.before).left → (c.after).written ≡ (c.before).written ++ take count (d.before).output.items → peers_of slots' links' ≡ peers_of slots links
passed_on links links' slots slots' n count How c d l w =
    let said : (c.after).written ++ (d.after).output.items ≡ (c.before).written ++ (d.before).output.items =
    ap (λ (x : List ℕ). x ++ (d.after).output.items) w ∙ ap (λ (x : List ℕ). ((c.before).written ++ take count (d.before).output.items) ++ x) d.how.output
    ∙ append_assoc (c.before).written (take count (d.before).output.items) (drop count (d.before).output.items) ∙ ap (λ (x : List ℕ). (c.before).written ++ x) (take-append-drop count (d.before).output.items) in
    let p : peer_of d.after c.after ≡ peer_of d.before c.before = peer_is (peer_of d.after c.after) (peer_of d.before c.before)
    (ap (λ (x : List ℕ). x ++ (c.after).left) d.how.held ∙ ap (λ (x : List ℕ). (d.before).held.items ++ x) l) d.how.is_open d.how.is_last said in
    ap (λ (x : List Slot). peers_of x links') d.is ∙ ap (λ (x : List LinkState). peers_of (slice_set slots n d.after) x) c.is
    ∙ peers_same slots links n d.before d.after c.before c.after d.there c.there p
