-- From what the helpers did to what the calls promise.
use Rattle.std.proofs.Common.{◌≡◌, ℕ, suc, ◌-◌, Bool, true, List, ◌++◌, length, take, Option, Some, slice_get, Result, Ok, Err, OnOk, OnErr, IfOk, sym, ap, ◌∙◌, subst, refl, arith, ◌⊎◌}
use Rattle.std.proofs.lemmas.Option.{same_Some}
use Rattle.ante_links.specs.LinkStates.{LinkState, fresh_link}
use Rattle.ante_links.specs.Links.{Accepts, Waits, Changes, OneRead, OneWrite}
use Rattle.ante_links.specs.declared.links.LinkId.{LinkId}
use Rattle.ante_links.specs.declared.links.Accept.TheVariants as accept
use Rattle.ante_links.specs.declared.links.LinkRead.TheVariants as read
use Rattle.ante_links.specs.declared.links.LinkWrite.TheVariants as write
use Rattle.ante_journal.specs.declared.event.NodeEvent.{NodeEvent}
use Rattle.ante_journal.specs.declared.event.NodeEvent.TheVariants as event
use Rattle.ante_journal.specs.declared.waiting.Waiting.{Waiting}
use Rattle.ante_journal.specs.Desk.{Peer, Desk, Stage, accepting, taking, sending, waits, Closes}
use Rattle.ante_driver.specs.declared.front.Slot.{Slot}
use Rattle.ante_driver.specs.declared.front.Stop.{Stop}
use Rattle.ante_driver.specs.declared.front.Front.{Front}
use Rattle.ante_driver.specs.Shown.{peers_of, desk_with, desk_of, IsPaired, IsPairedFront, IsCalm, IsIdle, HasCalmLast, Leads, AreWritten, Went, StaysPaired}
use Rattle.ante_driver.specs.Slots.{Holds, Shuts, Sends, open_slots}
use Rattle.ante_driver.specs.Fronts.{AddsSlot, KeepsRest, HoldsBytes, ShutsSlot, SendsFront, stage_with}
use Rattle.ante_driver.proofs.Places.{length-change, set_there}
use Rattle.ante_driver.proofs.Runs.{leads_stay, leads_one, leads_no_link, served_stay}
use Rattle.ante_driver.proofs.Peers.{written-peers, written-push, written-set, written_more, peers_same_link}
use Rattle.ante_driver.proofs.Paired.{paired_accept, paired_keep, calm_new}
use Rattle.ante_driver.proofs.Steps.{rest_is, accepted, stage_is, closed, filled, passed_on}

pub stay_leads : (come come' : List (Option (List ℕ))) (links links' : List LinkState) (f : Front) (stage : Stage) → come' ≡ come → links' ≡ links →
    Leads (desk_of come links f stage) f.journal.items (desk_of come' links' f stage) f.journal.items
stay_leads come come' links links' f stage p q =
    leads_stay _ _ f.journal.items f.journal.items (ap (λ (x : List (Option (List ℕ))). desk_of x links' f stage) p ∙ ap (λ (x : List LinkState). desk_of come x f stage) q) refl

keeps : (many : Bool) (old new : Front) → AddsSlot old many new → KeepsRest old new
keeps many old new h = record { queue = h.queue; turn = h.turn; took = h.took }

-- ---- a link is given

pub accept_went : (tells : Bool) (come coming : List (Option (List ℕ))) (links links' : List LinkState) (old new : Front) (id : LinkId) (r : Result Bool Stop) →
    IsPairedFront old links → Accepts tells come coming links links' (accept.New id) → IfOk r (λ many. AddsSlot old many new) → OnErr r (new.journal.items ≡ old.journal.items) →
    Went tells (desk_of come links old accepting) old.journal.items (desk_of coming links' new (stage_with r)) new.journal.items links' r
accept_went tells come coming links links' old new id (Ok many) p a h k = λ told.
    subst (λ t. Leads (desk_of come links old accepting) old.journal.items t new.journal.items)
    (sym (rest_is coming coming (peers_of new.slots.items links') old new (stage_with {E = Stop} (Ok many)) (keeps many old new h) refl
    ∙ ap (λ (x : Stage). desk_with coming (peers_of new.slots.items links') old.queue.items old.turn old.took x) (stage_is (open_slots old.slots.items) many h.crowds)))
    (leads_one _ _ old.journal.items new.journal.items (event.Link old.turn)
    (accepted come coming links links' old.slots.items new.slots.items old.queue.items old.turn old.took h.slot a.0 p.same (a.4 told) a.3 h.slots h.held h.output h.is_open h.is_last) h.journal)
accept_went tells come coming links links' old new id (Err x) p a h k = λ told.
    served_stay _ old.journal.items new.journal.items links' k
    (subst (AreWritten (peers_of old.slots.items links)) (sym a.3) (written-push (peers_of old.slots.items links) links (fresh_link a.0) refl (written-peers old.slots.items links p.same)))

pub accept_paired : (tells : Bool) (come coming : List (Option (List ℕ))) (links links' : List LinkState) (old new : Front) (id : LinkId) (r : Result Bool Stop) →
    IsPairedFront old links → Accepts tells come coming links links' (accept.New id) → IfOk r (λ many. AddsSlot old many new) → StaysPaired new links' r
accept_paired tells come coming links links' old new id (Ok v) p a h =
    subst (λ q. IsPaired new.slots.items q.items links') (sym h.queue) (paired_accept old.slots.items new.slots.items old.queue.items links links' h.slot (fresh_link a.0) p a.2 h.slots a.3)
accept_paired tells come coming links links' old new id (Err x) p a h = tt

pub accept_last : (links : List LinkState) (old new : Front) (r : Result Bool Stop) → IsPairedFront old links → IfOk r (λ many. AddsSlot old many new) → r ≡ Ok true → HasCalmLast new.slots.items new.queue.items
accept_last links old new r p h e =
    let a : AddsSlot old true new = subst (λ x. IfOk x (λ many. AddsSlot old many new)) e h in
    subst (λ q. HasCalmLast new.slots.items q.items) (sym a.queue) (calm_new old.slots.items new.slots.items old.queue.items links a.slot p a.slots a.is_open)

pub no_link_leads : (come coming : List (Option (List ℕ))) (links links' : List LinkState) (f : Front) → (Waits come coming ⊎ (coming ≡ come)) → links' ≡ links →
    Leads (desk_of come links f accepting) f.journal.items (desk_of coming links' f taking) f.journal.items
no_link_leads come coming links links' f w l =
    leads_no_link _ _ f.journal.items f.journal.items (coming, refl, w, ap (λ (x : List LinkState). desk_of coming x f taking) l) refl

-- ---- a link closes

pub close_went : {A : Type 0} (tells : Bool) (come come' : List (Option (List ℕ))) (links links' : List LinkState) (old new : Front) (n : ℕ) (stage after : Stage) (r : Result A Stop) →
    IsPairedFront old links → IsCalm n old.slots.items old.queue.items → Closes stage n (length old.slots.items) after → come' ≡ come → links' ≡ links → OnOk r (ShutsSlot old n new) → OnErr r (new.journal.items ≡ old.journal.items) →
    Went tells (desk_of come links old stage) old.journal.items (desk_of come' links' new after) new.journal.items links' r
close_went tells come come' links links' old new n stage after (Ok v) p calm may c l h k = λ told.
    subst (λ t. Leads (desk_of come links old stage) old.journal.items t new.journal.items)
    (sym (rest_is come come' (peers_of new.slots.items links') old new after h.rest c
    ∙ ap (λ (x : List LinkState). desk_with come (peers_of new.slots.items x) old.queue.items old.turn old.took after) l))
    (leads_one _ _ old.journal.items new.journal.items (event.Gone n)
    (closed come links old.slots.items new.slots.items old.queue.items old.turn old.took stage after n p.same calm may h.slots) h.journal)
close_went tells come come' links links' old new n stage after (Err x) p calm may c l h k = λ told.
    served_stay _ old.journal.items new.journal.items links' k (subst (AreWritten (peers_of old.slots.items links)) (sym l) (written-peers old.slots.items links p.same))

pub close_paired : {A : Type 0} (links links' : List LinkState) (old new : Front) (n : ℕ) (r : Result A Stop) → IsPairedFront old links → links' ≡ links → OnOk r (ShutsSlot old n new) → StaysPaired new links' r
close_paired links links' old new n (Ok v) p l h =
    subst (λ q. IsPaired new.slots.items q.items links') (sym h.rest.queue)
    (paired_keep old.slots.items new.slots.items old.queue.items links links' p (length-change n old.slots.items new.slots.items Shuts h.slots) (ap (λ (x : List LinkState). length x) l))
close_paired links links' old new n (Err x) p l h = tt

-- ---- bytes are read

pub fill_went : {A : Type 0} (tells : Bool) (come come' : List (Option (List ℕ))) (links links' : List LinkState) (old new : Front) (n count : ℕ) (buffer bytes : List ℕ) (r : Result A Stop) →
    IsPairedFront old links → come' ≡ come → Changes n links links' (λ before after. OneRead tells before after buffer (read.Bytes count)) → bytes ≡ take count buffer →
    OnOk r (HoldsBytes old n bytes new) → OnErr r (new.journal.items ≡ old.journal.items) →
    Went tells (desk_of come links old taking) old.journal.items (desk_of come' links' new taking) new.journal.items links' r
fill_went tells come come' links links' old new n count buffer bytes (Ok v) p c d b h k = λ told.
    let peers : peers_of new.slots.items links' ≡ peers_of old.slots.items links =
    filled links links' old.slots.items new.slots.items n bytes _ d (ap (λ (x : LinkState). x.written) d.how.3) (d.how.4 told ∙ ap (λ (x : List ℕ). x ++ (d.after).left) (sym b)) h.slots in
    leads_stay _ _ old.journal.items new.journal.items
    (rest_is come come' (peers_of new.slots.items links') old new taking h.rest c
    ∙ ap (λ (x : List Peer). desk_with come x old.queue.items old.turn old.took taking) peers)
    (ap (λ x. x.items) h.journal)
fill_went tells come come' links links' old new n count buffer bytes (Err x) p c d b h k = λ told.
    served_stay _ old.journal.items new.journal.items links' k
    (subst (AreWritten (peers_of old.slots.items links)) (sym d.is) (written-set (peers_of old.slots.items links) links n d.before d.after d.there (ap (λ (x : LinkState). x.written) d.how.3) (written-peers old.slots.items links p.same)))

pub fill_paired : {A : Type 0} (links links' : List LinkState) (old new : Front) (n : ℕ) (bytes : List ℕ) (How : LinkState → LinkState → Type 0) (r : Result A Stop) → IsPairedFront old links → Changes n links links' How → OnOk r (HoldsBytes old n bytes new) → StaysPaired new links' r
fill_paired links links' old new n bytes How (Ok v) p d h =
    subst (λ q. IsPaired new.slots.items q.items links') (sym h.rest.queue)
    (paired_keep old.slots.items new.slots.items old.queue.items links links' p (length-change n old.slots.items new.slots.items (Holds bytes) h.slots) (length-change n links links' How d))
fill_paired links links' old new n bytes How (Err x) p d h = tt

-- a slot that is as open as before is as calm
calm_kept : (old new : Front) (n : ℕ) (How : Slot → Slot → Type 0) → IsCalm n old.slots.items old.queue.items → (d : Changes n old.slots.items new.slots.items How) → (d.after).is_open ≡ (d.before).is_open → new.queue ≡ old.queue → IsCalm n new.slots.items new.queue.items
calm_kept old new n How i d o q =
    let b : d.before ≡ i.slot = same_Some d.before i.slot (sym d.there ∙ i.there) in
    record {
      slot = d.after;
      there = set_there n old.slots.items new.slots.items How d;
      is_open = o ∙ ap (λ (x : Slot). x.is_open) b ∙ i.is_open;
      free = ap (λ x. waits n x.items) q ∙ i.free;
    }

pub fill_idle : {A : Type 0} (old new : Front) (n : ℕ) (bytes : List ℕ) (r : Result A Stop) → IsIdle n old.slots.items old.queue.items → OnOk r (HoldsBytes old n bytes new) → OnOk r (IsIdle n new.slots.items new.queue.items)
fill_idle old new n bytes (Ok v) i h =
    let d = h.slots in
    let b : d.before ≡ i.slot = same_Some d.before i.slot (sym d.there ∙ i.there) in
    record {
      slot = d.after;
      there = set_there n old.slots.items new.slots.items (Holds bytes) d;
      is_open = d.how.is_open ∙ ap (λ (x : Slot). x.is_open) b ∙ i.is_open;
      goes_on = d.how.is_last ∙ ap (λ (x : Slot). x.is_last) b ∙ i.goes_on;
      free = ap (λ x. waits n x.items) h.rest.queue ∙ i.free;
    }
fill_idle old new n bytes (Err x) i h = tt

pub idle_in : (slots slots' : List Slot) (queue queue' : List Waiting) (n : ℕ) → slots' ≡ slots → queue' ≡ queue → IsIdle n slots' queue' → IsIdle n slots queue
idle_in slots slots' queue queue' n p q i = subst (λ x. IsIdle n x queue) p (subst (λ y. IsIdle n slots' y) q i)

pub calm_of : (slots : List Slot) (queue : List Waiting) (n : ℕ) → IsIdle n slots queue → IsCalm n slots queue
calm_of slots queue n i = record { slot = i.slot; there = i.there; is_open = i.is_open; free = i.free }

-- a call that moved no byte
pub moved_none : (come come' : List (Option (List ℕ))) (links links' : List LinkState) (f : Front) (stage : Stage) (n : ℕ) (How : LinkState → LinkState → Type 0) → come' ≡ come → (d : Changes n links links' How) → (d.after).left ≡ (d.before).left → (d.after).written ≡ (d.before).written →
    Leads (desk_of come links f stage) f.journal.items (desk_of come' links' f stage) f.journal.items
moved_none come come' links links' f stage n How c d l w =
    leads_stay _ _ f.journal.items f.journal.items
    (ap (λ (x : List (Option (List ℕ))). desk_of x links' f stage) c
    ∙ ap (λ (x : List LinkState). desk_of come x f stage) d.is
    ∙ ap (λ (x : List Peer). desk_with come x f.queue.items f.turn f.took stage) (peers_same_link f.slots.items links n d.before d.after d.there l w)) refl

-- ---- bytes are written

pub send_went : {A : Type 0} (tells : Bool) (come come' : List (Option (List ℕ))) (links links' : List LinkState) (old new : Front) (n count : ℕ) (slot : Slot) (bytes : List ℕ) (r : Result A Stop) →
    IsPairedFront old links → come' ≡ come → slice_get old.slots.items n ≡ Some slot → bytes ≡ slot.output.items → Changes n links links' (λ before after. OneWrite tells before after bytes (write.Wrote count)) →
    OnOk r (SendsFront old n count new) → OnErr r (new.journal.items ≡ old.journal.items) →
    Went tells (desk_of come links old sending) old.journal.items (desk_of come' links' new sending) new.journal.items links' r
send_went tells come come' links links' old new n count slot bytes (Ok v) p c there b d h k = λ told.
    let x = h.slots in
    let i : x.before ≡ slot = same_Some x.before slot (sym x.there ∙ there) in
    let w : (d.after).written ≡ (d.before).written ++ take count (x.before).output.items = d.how.3 told ∙ ap (λ (l : List ℕ). (d.before).written ++ take count l) (b ∙ ap (λ (z : Slot). z.output.items) (sym i)) in
    leads_stay _ _ old.journal.items new.journal.items
    (rest_is come come' (peers_of new.slots.items links') old new sending h.rest c
    ∙ ap (λ (z : List Peer). desk_with come z old.queue.items old.turn old.took sending)
    (passed_on links links' old.slots.items new.slots.items n count _ d x (ap (λ (l : LinkState). l.left) d.how.2) w))
    (ap (λ z. z.items) h.journal)
send_went tells come come' links links' old new n count slot bytes (Err v) p c there b d h k = λ told.
    served_stay _ old.journal.items new.journal.items links' k
    (subst (AreWritten (peers_of old.slots.items links)) (sym d.is)
    (written_more old.slots.items links n count slot d.before d.after p.same there d.there (d.how.3 told ∙ ap (λ (l : List ℕ). (d.before).written ++ take count l) b)))

pub send_paired : {A : Type 0} (links links' : List LinkState) (old new : Front) (n count : ℕ) (How : LinkState → LinkState → Type 0) (r : Result A Stop) → IsPairedFront old links → Changes n links links' How → OnOk r (SendsFront old n count new) → StaysPaired new links' r
send_paired links links' old new n count How (Ok v) p d h =
    subst (λ q. IsPaired new.slots.items q.items links') (sym h.rest.queue)
    (paired_keep old.slots.items new.slots.items old.queue.items links links' p (length-change n old.slots.items new.slots.items (Sends count) h.slots) (length-change n links links' How d))
send_paired links links' old new n count How (Err v) p d h = tt

pub send_calm : {A : Type 0} (old new : Front) (n count : ℕ) (r : Result A Stop) → IsCalm n old.slots.items old.queue.items → OnOk r (SendsFront old n count new) → OnOk r (IsCalm n new.slots.items new.queue.items)
send_calm old new n count (Ok v) i h = calm_kept old new n (Sends count) i h.slots (h.slots).how.is_open h.rest.queue
send_calm old new n count (Err x) i h = tt

pub calm_in : (slots slots' : List Slot) (queue queue' : List Waiting) (n : ℕ) → slots' ≡ slots → queue' ≡ queue → IsCalm n slots' queue' → IsCalm n slots queue
calm_in slots slots' queue queue' n p q i = subst (λ x. IsCalm n x queue) p (subst (λ y. IsCalm n slots' y) q i)

-- ---- a link that is too many

pub at_stage : (s : Desk) (i k : List NodeEvent) (come : List (Option (List ℕ))) (links : List LinkState) (f : Front) (many known : Bool) → many ≡ known →
    Leads s i (desk_of come links f (stage_with {E = Stop} (Ok many))) k → Leads s i (desk_of come links f (stage_with {E = Stop} (Ok known))) k
at_stage s i k come links f many known e p = subst (λ b. Leads s i (desk_of come links f (stage_with {E = Stop} (Ok b))) k) e p

pub last_calm : (slots slots' : List Slot) (queue : List Waiting) → slots' ≡ slots → HasCalmLast slots queue → (suc (length slots' - 1) ≡ length slots) × IsCalm (length slots' - 1) slots queue
last_calm slots slots' queue e h =
    let l : length slots' ≡ length slots = ap (λ (x : List Slot). length x) e in
    let p : length slots' - 1 ≡ h.place = omega (arith, l, h.is_last) in
    (omega (arith, l, h.is_last), subst (λ (n : ℕ). IsCalm n slots queue) (sym p) h.calm)
