-- Taking what the bytes of a link begin with is the row of the event.
use Rattle.std.proofs.Common.{◌≡◌, ℕ, zero, suc, ◌<◌, Bool, true, List, [], ◌∷◌, ◌++◌, length, take, drop, Option, Some, slice_get, slice_set, Result, Ok, Err, OnOk, OnErr, sym, ap, ◌∙◌, subst, refl, arith, append_assoc}
use Rattle.std.proofs.lemmas.List.{append-nil, take-append-le, drop-append-le}
use Rattle.std.proofs.lemmas.Option.{same_Some, slice_get_within}
use Rattle.ante_links.specs.LinkStates.{LinkState}
use Rattle.ante_links.specs.Links.{Changes}
use Rattle.ante_http.specs.declared.answer.RequestSpan.{RequestSpan}
use Rattle.ante_http.specs.declared.answer.HeadKind.{HeadKind}
use Rattle.ante_http.specs.Requests.{IsRequest, IsBad}
use Rattle.ante_http.proofs.Stays.{request-append, bad-append}
use Rattle.ante_json.specs.declared.request.ApiRequest.{ApiRequest}
use Rattle.ante_json.specs.declared.fault.ApiFault.{ApiFault}
use Rattle.ante_api.specs.declared.reply.ApiReply.TheVariants.{Fault}
use Rattle.ante_api.specs.Routes.{Routes, head_fault}
use Rattle.ante_api.specs.Rendered.{rendered}
use Rattle.ante_journal.specs.declared.event.NodeEvent.TheVariants as event
use Rattle.ante_journal.specs.declared.waiting.Waiting.{Waiting}
use Rattle.ante_journal.specs.Desk.{Peer, taking, DeskRow, Asking, waiting, refused, Asks, said_by, queued_by, IsFree}
use Rattle.ante_driver.specs.declared.front.Slot.{Slot}
use Rattle.ante_driver.specs.declared.front.Stop.{Stop}
use Rattle.ante_driver.specs.declared.front.Front.{Front}
use Rattle.ante_driver.specs.Shown.{peer_of, peers_of, desk_with, desk_of, IsPaired, IsPairedFront, IsIdle, Leads, Went, StaysPaired}
use Rattle.ante_driver.specs.Slots.{Splits, Takes, Says, SaysLast}
use Rattle.ante_driver.specs.Fronts.{BeginsWith, IsBadAt, QueuesUp, Refuses, AnswersBad}
use Rattle.ante_driver.proofs.Places.{length-change, set_there}
use Rattle.ante_driver.proofs.Runs.{leads_one, served_stay}
use Rattle.ante_driver.proofs.Peers.{peer_is, peers_get, peers_set_slot, written-peers}
use Rattle.ante_driver.proofs.Paired.{paired_keep, paired_push}
use Rattle.ante_driver.proofs.Steps.{link_at, rest_is}

set_set : {A : Type 0} (xs : List A) (n : ℕ) (x y : A) → slice_set (slice_set xs n x) n y ≡ slice_set xs n y
set_set [] n x y = refl
set_set (a ∷ xs) zero x y = refl
set_set (a ∷ xs) (suc n) x y = ap (λ (l : List _). a ∷ l) (set_set xs n x y)

-- ---- the slot

pub only_split : (slots mid : List Slot) (n count : ℕ) (close : Bool) (front : List ℕ) → Changes n slots mid (Splits front count close) → Changes n slots mid (Takes count close [])
only_split slots mid n count close front c = record {
  before = c.before;
  after = c.after;
  there = c.there;
  is = c.is;
  how = record { held = c.how.held; output = c.how.output ∙ sym (append-nil (c.before).output.items); is_open = c.how.is_open; is_last = c.how.is_last };
}

pub split_says : (slots mid slots' : List Slot) (n count : ℕ) (close : Bool) (front reply : List ℕ) → Changes n slots mid (Splits front count close) → Changes n mid slots' (Says reply) → Changes n slots slots' (Takes count close reply)
split_says slots mid slots' n count close front reply c d =
    let b : d.before ≡ c.after = same_Some d.before c.after (sym d.there ∙ set_there n slots mid (Splits front count close) c) in
    record {
      before = c.before;
      after = d.after;
      there = c.there;
      is = d.is ∙ ap (λ (l : List Slot). slice_set l n d.after) c.is ∙ set_set slots n c.after d.after;
      how = record {
        held = d.how.held ∙ ap (λ (s : Slot). s.held.items) b ∙ c.how.held;
        output = d.how.output ∙ ap (λ (s : Slot). s.output.items ++ reply) b ∙ ap (λ (l : List ℕ). l ++ reply) c.how.output;
        is_open = d.how.is_open ∙ ap (λ (s : Slot). s.is_open) b ∙ c.how.is_open;
        is_last = d.how.is_last ∙ ap (λ (s : Slot). s.is_last) b ∙ c.how.is_last;
      };
    }

-- ---- the rows

free_of : (come : List (Option (List ℕ))) (links : List LinkState) (slots : List Slot) (queue : List Waiting) (turn : ℕ) (took : Bool) (n : ℕ) (l : LinkState) (idle : IsIdle n slots queue) → slice_get links n ≡ Some l →
    IsFree (desk_with come (peers_of slots links) queue turn took taking) n (peer_of idle.slot l)
free_of come links slots queue turn took n l idle e = record {
  quiet = record { there = peers_get slots links n idle.slot l idle.there e; is_open = idle.is_open; free = idle.free };
  goes_on = idle.goes_on;
  stage = refl;
}

-- the first bytes that a slot holds are a request
pub taken : (come : List (Option (List ℕ))) (links : List LinkState) (slots slots' : List Slot) (queue queue' : List Waiting) (turn : ℕ) (took : Bool) (n count : ℕ) (span : RequestSpan) (front : List ℕ) (asking : Asking) →
    length slots ≡ length links → (idle : IsIdle n slots queue) → IsRequest (idle.slot).held.items span count → front ≡ take count (idle.slot).held.items → Asks front span asking →
    Changes n slots slots' (Takes count span.close (said_by asking span.close)) → queue' ≡ queue ++ queued_by asking n span.close →
    DeskRow (desk_with come (peers_of slots links) queue turn took taking) (event.Taken n count) (desk_with come (peers_of slots' links) queue' turn true taking)
taken come links slots slots' queue queue' turn took n count span front asking same idle whole f asks c q =
    let k = link_at slots links n idle.slot idle.there same in
    let held : List ℕ = (idle.slot).held.items in
    let left : List ℕ = (k.0).left in
    let b : c.before ≡ idle.slot = same_Some c.before idle.slot (sym c.there ∙ idle.there) in
    let p : Peer = peer_of idle.slot k.0 in
    let after : Peer = record { rest = drop count (held ++ left); is_open = p.is_open; is_last = span.close; said = p.said ++ said_by asking span.close } in
    let e : peer_of c.after k.0 ≡ after = peer_is (peer_of c.after k.0) after
    (ap (λ (x : List ℕ). x ++ left) (c.how.held ∙ ap (λ (x : Slot). drop count x.held.items) b) ∙ sym (drop-append-le count held left whole.whole))
    (c.how.is_open ∙ ap (λ (x : Slot). x.is_open) b) c.how.is_last
    (ap (λ (x : List ℕ). (k.0).written ++ x) (c.how.output ∙ ap (λ (x : Slot). x.output.items ++ said_by asking span.close) b) ∙ sym (append_assoc (k.0).written (idle.slot).output.items (said_by asking span.close))) in
    let ps : peers_of slots' links ≡ slice_set (peers_of slots links) n after =
    ap (λ (x : List Slot). peers_of x links) c.is ∙ peers_set_slot slots links n c.after k.0 k.1 ∙ ap (λ (x : Peer). slice_set (peers_of slots links) n x) e in
    let t : front ≡ take count (held ++ left) = f ∙ sym (take-append-le count held left whole.whole) in (
      p,
      span,
      asking,
      free_of come links slots queue turn took n k.0 idle k.1,
      request-append held left span count whole,
      subst (λ (x : List ℕ). Asks x span asking) t asks,
      ap (λ (x : List Peer). desk_with come x queue' turn true taking) ps
          ∙ ap (λ (x : List Waiting). desk_with come (slice_set (peers_of slots links) n after) x turn true taking) q,
    )

-- or they are Bad
pub was_bad : (come : List (Option (List ℕ))) (links : List LinkState) (slots slots' : List Slot) (queue : List Waiting) (turn : ℕ) (took : Bool) (n count : ℕ) (kind : HeadKind) →
    length slots ≡ length links → (idle : IsIdle n slots queue) → IsBad (idle.slot).held.items kind count → Changes n slots slots' (SaysLast (rendered (Fault (head_fault kind)) true)) →
    DeskRow (desk_with come (peers_of slots links) queue turn took taking) (event.Bad n count) (desk_with come (peers_of slots' links) queue turn took taking)
was_bad come links slots slots' queue turn took n count kind same idle bad c =
    let k = link_at slots links n idle.slot idle.there same in
    let reply : List ℕ = rendered (Fault (head_fault kind)) true in
    let b : c.before ≡ idle.slot = same_Some c.before idle.slot (sym c.there ∙ idle.there) in
    let p : Peer = peer_of idle.slot k.0 in
    let after : Peer = record { rest = p.rest; is_open = p.is_open; is_last = true; said = p.said ++ reply } in
    let e : peer_of c.after k.0 ≡ after = peer_is (peer_of c.after k.0) after
    (ap (λ (x : List ℕ). x ++ (k.0).left) (c.how.held ∙ ap (λ (x : Slot). x.held.items) b))
    (c.how.is_open ∙ ap (λ (x : Slot). x.is_open) b) c.how.is_last
    (ap (λ (x : List ℕ). (k.0).written ++ x) (c.how.output ∙ ap (λ (x : Slot). x.output.items ++ reply) b) ∙ sym (append_assoc (k.0).written (idle.slot).output.items reply)) in
    let ps : peers_of slots' links ≡ slice_set (peers_of slots links) n after =
    ap (λ (x : List Slot). peers_of x links) c.is ∙ peers_set_slot slots links n c.after k.0 k.1 ∙ ap (λ (x : Peer). slice_set (peers_of slots links) n x) e in
    (p, kind, free_of come links slots queue turn took n k.0 idle k.1, bad-append (idle.slot).held.items (k.0).left kind count bad, ap (λ (x : List Peer). desk_with come x queue turn took taking) ps)

-- ---- the contracts

same_slot : (n : ℕ) (slots : List Slot) (queue : List Waiting) (s : Slot) (idle : IsIdle n slots queue) → slice_get slots n ≡ Some s → s ≡ idle.slot
same_slot n slots queue s idle e = same_Some s idle.slot (sym e ∙ idle.there)

pub whole_held : (n count : ℕ) (slots : List Slot) (queue : List Waiting) (span : RequestSpan) (idle : IsIdle n slots queue) → BeginsWith n slots span count → IsRequest (idle.slot).held.items span count
whole_held n count slots queue span idle w = subst (λ (s : Slot). IsRequest s.held.items span count) (same_slot n slots queue w.slot idle w.there) w.whole

pub queue_went : (tells : Bool) (come : List (Option (List ℕ))) (links : List LinkState) (old mid new : Front) (n count : ℕ) (span : RequestSpan) (front : List ℕ) (request : ApiRequest) (r : Result Bool Stop) →
    IsPairedFront old links → IsIdle n old.slots.items old.queue.items → BeginsWith n old.slots.items span count →
    Changes n old.slots.items mid.slots.items (Splits front count span.close) → mid.queue ≡ old.queue → mid.turn ≡ old.turn → mid.journal ≡ old.journal → Routes front span (Ok request) →
    OnOk r (QueuesUp mid n count span.close request new) → OnErr r (new.journal.items ≡ mid.journal.items) →
    Went tells (desk_of come links old taking) old.journal.items (desk_of come links new taking) new.journal.items links r
queue_went tells come links old mid new n count span front request (Ok v) p idle w c mq mt mj route h k = λ told.
    let b : c.before ≡ idle.slot = same_slot n old.slots.items old.queue.items c.before idle c.there in
    let asking : Asking = waiting (Some request) in
    subst (λ t. Leads (desk_of come links old taking) old.journal.items t new.journal.items)
    (sym (ap (λ x. desk_with come (peers_of x.items links) new.queue.items new.turn new.took taking) h.slots
    ∙ ap (λ (x : ℕ). desk_with come (peers_of mid.slots.items links) new.queue.items x new.took taking) (h.turn ∙ mt)
    ∙ ap (λ (x : Bool). desk_with come (peers_of mid.slots.items links) new.queue.items old.turn x taking) h.took))
    (leads_one _ _ old.journal.items new.journal.items (event.Taken n count)
    (taken come links old.slots.items mid.slots.items old.queue.items new.queue.items old.turn old.took n count span front asking p.same idle (whole_held n count old.slots.items old.queue.items span idle w)
    (c.how.front_is ∙ ap (λ (s : Slot). take count s.held.items) b) route (only_split old.slots.items mid.slots.items n count span.close front c)
    (h.queue ∙ ap (λ x. x.items ++ queued_by asking n span.close) mq))
    (h.journal ∙ ap (λ x. x.items ++ event.Taken n count ∷ []) mj))
queue_went tells come links old mid new n count span front request (Err x) p idle w c mq mt mj route h k = λ told.
    served_stay _ old.journal.items new.journal.items links (k ∙ ap (λ x. x.items) mj) (written-peers old.slots.items links p.same)

pub refuse_went : (tells : Bool) (come : List (Option (List ℕ))) (links : List LinkState) (old mid new : Front) (n count : ℕ) (span : RequestSpan) (front : List ℕ) (fault : ApiFault) (r : Result Bool Stop) →
    IsPairedFront old links → IsIdle n old.slots.items old.queue.items → BeginsWith n old.slots.items span count →
    Changes n old.slots.items mid.slots.items (Splits front count span.close) → mid.queue ≡ old.queue → mid.turn ≡ old.turn → mid.journal ≡ old.journal → Routes front span (Err fault) →
    OnOk r (Refuses mid n count span.close fault new) → OnErr r (new.journal.items ≡ mid.journal.items) →
    Went tells (desk_of come links old taking) old.journal.items (desk_of come links new taking) new.journal.items links r
refuse_went tells come links old mid new n count span front fault (Ok v) p idle w c mq mt mj route h k = λ told.
    let b : c.before ≡ idle.slot = same_slot n old.slots.items old.queue.items c.before idle c.there in
    let asking : Asking = refused fault in
    subst (λ t. Leads (desk_of come links old taking) old.journal.items t new.journal.items)
    (sym (ap (λ (x : ℕ). desk_with come (peers_of new.slots.items links) new.queue.items x new.took taking) (h.turn ∙ mt)
    ∙ ap (λ (x : Bool). desk_with come (peers_of new.slots.items links) new.queue.items old.turn x taking) h.took))
    (leads_one _ _ old.journal.items new.journal.items (event.Taken n count)
    (taken come links old.slots.items new.slots.items old.queue.items new.queue.items old.turn old.took n count span front asking p.same idle (whole_held n count old.slots.items old.queue.items span idle w)
    (c.how.front_is ∙ ap (λ (s : Slot). take count s.held.items) b) (route, h.other) (split_says old.slots.items mid.slots.items new.slots.items n count span.close front _ c h.slots)
    (ap (λ x. x.items) (h.queue ∙ mq) ∙ sym (append-nil old.queue.items)))
    (h.journal ∙ ap (λ x. x.items ++ event.Taken n count ∷ []) mj))
refuse_went tells come links old mid new n count span front fault (Err x) p idle w c mq mt mj route h k = λ told.
    served_stay _ old.journal.items new.journal.items links (k ∙ ap (λ x. x.items) mj) (written-peers old.slots.items links p.same)

pub queue_paired : (links : List LinkState) (old mid new : Front) (n count : ℕ) (close : Bool) (front : List ℕ) (request : ApiRequest) (r : Result Bool Stop) →
    IsPairedFront old links → IsIdle n old.slots.items old.queue.items → Changes n old.slots.items mid.slots.items (Splits front count close) → mid.queue ≡ old.queue → OnOk r (QueuesUp mid n count close request new) → StaysPaired new links r
queue_paired links old mid new n count close front request (Ok v) p idle c mq h =
    let w : Waiting = record { link = n; close = close; asked = Some request } in
    let l = length-change n old.slots.items mid.slots.items (Splits front count close) c in
    let q : IsPaired mid.slots.items old.queue.items links = paired_keep old.slots.items mid.slots.items old.queue.items links links p l refl in
    let within : n < length mid.slots.items = omega (arith, slice_get_within old.slots.items n idle.slot idle.there, l) in
    subst (λ x. IsPaired x.items new.queue.items links) (sym h.slots)
    (paired_push mid.slots.items old.queue.items new.queue.items links w q within (h.queue ∙ ap (λ x. x.items ++ w ∷ []) mq))
queue_paired links old mid new n count close front request (Err x) p idle c mq h = tt

pub refuse_paired : (links : List LinkState) (old mid new : Front) (n count : ℕ) (close : Bool) (front : List ℕ) (fault : ApiFault) (r : Result Bool Stop) →
    IsPairedFront old links → Changes n old.slots.items mid.slots.items (Splits front count close) → mid.queue ≡ old.queue → OnOk r (Refuses mid n count close fault new) → StaysPaired new links r
refuse_paired links old mid new n count close front fault (Ok v) p c mq h =
    subst (λ q. IsPaired new.slots.items q.items links) (sym (h.queue ∙ mq))
    (paired_keep old.slots.items new.slots.items old.queue.items links links p
    (length-change n mid.slots.items new.slots.items _ h.slots ∙ length-change n old.slots.items mid.slots.items (Splits front count close) c) refl)
refuse_paired links old mid new n count close front fault (Err x) p c mq h = tt

pub bad_went : (tells : Bool) (come : List (Option (List ℕ))) (links : List LinkState) (old new : Front) (n count : ℕ) (kind : HeadKind) (r : Result Bool Stop) →
    IsPairedFront old links → IsIdle n old.slots.items old.queue.items → IsBadAt n old.slots.items kind count → OnOk r (AnswersBad old n count kind new) → OnErr r (new.journal.items ≡ old.journal.items) →
    Went tells (desk_of come links old taking) old.journal.items (desk_of come links new taking) new.journal.items links r
bad_went tells come links old new n count kind (Ok v) p idle w h k = λ told.
    subst (λ t. Leads (desk_of come links old taking) old.journal.items t new.journal.items)
    (sym (rest_is come come (peers_of new.slots.items links) old new taking h.rest refl))
    (leads_one _ _ old.journal.items new.journal.items (event.Bad n count)
    (was_bad come links old.slots.items new.slots.items old.queue.items old.turn old.took n count kind p.same idle
    (subst (λ (s : Slot). IsBad s.held.items kind count) (same_slot n old.slots.items old.queue.items w.slot idle w.there) w.bad) h.slots)
    h.journal)
bad_went tells come links old new n count kind (Err x) p idle w h k = λ told.
    served_stay _ old.journal.items new.journal.items links k (written-peers old.slots.items links p.same)

pub bad_paired : (links : List LinkState) (old new : Front) (n count : ℕ) (kind : HeadKind) (r : Result Bool Stop) → IsPairedFront old links → OnOk r (AnswersBad old n count kind new) → StaysPaired new links r
bad_paired links old new n count kind (Ok v) p h =
    subst (λ q. IsPaired new.slots.items q.items links) (sym h.rest.queue)
    (paired_keep old.slots.items new.slots.items old.queue.items links links p (length-change n old.slots.items new.slots.items _ h.slots) refl)
bad_paired links old new n count kind (Err x) p h = tt
