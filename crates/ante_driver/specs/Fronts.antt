-- What small calls do to the driver's data.
use Rattle.std.specs.Prelude.{◌≡◌, ℕ, Bool, true, false, nat_le, List, [], ◌∷◌, ◌++◌, slice_get, Some, Result, Ok, Err}
use Rattle.ante_links.specs.Links.{Changes}
use Rattle.ante_http.specs.declared.answer.RequestSpan.{RequestSpan}
use Rattle.ante_http.specs.declared.answer.HeadKind.{HeadKind}
use Rattle.ante_http.specs.Requests.{IsRequest, IsBad}
use Rattle.ante_json.specs.declared.request.ApiRequest.{ApiRequest}
use Rattle.ante_json.specs.declared.fault.ApiFault.{ApiFault}
use Rattle.ante_api.specs.declared.reply.ApiReply.TheVariants.{Fault}
use Rattle.ante_api.specs.Routes.{head_fault}
use Rattle.ante_api.specs.Rendered.{rendered}
use Rattle.ante_journal.specs.declared.event.NodeEvent.TheVariants as event
use Rattle.ante_journal.specs.Desk.{Stage, taking, crowded, most_open, wants_memory}
use Rattle.ante_driver.specs.declared.front.Slot.{Slot}
use Rattle.ante_driver.specs.declared.front.Front.{Front}
use Rattle.ante_driver.specs.Slots.{Holds, Says, SaysLast, Shuts, Sends, open_slots}

-- A link more, and whether it is too many.
pub record AddsSlot (old : Front) (is_crowded : Bool) (new : Front) : Type 0 where
  pub slot : Slot
  pub slots : new.slots.items ≡ old.slots.items ++ slot ∷ []
  pub held : slot.held.items ≡ []
  pub output : slot.output.items ≡ []
  pub is_open : slot.is_open ≡ true
  pub is_last : slot.is_last ≡ false
  pub queue : new.queue ≡ old.queue
  pub turn : new.turn ≡ old.turn
  pub took : new.took ≡ old.took
  pub journal : new.journal.items ≡ old.journal.items ++ event.Link old.turn ∷ []
  pub crowds : is_crowded ≡ nat_le most_open (open_slots old.slots.items)

-- where the turn is after a link came
abbrev pub stage_with : {E : Type 0} → Result Bool E → Stage
stage_with (Ok true) = crowded
stage_with (Ok false) = taking
stage_with (Err e) = taking

-- All but slot n and the journal stay.
pub record KeepsRest (old new : Front) : Type 0 where
  pub queue : new.queue ≡ old.queue
  pub turn : new.turn ≡ old.turn
  pub took : new.took ≡ old.took

pub record HoldsBytes (old : Front) (link : ℕ) (bytes : List ℕ) (new : Front) : Type 0 where
  pub slots : Changes link old.slots.items new.slots.items (Holds bytes)
  pub rest : KeepsRest old new
  pub journal : new.journal ≡ old.journal

pub record ShutsSlot (old : Front) (link : ℕ) (new : Front) : Type 0 where
  pub slots : Changes link old.slots.items new.slots.items Shuts
  pub rest : KeepsRest old new
  pub journal : new.journal.items ≡ old.journal.items ++ event.Gone link ∷ []

pub record SendsFront (old : Front) (link count : ℕ) (new : Front) : Type 0 where
  pub slots : Changes link old.slots.items new.slots.items (Sends count)
  pub rest : KeepsRest old new
  pub journal : new.journal ≡ old.journal

-- What slot n holds begins with this request ..
pub record BeginsWith (n : ℕ) (slots : List Slot) (span : RequestSpan) (count : ℕ) : Type 0 where
  pub slot : Slot
  pub there : slice_get slots n ≡ Some slot
  pub whole : IsRequest slot.held.items span count

-- .. or is Bad.
pub record IsBadAt (n : ℕ) (slots : List Slot) (kind : HeadKind) (count : ℕ) : Type 0 where
  pub slot : Slot
  pub there : slice_get slots n ≡ Some slot
  pub bad : IsBad slot.held.items kind count

pub record QueuesUp (old : Front) (link length : ℕ) (close : Bool) (request : ApiRequest) (new : Front) : Type 0 where
  pub slots : new.slots ≡ old.slots
  pub queue : new.queue.items ≡ old.queue.items ++ record { link = link; close = close; asked = Some request } ∷ []
  pub turn : new.turn ≡ old.turn
  pub took : new.took ≡ true
  pub journal : new.journal.items ≡ old.journal.items ++ event.Taken link length ∷ []

pub record Refuses (old : Front) (link length : ℕ) (close : Bool) (fault : ApiFault) (new : Front) : Type 0 where
  pub other : wants_memory fault ≡ false
  pub slots : Changes link old.slots.items new.slots.items (Says (rendered (Fault fault) close))
  pub queue : new.queue ≡ old.queue
  pub turn : new.turn ≡ old.turn
  pub took : new.took ≡ true
  pub journal : new.journal.items ≡ old.journal.items ++ event.Taken link length ∷ []

pub record AnswersBad (old : Front) (link length : ℕ) (kind : HeadKind) (new : Front) : Type 0 where
  pub slots : Changes link old.slots.items new.slots.items (SaysLast (rendered (Fault (head_fault kind)) true))
  pub rest : KeepsRest old new
  pub journal : new.journal.items ≡ old.journal.items ++ event.Bad link length ∷ []
