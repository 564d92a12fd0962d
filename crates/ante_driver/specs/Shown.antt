-- The desk that the driver's own data and the links stand for, and what a call promises.
use Rattle.std.specs.Prelude.{◌≡◌, ℕ, suc, ◌<◌, ◌≤◌, Bool, IsTrue, true, false, List, [], ◌∷◌, ◌++◌, length, slice_get, Option, Some, Result, Ok, Err}
use Rattle.std.specs.List.{AllByRecursion}
use Rattle.ante_links.specs.LinkStates.{LinkState}
use Rattle.ante_journal.specs.declared.event.NodeEvent.{NodeEvent}
use Rattle.ante_journal.specs.declared.waiting.Waiting.{Waiting}
use Rattle.ante_journal.specs.Desk.{Peer, Stage, Desk, Move, DeskStep, Runs, journal_of, waits}
use Rattle.ante_driver.specs.declared.front.Slot.{Slot}
use Rattle.ante_driver.specs.declared.front.Front.{Front}

-- What is read and not taken comes before what is left, and what is written before what is still to be written.
abbrev pub peer_of : Slot → LinkState → Peer
peer_of slot l = record { rest = slot.held.items ++ l.left; is_open = slot.is_open; is_last = slot.is_last; said = l.written ++ slot.output.items }

abbrev pub peers_of : List Slot → List LinkState → List Peer
peers_of [] links = []
peers_of (slot ∷ slots) [] = []
peers_of (slot ∷ slots) (l ∷ links) = peer_of slot l ∷ peers_of slots links

abbrev pub desk_with : List (Option (List ℕ)) → List Peer → List Waiting → (turn : ℕ) → (took : Bool) → Stage → Desk
desk_with come peers queue turn took stage = record { to_come = come; peers = peers; queue = queue; turn = turn; took = took; stage = stage }

abbrev pub desk_of : List (Option (List ℕ)) → List LinkState → Front → Stage → Desk
desk_of come links f stage = desk_with come (peers_of f.slots.items links) f.queue.items f.turn f.took stage

-- Each slot has its link, and what waits has a slot.
pub record IsPaired (slots : List Slot) (queue : List Waiting) (links : List LinkState) : Type 0 where
  pub same : length slots ≡ length links
  pub few : length links ≤ 4294967295
  pub numbered : AllByRecursion (λ w. w.link < length links) queue

abbrev pub IsPairedFront : Front → List LinkState → Type 0
IsPairedFront f links = IsPaired f.slots.items f.queue.items links

-- Link n is open, and nothing waits on it.
pub record IsCalm (n : ℕ) (slots : List Slot) (queue : List Waiting) : Type 0 where
  pub slot : Slot
  pub there : slice_get slots n ≡ Some slot
  pub is_open : slot.is_open ≡ true
  pub free : waits n queue ≡ false

-- The last link is so.
pub record HasCalmLast (slots : List Slot) (queue : List Waiting) : Type 0 where
  pub place : ℕ
  pub is_last : suc place ≡ length slots
  pub calm : IsCalm place slots queue

-- It is calm, and its last reply doesn't close it.
pub record IsIdle (n : ℕ) (slots : List Slot) (queue : List Waiting) : Type 0 where
  pub slot : Slot
  pub there : slice_get slots n ≡ Some slot
  pub is_open : slot.is_open ≡ true
  pub goes_on : slot.is_last ≡ false
  pub free : waits n queue ≡ false

-- The journal has grown by a run from one desk to another.
pub record Leads (s : Desk) (journal : List NodeEvent) (t : Desk) (grown : List NodeEvent) : Type 0 where
  pub moves : List Move
  pub is_grown : grown ≡ journal ++ journal_of moves
  pub runs : Runs DeskStep s moves t

-- What was written to each link is the front of its replies. A link may have been given whose event isn't in the
-- journal, and nothing was written to it.
abbrev pub AreWritten : List Peer → List LinkState → Type 0
AreWritten [] links = AllByRecursion (λ l. l.written ≡ []) links
AreWritten (p ∷ peers) [] = ⊥
AreWritten (p ∷ peers) (l ∷ links) = ((more : List ℕ) × (p.said ≡ l.written ++ more)) × AreWritten peers links

-- The journal has grown by a run from this desk, and what was written is the front of the replies.
pub record Served (s : Desk) (journal grown : List NodeEvent) (links : List LinkState) : Type 0 where
  pub last : Desk
  pub leads : Leads s journal last grown
  pub written : AreWritten last.peers links

-- How a call that begins at s ends: with Ok at t, and else with a run that accounts for all that was written.
-- Of bytes it speaks only where the links tell theirs.
abbrev pub Went : {A E : Type 0} → Bool → Desk → List NodeEvent → Desk → List NodeEvent → List LinkState → Result A E → Type 0
Went tells s journal t grown links (Ok _) = IsTrue tells → Leads s journal t grown
Went tells s journal t grown links (Err _) = IsTrue tells → Served s journal grown links

abbrev pub StaysPaired : {A E : Type 0} → Front → List LinkState → Result A E → Type 0
StaysPaired f links (Ok _) = IsPairedFront f links
StaysPaired f links (Err _) = Unit {0}
