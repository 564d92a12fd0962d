-- What happens to links and their requests, whatever the chain is.
use Rattle.std.specs.Prelude.{◌≡◌, ℕ, suc, ◌+◌, ◌==◌, nat_lt, ◌⊎◌, Bool, true, false, ◌||◌, if◌then◌else◌, List, [], ◌∷◌, ◌++◌, length, take, drop, slice_get, slice_set, Option, Some, None, Ok, Err}
use Rattle.ante_links.specs.Links.{Waits}
use Rattle.ante_http.specs.declared.answer.RequestSpan.{RequestSpan}
use Rattle.ante_http.specs.declared.answer.HeadKind.{HeadKind}
use Rattle.ante_http.specs.Requests.{IsRequest, IsBad}
use Rattle.ante_json.specs.declared.request.ApiRequest.{ApiRequest}
use Rattle.ante_json.specs.declared.fault.ApiFault.{ApiFault}
use Rattle.ante_json.specs.declared.fault.ApiFault.TheVariants as faults
use Rattle.ante_api.specs.declared.reply.ApiReply.TheVariants.{Fault}
use Rattle.ante_api.specs.Routes.{Routes, head_fault}
use Rattle.ante_api.specs.Rendered.{rendered}
use Rattle.ante_journal.specs.declared.event.NodeEvent.{NodeEvent}
use Rattle.ante_journal.specs.declared.event.NodeEvent.TheVariants as event
use Rattle.ante_journal.specs.declared.waiting.Waiting.{Waiting}

-- a link: the bytes of its input that aren't taken, whether it is open, whether its last reply closes it, and all bytes of its replies
pub record Peer : Type 0 where
  pub rest : List ℕ
  pub is_open : Bool
  pub is_last : Bool
  pub said : List ℕ

abbrev pub new_peer : List ℕ → Peer
new_peer input = record { rest = input; is_open = true; is_last = false; said = [] }

-- Where in a turn the run is: a link may come, and goes again where it is too many; requests are taken; blocks are pushed and made from a moment
-- on, until it is late or a block is sealed; readers are answered; a window is open until a deadline; replies are sent.
pub data Stage : Type 0 where
  accepting crowded taking answering sending : Stage
  writing : (moment : ℕ) → (late sealed : Bool) → Stage
  window : (deadline : ℕ) → Stage

-- The links by number, closed ones too, and what each call of `accept` is still to give; the requests that wait, in the order taken; and the turn,
-- with whether a request was taken in it.
pub record Desk : Type 0 where
  pub to_come : List (Option (List ℕ))
  pub peers : List Peer
  pub queue : List Waiting
  pub turn : ℕ
  pub took : Bool
  pub stage : Stage

-- A move is an event of the journal, or a step that leaves none.
pub data Move : Type 0 where
  listed : NodeEvent → Move
  -- `accept` gave no link; nothing is to be done in the turn; the turn ends
  no_link idle turns : Move
  -- a block is begun, and given up; the writes of the turn are over
  begins drops written : Move
  -- a reader is answered without a window; none is to be answered in one
  told : (link : ℕ) → Move
  rests : Move

-- the events that moves leave
abbrev pub journal_of : List Move → List NodeEvent
journal_of [] = []
journal_of (listed event ∷ moves) = event ∷ journal_of moves
journal_of (no_link ∷ moves) = journal_of moves
journal_of (idle ∷ moves) = journal_of moves
journal_of (turns ∷ moves) = journal_of moves
journal_of (begins ∷ moves) = journal_of moves
journal_of (drops ∷ moves) = journal_of moves
journal_of (written ∷ moves) = journal_of moves
journal_of (told link ∷ moves) = journal_of moves
journal_of (rests ∷ moves) = journal_of moves

-- ---- links

-- the most links that are served at once
abbrev pub most_open : ℕ
most_open = 64

abbrev pub one_if : Bool → ℕ
one_if true = 1
one_if false = 0

abbrev pub count_open : List Peer → ℕ
count_open [] = 0
count_open (p ∷ peers) = one_if p.is_open + count_open peers

-- A link more than that is closed at once.
abbrev pub stage_after : (open_before : ℕ) → Stage
stage_after count = if nat_lt count most_open then taking else crowded

abbrev pub waits : ℕ → List Waiting → Bool
waits n [] = false
waits n (w ∷ ws) = (w.link == n) || waits n ws

-- An open link on which nothing waits.
pub record IsQuiet (d : Desk) (n : ℕ) (p : Peer) : Type 0 where
  pub there : slice_get d.peers n ≡ Some p
  pub is_open : p.is_open ≡ true
  pub free : waits n d.queue ≡ false

-- A request may be taken from it: no reply of it closes it.
pub record IsFree (d : Desk) (n : ℕ) (p : Peer) : Type 0 where
  pub quiet : IsQuiet d n p
  pub goes_on : p.is_last ≡ false
  pub stage : d.stage ≡ taking

abbrev pub with_peer : ℕ → Peer → Desk → Desk
with_peer n p d = record d { peers = slice_set d.peers n p }

-- ---- requests

-- the reply to a request for which memory was wanted
abbrev pub starved : (close : Bool) → List ℕ
starved close = rendered (Fault faults.OutOfMemory) close

-- what becomes of a request when it is taken
pub data Asking : Type 0 where
  -- it waits, or waits to be starved
  waiting : Option ApiRequest → Asking
  -- its fault is answered at once
  refused : ApiFault → Asking

-- memory was wanted
abbrev pub wants_memory : ApiFault → Bool
wants_memory faults.OutOfMemory = true
wants_memory (faults.BadHead kind) = false
wants_memory (faults.BadBody kind) = false
wants_memory faults.UnknownPath = false
wants_memory faults.UnknownBlock = false
wants_memory faults.UnknownAccount = false
wants_memory (faults.TooLarge length) = false
wants_memory (faults.Ahead seen last) = false
wants_memory faults.NotProducing = false
wants_memory (faults.Push why) = false

abbrev pub Asks : List ℕ → RequestSpan → Asking → Type 0
Asks bytes span (waiting (Some request)) = Routes bytes span (Ok request)
Asks bytes span (waiting None) = Unit {0}
Asks bytes span (refused fault) = Routes bytes span (Err fault) × (wants_memory fault ≡ false)

abbrev pub said_by : Asking → (close : Bool) → List ℕ
said_by (waiting asked) close = []
said_by (refused fault) close = rendered (Fault fault) close

abbrev pub queued_by : Asking → (link : ℕ) → (close : Bool) → List Waiting
queued_by (waiting asked) link close = record { link = link; close = close; asked = asked } ∷ []
queued_by (refused fault) link close = []

-- The first bytes of a link's input are taken as a request.
abbrev pub with_request : ℕ → (length : ℕ) → (close : Bool) → Asking → Peer → Desk → Desk
with_request n length close asking p d = record d {
  peers = slice_set d.peers n (record p { rest = drop length p.rest; is_last = close; said = p.said ++ said_by asking close });
  queue = d.queue ++ queued_by asking n close;
  took = true;
}

-- The request that waits on link n is answered with these bytes, and waits no longer.
pub record Answers (d : Desk) (n : ℕ) (asked : Option ApiRequest) (reply : Bool → List ℕ) (e : Desk) : Type 0 where
  pub before : List Waiting
  pub others : List Waiting
  pub close : Bool
  pub peer : Peer
  pub waited : d.queue ≡ before ++ record { link = n; close = close; asked = asked } ∷ others
  pub there : slice_get d.peers n ≡ Some peer
  pub is : e ≡ record d { peers = slice_set d.peers n (record peer { said = peer.said ++ reply close }); queue = before ++ others }

-- Links close while requests are taken, and when replies were sent. One that is too many is the last.
abbrev pub Closes : Stage → (place count : ℕ) → Stage → Type 0
Closes accepting place count after = ⊥
Closes crowded place count after = (suc place ≡ count) × (after ≡ taking)
Closes taking place count after = after ≡ taking
Closes (writing moment late sealed) place count after = ⊥
Closes answering place count after = ⊥
Closes (window deadline) place count after = ⊥
Closes sending place count after = after ≡ sending

-- ---- the moves that concern links and requests alone

abbrev pub DeskRow : Desk → NodeEvent → Desk → Type 0
-- a link is given: it has the next of the inputs
DeskRow d (event.Link turn) e =
    (input : List ℕ) × (coming : List (Option (List ℕ))) × (d.stage ≡ accepting) × (turn ≡ d.turn) × (d.to_come ≡ Some input ∷ coming)
    × (e ≡ record d { to_come = coming; peers = d.peers ++ new_peer input ∷ []; stage = stage_after (count_open d.peers) })
-- the next bytes of a free link are a request
DeskRow d (event.Taken n length) e =
    (p : Peer) × (span : RequestSpan) × (asking : Asking) × IsFree d n p × IsRequest p.rest span length × Asks (take length p.rest) span asking
    × (e ≡ with_request n length span.close asking p d)
-- or they are Bad: it is answered at once, and nothing more is taken from it
DeskRow d (event.Bad n length) e =
    (p : Peer) × (kind : HeadKind) × IsFree d n p × IsBad p.rest kind length
    × (e ≡ with_peer n (record p { is_last = true; said = p.said ++ rendered (Fault (head_fault kind)) true }) d)
-- a link closes, on which nothing waits
DeskRow d (event.Gone n) e =
    (p : Peer) × IsQuiet d n p × Closes d.stage n (length d.peers) e.stage × (e ≡ record d { peers = slice_set d.peers n (record p { is_open = false }); stage = e.stage })
-- a request for which memory was wanted
DeskRow d (event.Starved n) e = (asked : Option ApiRequest) × Answers d n asked starved e
DeskRow d (event.Turn turn moment) e = ⊥
DeskRow d (event.Wrote n) e = ⊥
DeskRow d (event.Late moment) e = ⊥
DeskRow d (event.Sealed num) e = ⊥
DeskRow d (event.Opened moment) e = ⊥
DeskRow d (event.Claim reader n) e = ⊥
DeskRow d (event.Finish reader n) e = ⊥
DeskRow d (event.Starve reader n) e = ⊥
DeskRow d (event.Ring reader moment) e = ⊥
DeskRow d (event.Cut reader n) e = ⊥
DeskRow d event.Closed e = ⊥

abbrev pub DeskStep : Desk → Move → Desk → Type 0
DeskStep d (listed event) e = DeskRow d event e
DeskStep d no_link e =
    (coming : List (Option (List ℕ))) × (d.stage ≡ accepting) × (Waits d.to_come coming ⊎ (coming ≡ d.to_come)) × (e ≡ record d { to_come = coming; stage = taking })
DeskStep d idle e = (d.stage ≡ taking) × (d.took ≡ false) × (d.queue ≡ []) × (e ≡ record d { stage = sending })
DeskStep d turns e = (d.stage ≡ sending) × (e ≡ record d { turn = d.turn + 1; took = false; stage = accepting })
DeskStep d begins e = ⊥
DeskStep d drops e = ⊥
DeskStep d written e = ⊥
DeskStep d (told n) e = ⊥
DeskStep d rests e = ⊥

-- From s the moves lead to t, each by such a step.
abbrev pub Runs : {S : Type 0} → (S → Move → S → Type 0) → S → List Move → S → Type 0
Runs Step s [] t = t ≡ s
Runs Step s (move ∷ moves) t = (mid : _) × Step s move mid × Runs Step mid moves t
