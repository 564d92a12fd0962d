-- The host's replies are of its functions' types.
use Rattle.std.proofs.Common.{◌≡◌, ℕ, ◌-◌, Bool, true, false, nat_lt, List, Option, None, Some, subst, sym, drop}
use Rattle.std.specs.Prelude.{if◌then◌else◌}
use Rattle.ante_wmem.specs.Linear.{LinearMemory}
use Rattle.ante_wmem.specs.HostCalls.{Reply, Outcome, step_limit}
use Rattle.ante_wtree.specs.declared.instructions.ValueKind.{ValueKind}
use Rattle.ante_wtree.specs.Intrinsics.{type_at}
use Rattle.ante_wtree.specs.Replies.{IsReplyOf}
use Rattle.ante_wtree.proofs.Replies.{mask_fits}
use Rattle.ante_wrun_tests.specs.declared.player.Answer.{Answer}
use Rattle.ante_wrun_tests.specs.declared.player.Answer.TheVariants as answer
use Rattle.ante_wrun_tests.specs.declared.player.Play.{Play}
use Rattle.ante_wrun_tests.specs.declared.player.Player.{Player}
use Rattle.ante_wrun_tests.specs.declared.player.Note.TheVariants as note
use Rattle.ante_wrun_tests.specs.Plays.{next, noted, number_at, with_number, given, ended, if_inside, shown, put, played, paid, outcome}

given_typed : (params : List ValueKind) (r : Option ValueKind) (n : ℕ) (host : Player) (memory : LinearMemory) → IsReplyOf r (given (Some (params, r)) n host memory)
given_typed params None n host memory = tt
given_typed params (Some kind) n host memory = mask_fits kind n

abbrev AlwaysTyped : Option ValueKind → (Player → LinearMemory → Reply Player ℕ) → Type 0
AlwaysTyped r go = (host : Player) (memory : LinearMemory) → IsReplyOf r (go host memory)

ended_typed : (r : Option ValueKind) (function : ℕ) (params : List ValueKind) (a : Answer) → type_at function ≡ Some (params, r) → AlwaysTyped r (ended function a)
ended_typed r function params (answer.Give n) e = λ host memory. subst (λ t. IsReplyOf r (given t n host memory)) (sym e) (given_typed params r n host memory)
ended_typed None function params answer.Exit e = λ host memory. tt
ended_typed (Some k) function params answer.Exit e = λ host memory. tt
ended_typed None function params (answer.Refuse n) e = λ host memory. tt
ended_typed (Some k) function params (answer.Refuse n) e = λ host memory. tt
ended_typed None function params answer.Limit e = λ host memory. tt
ended_typed (Some k) function params answer.Limit e = λ host memory. tt

inside_typed : {A : Type 0} (r : Option ValueKind) (x : Option A) (go : A → Reply Player ℕ) → ((a : A) → IsReplyOf r (go a)) → IsReplyOf r (if_inside x go)
inside_typed None None go h = tt
inside_typed (Some k) None go h = tt
inside_typed r (Some a) go h = h a

shown_typed : (r : Option ValueKind) (at : Option ℕ) (go : Player → LinearMemory → Reply Player ℕ) → AlwaysTyped r go → AlwaysTyped r (shown at go)
shown_typed r None go h = h
shown_typed r (Some at) go h = λ host memory. inside_typed r (number_at memory at) (λ n. go (noted host (note.Shown n)) memory) (λ n. h (noted host (note.Shown n)) memory)

put_typed : (r : Option ValueKind) (at : Option (ℕ × ℕ)) (go : Player → LinearMemory → Reply Player ℕ) → AlwaysTyped r go → AlwaysTyped r (put at go)
put_typed r None go h = h
put_typed r (Some (at, n)) go h = λ host memory. inside_typed r (with_number memory at n) (go host) (h host)

if_typed : (r : Option ValueKind) (b : Bool) (x : Outcome Player ℕ) (left : ℕ) → IsReplyOf r x.reply → IsReplyOf r (if b then record { reply = step_limit; left = left } else x).reply
if_typed None true x left h = tt
if_typed (Some k) true x left h = tt
if_typed r false x left h = h

paid_typed : (r : Option ValueKind) (play : Play) (function : ℕ) (params : List ValueKind) (host : Player) (memory : LinearMemory) (left : ℕ) → type_at function ≡ Some (params, r) →
    IsReplyOf r (paid play function host memory left).reply
paid_typed r play function params host memory left e = if_typed r (nat_lt left play.pays) (record { reply = played play function host memory; left = left - play.pays }) left
    (put_typed r play.puts (shown play.shows (ended function play.answer)) (shown_typed r play.shows (ended function play.answer) (ended_typed r function params play.answer e)) host memory)

pub typed : (function : ℕ) (params : List ValueKind) (r : Option ValueKind) (args : List ℕ) (host : Player) (memory : LinearMemory) (left : ℕ) →
    type_at function ≡ Some (params, r) → IsReplyOf r (outcome host function args memory left).reply
typed function params r args host memory left e =
    paid_typed r (next host.plays) function params (noted (record host { plays = drop 1 host.plays }) (note.Call function args)) memory left e
