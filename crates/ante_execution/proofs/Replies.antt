-- Each call, as the host of a run makes it, replies as its type in the table of imports says.
use Rattle.std.proofs.Common.{◌≡◌, ℕ, Bool, true, false, List, Option, None, Some}
use Rattle.ante_types.specs.declared.failure.Failure.{Failure}
use Rattle.ante_wmem.specs.Linear.{LinearMemory}
use Rattle.ante_wmem.specs.HostCalls.{Reply, Outcome, value, nothing, exit, refused, step_limit}
use Rattle.ante_wtree.specs.declared.instructions.ValueKind.{ValueKind}
use Rattle.ante_wtree.specs.Intrinsics.{type_at}
use Rattle.ante_calls.specs.Numbers.{intrinsic_at, intrinsic}
use Rattle.ante_calls.specs.Views.{Seen}
use Rattle.ante_wtree.specs.Replies.{IsReplyOf, AnswersTyped}
use Rattle.ante_calls.proofs.Replies.{mapped_typed, typed_by_number}
use Rattle.ante_execution.specs.Hosts.{sent_refusal, unless, sent_reply, is_send_inline, checked, call, over, host_call, Allows}

unless_typed : (f : Option Failure) (s : Seen) (m : LinearMemory) → IsReplyOf None (unless f (nothing s m))
unless_typed None s m = tt
unless_typed (Some f) s m = tt

sent_typed : (r : Option ValueKind) (reply : Reply Seen Failure) → IsReplyOf r reply → IsReplyOf r (sent_reply reply)
sent_typed None (value n s m) h = absurd h
sent_typed (Some k) (value n s m) h = h
sent_typed None (nothing s m) h = unless_typed (sent_refusal s) s m
sent_typed (Some k) (nothing s m) h = absurd h
sent_typed None (exit s m) h = tt
sent_typed (Some k) (exit s m) h = tt
sent_typed None (refused f) h = tt
sent_typed (Some k) (refused f) h = tt
sent_typed None step_limit h = tt
sent_typed (Some k) step_limit h = tt

checked_typed : (r : Option ValueKind) (b : Bool) (o : Outcome Seen Failure) → IsReplyOf r o.reply → IsReplyOf r (checked b o).reply
checked_typed r true o h = sent_typed r o.reply h
checked_typed r false o h = h

pub call_typed : (number : ℕ) (params : List ValueKind) (r : Option ValueKind) (s : Seen) (args : List ℕ) (m : LinearMemory) (left : ℕ) →
    type_at number ≡ Some (params, r) → IsReplyOf r (call s number args m left).reply
unfolding call
call_typed number params r s args m left e =
    checked_typed r (is_send_inline (intrinsic_at number)) (intrinsic (intrinsic_at number) s args m left) (typed_by_number number params r s args m left e)

-- so a run may ask for typed replies of the host
pub host_typed : AnswersTyped (λ h number args left. Allows h left) host_call
host_typed number params result args h m left e fit allowed =
    mapped_typed result (over h) (call h.seen number args m left).reply (call_typed number params result h.seen args m left e)
