-- The host keeps its condition, and replies as what a run sees does: no call raises the steps left, lists grow by one at most, a run keeps its mode.
use Rattle.std.proofs.Common.{◌≡◌, ℕ, ◌<◌, ◌≤◌, Bool, true, false, List, Option, None, Some, refl, subst, sym, arith}
use Rattle.ante_itercache.specs.Iterators.{Iterators}
use Rattle.ante_types.specs.declared.failure.Failure.{Failure}
use Rattle.ante_wmem.specs.Linear.{LinearMemory}
use Rattle.ante_wmem.specs.HostCalls.{Reply, Outcome, value, nothing, exit, refused, step_limit, Keeps}
use Rattle.ante_wmeaning.specs.Likeness.{SameReply, ReplyAlike}
use Rattle.ante_calls.specs.ActionData.{IsPacked}
use Rattle.ante_calls.specs.Calls.{map_reply}
use Rattle.ante_calls.specs.Keeping.{Leaving, Fine, Grows, Goes, intrinsic_fine}
use Rattle.ante_calls.specs.Numbers.{intrinsic_at, intrinsic}
use Rattle.ante_calls.specs.Views.{Seen, is_writing}
use Rattle.ante_execution.specs.Hosts.{sent_refusal, unless, sent_reply, is_send_inline, checked, call, HostView, over, host_call, HasRoom, Allows, Shows}

-- ---- fewer steps

room_less : (left less : ℕ) (i : Iterators) → less ≤ left → HasRoom left i → HasRoom less i
room_less left less i le r = record { tables = omega (arith, le, r.tables); rows = omega (arith, le, r.rows) }

pub allows_less : (h : HostView) (left less : ℕ) → less ≤ left → Allows h left → Allows h less
allows_less h left less le a = record {
  room = record {
    rows = room_less left less h.seen.lists.rows le a.room.rows;
    index64 = room_less left less h.seen.lists.index64 le a.room.index64;
    index128 = room_less left less h.seen.lists.index128 le a.room.index128;
    index256 = room_less left less h.seen.lists.index256 le a.room.index256;
  };
  ready = a.ready;
  packed = a.packed;
}

-- ---- after a call

room_after : (left less : ℕ) (i j : Iterators) → less < left → Grows i j → HasRoom left i → HasRoom less j
room_after left less i j lt g r = record { tables = omega (arith, lt, g.tables, r.tables); rows = omega (arith, lt, g.rows, r.rows) }

pub allows_after : (h : HostView) (s : Seen) (left less : ℕ) → less < left → Goes h.seen s → Allows h left → Allows (over h s) less
allows_after h s left less lt g a = record {
  room = record {
    rows = room_after left less h.seen.lists.rows s.lists.rows lt g.rows a.room.rows;
    index64 = room_after left less h.seen.lists.index64 s.lists.index64 lt g.index64 a.room.index64;
    index128 = room_after left less h.seen.lists.index128 s.lists.index128 lt g.index128 a.room.index128;
    index256 = room_after left less h.seen.lists.index256 s.lists.index256 lt g.index256 a.room.index256;
  };
  ready = record { mode = subst (λ x. h.base.writing ≡ is_writing x) (sym g.mode) a.ready.mode; session = a.ready.session; above = a.ready.above };
  packed = subst IsPacked (sym g.packed) a.packed;
}

-- ---- the call

unrefused : (s : Seen) (f : Option Failure) (t : Seen) (m : LinearMemory) → Goes s t → Leaving (Goes s) (unless f (nothing t m))
unrefused s None t m h = h
unrefused s (Some f) t m h = tt

leaving_sent : (s : Seen) (reply : Reply Seen Failure) → Leaving (Goes s) reply → Leaving (Goes s) (sent_reply reply)
leaving_sent s (nothing t m) h = unrefused s (sent_refusal t) t m h
leaving_sent s (value n t m) h = h
leaving_sent s (exit t m) h = h
leaving_sent s (refused f) h = tt
leaving_sent s step_limit h = tt

fine_checked : (s : Seen) (b : Bool) (left : ℕ) (o : Outcome Seen Failure) → Fine (Goes s) left o → Fine (Goes s) left (checked b o)
fine_checked s true left o h = record { falls = h.falls; reply = leaving_sent s o.reply h.reply }
fine_checked s false left o h = h

pub call_fine : (s : Seen) (number : ℕ) (args : List ℕ) (m : LinearMemory) (left : ℕ) →
    Fine (Goes s) left (call s number args m left)
unfolding call
call_fine s number args m left =
    fine_checked s (is_send_inline (intrinsic_at number)) left (intrinsic (intrinsic_at number) s args m left)
    (intrinsic_fine s (intrinsic_at number) args m left)

-- ---- the host

pub host_falls : (h : HostView) (number : ℕ) (args : List ℕ) (m : LinearMemory) (left : ℕ) →
    (host_call h number args m left).left ≤ left
host_falls h number args m left = (call_fine h.seen number args m left).falls

keeps_reply : (h : HostView) (left after : ℕ) (reply : Reply Seen Failure) → after ≤ left → Leaving (Goes h.seen) reply →
    Keeps (λ g f args n. Allows g n) h left (map_reply (over h) reply) after
keeps_reply h left after (value n s m) le g = λ f args less lt a. allows_after h s left less (omega (arith, lt, le)) g a
keeps_reply h left after (nothing s m) le g = λ f args less lt a. allows_after h s left less (omega (arith, lt, le)) g a
keeps_reply h left after (exit s m) le g = tt
keeps_reply h left after (refused f) le g = tt
keeps_reply h left after step_limit le g = tt

pub host_keeps : (h : HostView) (number : ℕ) (args : List ℕ) (m : LinearMemory) (left : ℕ) → Allows h left →
    Keeps (λ g f args n. Allows g n) h left (host_call h number args m left).reply (host_call h number args m left).left
host_keeps h number args m left a = let fine = call_fine h.seen number args m left in
    keeps_reply h left (call h.seen number args m left).left (call h.seen number args m left).reply fine.falls fine.reply

-- ---- likeness: with it a run is a function of what it sees

alike_reply : (before given : HostView) (reply : Reply Seen Failure) → given.base ≡ before.base → given.holder ≡ before.holder →
    SameReply (Shows before) (map_reply (over given) reply) reply
alike_reply before given (value n s m) e d = (s, (refl, e, d), refl)
alike_reply before given (nothing s m) e d = (s, (refl, e, d), refl)
alike_reply before given (exit s m) e d = (s, (refl, e, d), refl)
alike_reply before given (refused f) e d = refl
alike_reply before given step_limit e d = refl

pub hosts_alike : (before : HostView) → ReplyAlike (Shows before) host_call call
hosts_alike before h s number args m left shows =
    subst (λ (x : Seen). SameReply (Shows before) (host_call h number args m left).reply (call x number args m left).reply
    × ((host_call h number args m left).left ≡ (call x number args m left).left)) shows.0
    (alike_reply before h (call h.seen number args m left).reply shows.1 shows.2, refl)
