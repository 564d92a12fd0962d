-- From what a group's call answers of its part of what a run sees to what the host answers.
use Rattle.std.proofs.Common.{◌≡◌, refl, sym, ap, subst, ◌∙◌, ℕ, ◌≤◌, List, Option, None, Some, Bool, true, false, arith}
use Rattle.ante_types.specs.declared.failure.Failure.{Failure}
use Rattle.ante_wmem.specs.Linear.{LinearMemory}
use Rattle.ante_wmem.specs.HostCalls.{Reply, Outcome, value, nothing, exit, refused, step_limit, IsAnswer, StaysAllowed}
use Rattle.ante_wmem.specs.declared.host.HostAnswer.{HostAnswer}
use Rattle.ante_wmem.specs.declared.host.HostAnswer.TheVariants as answer
use Rattle.ante_calls.specs.Calls.{map_reply, map_outcome}
use Rattle.ante_calls.specs.declared.calls.Intrinsic.{Intrinsic}
use Rattle.ante_calls.specs.declared.calls.Intrinsic.TheVariants as group
use Rattle.ante_calls.specs.declared.calls.SysCall.{SysCall}
use Rattle.ante_calls.specs.declared.calls.SysCall.TheVariants as sys
use Rattle.ante_calls.specs.Keeping.{Leaving, Goes}
use Rattle.ante_calls.specs.Numbers.{intrinsic_at, intrinsic}
use Rattle.ante_calls.specs.ActionData.{IsPacked}
use Rattle.ante_calls.specs.System.{sys_call}
use Rattle.ante_calls.specs.Views.{Seen, SysView, Base, ReadyFor, is_writing, sys_of, with_sys, said}
use Rattle.ante_execution.specs.HostLaws.{allows_less, allows_after, call_fine}
use Rattle.ante_execution.specs.Hosts.{HostView, over, call, host_call, is_send_inline, checked, unless, sent_reply, sent_refusal, HaveRoom, Allows, Leaves}
use Rattle.ante_host.specs.Host.{Unmoved, Answers, Checked}
use Rattle.ante_host.specs.Sending.{Lets}
use Rattle.ante_host.proofs.Sent.{Kept, keeps_sending}

-- ---- an answer of a part is an answer of the whole

module _ {V W : Type 0} (f : V → W) (o : Outcome V Failure) (P : V → Type 0) (Q : W → Type 0) (v : V) (w : W) (is : f v ≡ w) (stays : P v → Q w)
    (m : LinearMemory) (left : ℕ) where
  pub mapped : (a : HostAnswer Failure) → IsAnswer o (λ a v. P v) a v m left → IsAnswer (map_outcome f o) (λ a w. Q w) a w m left
  mapped (answer.Value n) h = ap (map_outcome f) h ∙ ap (λ x. record { reply = value n x m; left = left }) is
  mapped answer.Nothing h = ap (map_outcome f) h ∙ ap (λ x. record { reply = nothing x m; left = left }) is
  mapped answer.Exit h = ap (map_outcome f) h ∙ ap (λ x. record { reply = exit x m; left = left }) is
  mapped (answer.Refused r) h = (ap (map_outcome f) h.0, stays h.1)
  mapped answer.StepLimit h = (ap (map_outcome f) h.0, stays h.1)
  mapped answer.OutOfMemory h = stays h

-- what a call that isn't on tables answers
module _ (h n : HostView) (v : SysView) (seen : n.seen ≡ with_sys h.seen v) (mode : n.seen.run.mode ≡ h.seen.run.mode) (base : n.base ≡ h.base)
    (holder : n.holder ≡ h.holder) where
  unmoved_by : said v.run ≡ said h.seen.run → Unmoved h n
  unmoved_by e = record {
    lists = ap (λ (x : Seen). x.lists) seen;
    mode = mode;
    packed = ap (λ (x : Seen). x.packed) seen;
    said = ap (λ (x : Seen). said x.run) seen ∙ e;
    base = base;
    holder = holder;
  }

  abbrev view : Seen → Base → ℕ × ℕ → HostView
  view s b k = record { seen = s; base = b; holder = k }

  whole_view : over h (with_sys h.seen v) ≡ n
  whole_view = ap (λ s. view s h.base h.holder) (sym seen) ∙ ap (λ b. view n.seen b h.holder) (sym base) ∙ ap (λ k. view n.seen n.base k) (sym holder)

  pub from_system : (call : SysCall) (args : List ℕ) (m : LinearMemory) (left : ℕ) (after : LinearMemory) (rest : ℕ) (result : HostAnswer Failure) →
      IsAnswer (sys_call h.seen.packed call (sys_of h.seen) args m left) (λ a w. said w.run ≡ said h.seen.run) result v after rest →
      Answers (Some (group.Sys call)) args m left result h n after rest
  from_system call args m left after rest result answers =
      let o = sys_call h.seen.packed call (sys_of h.seen) args m left in
      mapped (over h) (map_outcome (with_sys h.seen) o) (λ t. Unmoved h n) (λ w. Unmoved h w) (with_sys h.seen v) n whole_view (λ u. u) after rest result
      (mapped (with_sys h.seen) o (λ w. said w.run ≡ said h.seen.run) (λ t. Unmoved h n) v (with_sys h.seen v) refl unmoved_by after rest result answers)

-- ---- an action that was sent is checked

abbrev as_nothing : {W : Type 0} → W → LinearMemory → Reply W Failure
as_nothing w m = nothing w m

abbrev as_outcome : Reply HostView Failure → (left : ℕ) → Outcome HostView Failure
as_outcome reply left = record { reply = reply; left = left }

abbrev is_nothing : {W : Type 0} → Reply W Failure → Bool
is_nothing (nothing w m) = true
is_nothing (value n w m) = false
is_nothing (exit w m) = false
is_nothing (refused f) = false
is_nothing step_limit = false

nothing_mapped : {V W : Type 0} (f : V → W) (reply : Reply V Failure) → is_nothing (map_reply f reply) ≡ is_nothing reply
nothing_mapped f (value n v m) = refl
nothing_mapped f (nothing v m) = refl
nothing_mapped f (exit v m) = refl
nothing_mapped f (refused r) = refl
nothing_mapped f step_limit = refl

unsent : (reply : Reply Seen Failure) → is_nothing reply ≡ false → sent_reply reply ≡ reply
unsent (value n s m) h = refl
unsent (nothing s m) h = cc
unsent (exit s m) h = refl
unsent (refused f) h = refl
unsent step_limit h = refl

module _ (h v : HostView) (m : LinearMemory) (left : ℕ) where
  same_memory : (s : Seen) (k : LinearMemory) → as_nothing (over h s) k ≡ as_nothing v m → k ≡ m
  same_memory s k e = cc

  same_host : (s : Seen) (k : LinearMemory) → as_nothing (over h s) k ≡ as_nothing v m → over h s ≡ v
  same_host s k e = cc

  -- the reply, where it is nothing, and what was seen then
  from_nothing : (reply : Reply Seen Failure) → map_reply (over h) reply ≡ nothing v m → (s : Seen) × (reply ≡ nothing s m) × (over h s ≡ v)
  from_nothing (nothing s k) e = (s, ap (nothing s) (same_memory s k e), same_host s k e)
  from_nothing (value n s k) e = absurd cc
  from_nothing (exit s k) e = absurd cc
  from_nothing (refused f) e = absurd cc
  from_nothing step_limit e = absurd cc

  -- a reply that isn't nothing stands
  stands_so : (o : Outcome Seen Failure) (reply : Reply HostView Failure) → is_nothing reply ≡ false → map_outcome (over h) o ≡ record { reply = reply; left = left } →
      map_outcome (over h) (checked true o) ≡ record { reply = reply; left = left }
  stands_so o reply other e =
      ap (λ x. as_outcome (map_reply (over h) x) o.left) (unsent o.reply (sym (nothing_mapped (over h) o.reply) ∙ ap (λ (x : Outcome HostView Failure). is_nothing x.reply) e ∙ other)) ∙ e

  module _ (o : Outcome Seen Failure) (keeps : (s : Seen) (k : LinearMemory) → o.reply ≡ nothing s k → Unmoved h (over h s)) where
    abbrev Whole : HostAnswer Failure → Type 0
    Whole result = IsAnswer (map_outcome (over h) (checked true o)) (λ a w. Unmoved h w) result v m left

    module _ (e : map_outcome (over h) o ≡ record { reply = nothing v m; left = left }) where
      found : (s : Seen) × (o.reply ≡ nothing s m) × (over h s ≡ v)
      found = from_nothing o.reply (ap (λ (x : Outcome HostView Failure). x.reply) e)

      unmoved : Unmoved h v
      unmoved = subst (λ x. Unmoved h x) found.2 (keeps found.0 m found.1)

      replied : (f : Option Failure) → sent_refusal v.seen ≡ f → map_outcome (over h) (checked true o) ≡ record { reply = map_reply (over h) (unless f (nothing found.0 m)); left = left }
      replied f is =
          ap (λ x. as_outcome (map_reply (over h) (sent_reply x)) o.left) found.1
          ∙ ap (λ x. as_outcome (map_reply (over h) (unless x (nothing found.0 m))) o.left) (ap (λ (x : HostView). sent_refusal x.seen) found.2 ∙ is)
          ∙ ap (λ n. as_outcome (map_reply (over h) (unless f (nothing found.0 m))) n) (ap (λ (x : Outcome HostView Failure). x.left) e)

      after_nothing : (result : HostAnswer Failure) → Lets (sent_refusal v.seen) result → Whole result
      after_nothing answer.Nothing is = replied None is ∙ ap (λ x. as_outcome (nothing x m) left) found.2
      after_nothing (answer.Refused f) is = (replied (Some f) is, unmoved)
      after_nothing answer.OutOfMemory is = unmoved
      after_nothing (answer.Value n) is = absurd is
      after_nothing answer.Exit is = absurd is
      after_nothing answer.StepLimit is = absurd is

    pub checked_answer : (given result : HostAnswer Failure) → Checked v given result →
        IsAnswer (map_outcome (over h) o) (λ a w. Unmoved h w) given v m left → Whole result
    checked_answer answer.Nothing result lets e = after_nothing e result lets
    checked_answer (answer.Value n) result is e = subst Whole (sym is) (stands_so o (value n v m) refl e)
    checked_answer answer.Exit result is e = subst Whole (sym is) (stands_so o (exit v m) refl e)
    checked_answer (answer.Refused f) result is e = subst Whole (sym is) (stands_so o (refused f) refl e.0, e.1)
    checked_answer answer.StepLimit result is e = subst Whole (sym is) (stands_so o step_limit refl e.0, e.1)
    checked_answer answer.OutOfMemory result is e = subst Whole (sym is) e

-- ---- the call by its number

abbrev send : Intrinsic
send = group.Sys sys.SendInline

module _ (h : HostView) (args : List ℕ) (m : LinearMemory) (left : ℕ) where
  same_left : (w : SysView) (n : LinearMemory) (s : Seen) (k : LinearMemory) → as_nothing (with_sys h.seen w) n ≡ as_nothing s k → with_sys h.seen w ≡ s
  same_left w n s k e = cc

  kept_by : (reply : Reply SysView Failure) (s : Seen) (k : LinearMemory) → Leaving (Kept (sys_of h.seen)) reply → map_reply (with_sys h.seen) reply ≡ nothing s k → Unmoved h (over h s)
  kept_by (nothing w n) s k kept e =
      subst (λ x. Unmoved h (over h x)) (same_left w n s k e) (record { lists = refl; mode = kept.0; packed = refl; said = kept.1; base = refl; holder = refl })
  kept_by (value a w n) s k kept e = absurd cc
  kept_by (exit w n) s k kept e = absurd cc
  kept_by (refused f) s k kept e = absurd cc
  kept_by step_limit s k kept e = absurd cc

  keeps : (s : Seen) (k : LinearMemory) → (intrinsic (Some send) h.seen args m left).reply ≡ nothing s k → Unmoved h (over h s)
  keeps s k e = kept_by _ s k (keeps_sending (sys_of h.seen) m args left) e

  module _ (number : ℕ) (v : HostView) (after : LinearMemory) (rest : ℕ) where
    abbrev Calls : HostAnswer Failure → Type 0
    Calls result = IsAnswer (host_call h number args m left) (λ a w. Unmoved h w) result v after rest

    pub unsent_call : (result : HostAnswer Failure) → is_send_inline (intrinsic_at number) ≡ false → Answers (intrinsic_at number) args m left result h v after rest → Calls result
    unfolding call
    unsent_call result is answers =
        subst (λ b. IsAnswer (map_outcome (over h) (checked b (intrinsic (intrinsic_at number) h.seen args m left))) (λ a w. Unmoved h w) result v after rest) (sym is) answers

    pub sent_call : (given result : HostAnswer Failure) → intrinsic_at number ≡ Some send → Answers (intrinsic_at number) args m left given h v after rest →
        Checked v given result → Calls result
    unfolding call
    sent_call given result is answers checks =
        subst (λ c. IsAnswer (map_outcome (over h) (checked (is_send_inline c) (intrinsic c h.seen args m left))) (λ a w. Unmoved h w) result v after rest) (sym is)
        (checked_answer h v after rest (intrinsic (Some send) h.seen args m left) keeps given result checks (subst (λ c. Answers c args m left given h v after rest) is answers))

    leaves : Unmoved h v → Leaves h v
    leaves u = (u.base, u.said, u.holder)

    pub weaker : (result : HostAnswer Failure) → Calls result → IsAnswer (host_call h number args m left) (λ a w. Leaves h w) result v after rest
    weaker (answer.Value n) e = e
    weaker answer.Nothing e = e
    weaker answer.Exit e = e
    weaker (answer.Refused f) e = (e.0, leaves e.1)
    weaker answer.StepLimit e = (e.0, leaves e.1)
    weaker answer.OutOfMemory u = leaves u

    -- ---- what may be called afterwards

    abbrev Stays : Type 0
    Stays = StaysAllowed (λ w f xs n. Allows w n) h left v rest

    abbrev Left : HostView → Type 0
    Left w = (s : Seen) × (over h s ≡ w) × Goes h.seen s

    goes_mapped : (reply : Reply Seen Failure) → Leaving (Goes h.seen) reply → Leaving Left (map_reply (over h) reply)
    goes_mapped (value n s k) g = (s, refl, g)
    goes_mapped (nothing s k) g = (s, refl, g)
    goes_mapped (exit s k) g = (s, refl, g)
    goes_mapped (refused f) g = tt
    goes_mapped step_limit g = tt

    left_so : Leaving Left (host_call h number args m left).reply
    left_so = goes_mapped (call h.seen number args m left).reply (call_fine h.seen number args m left).reply

    module _ (falls : rest ≤ left) where
      goes : Left v → Stays
      goes (s, is, g) = λ f xs less lt a. subst (λ x. Allows x less) is (allows_after h s left less (omega (arith, lt, falls)) g a)

      ready_so : (b : Base) → h.base ≡ b → ReadyFor v.seen.run.mode (record { under = h.base.under; top = v.seen.world; revision = h.base.revision; shelf = h.base.shelf }) h.base.writing →
          ReadyFor v.seen.run.mode (record { under = b.under; top = v.seen.world; revision = b.revision; shelf = b.shelf }) b.writing
      ready_so b is r = subst (λ (x : Base). ReadyFor v.seen.run.mode (record { under = x.under; top = v.seen.world; revision = x.revision; shelf = x.shelf }) x.writing) is r

      rests : Unmoved h v → Stays
      rests u = λ f xs less lt a. let b = allows_less h left less (omega (arith, lt, falls)) a in record {
        room = subst (HaveRoom less) (sym u.lists) b.room;
        ready = ready_so v.base (sym u.base) (record { mode = b.ready.mode ∙ ap is_writing (sym u.mode); session = b.ready.session; above = b.ready.above });
        packed = subst IsPacked (sym u.packed) b.packed;
      }

      pub stays : (result : HostAnswer Failure) → Calls result → Stays
      stays (answer.Value n) e = goes (subst (λ (x : Outcome HostView Failure). Leaving Left x.reply) e left_so)
      stays answer.Nothing e = goes (subst (λ (x : Outcome HostView Failure). Leaving Left x.reply) e left_so)
      stays answer.Exit e = goes (subst (λ (x : Outcome HostView Failure). Leaving Left x.reply) e left_so)
      stays (answer.Refused f) e = rests e.1
      stays answer.StepLimit e = rests e.1
      stays answer.OutOfMemory u = rests u
