-- A change that moves bills and one map: what follows for the rule, and for its refusal.
use Rattle.std.proofs.Common.{◌≡◌, ℕ, ◌≤◌, ◌<◌, true, false, cond, ◌||◌, T, List, [], Some, None, refl, sym, ap, subst, ◌∙◌, arith}
use Rattle.std.specs.Prelude.{nat_lt}
use Rattle.std.specs.Option.{option_or}
use Rattle.std.specs.List.{sum_by}
use Rattle.std.specs.FinMap.Entries.{find, is_sorted}
use Rattle.std.proofs.lemmas.Bool.Decides.{nat_tests}
use Rattle.ante_undo.specs.Stack.{Stack, with_top}
use Rattle.ante_pack.specs.declared.names.Name.{Name}
use Rattle.ante_state.specs.Billing.{most_usage}
use Rattle.ante_state.specs.Orders.{name_order}
use Rattle.ante_types.specs.World.{World, bills, paid_by, used_by_all}
use Rattle.ante_ram.specs.declared.parts.Share.{Share}
use Rattle.ante_ram.specs.Usage.{used_of, usage_sum}
use Rattle.ante_store.specs.declared.change.Change.{Change}
use Rattle.ante_store.specs.declared.change.WriteError.{WriteError}
use Rattle.ante_store.specs.declared.change.WriteError.TheVariants as error
use Rattle.ante_store.specs.Bills.{quotas_of, paid, IsRebilled, Rebills}
use Rattle.ante_store.specs.Changes.{after, misplaced, is_full, is_too_much, refusal, IsCause}
use Rattle.ante_store.specs.declared.parts.Maps.{Maps}
use Rattle.ante_store.specs.Worlds.{world_of, IsKept, IsBilled}
use Rattle.ante_store.specs.Applied.{with_usage, IsMade, IsUnpaid}

-- the maps that a change leads to, beside usage, and the bills that are removed and added
pub record Leads (c : Change) (removed added : List (Name × ℕ)) (old : Maps) (x : Maps) : Type 0 where
  pub placed : misplaced c (world_of old) ≡ None
  pub room : is_full c (world_of old) ≡ false
  pub usage : x.usage ≡ old.usage
  pub world : world_of x ≡ after c (world_of old)
  pub rebills : Rebills removed added (world_of old) (world_of x)
  pub within : (part : Name × ℕ → ℕ) → sum_by part removed ≤ sum_by part (bills (world_of old))
  pub kept : IsKept x

-- the same with the lists of bills as they were found
pub leads_as : (c : Change) (removed added g k : List (Name × ℕ)) (old : Maps) (x : Maps) → removed ≡ g → added ≡ k → Leads c g k old x → Leads c removed added old x
leads_as c removed added g k old x a b leads = subst (λ removed. Leads c removed added old x) (sym a) (subst (λ added. Leads c g added old x) (sym b) leads)

same_quotas : (x : Maps) (usage : List (Name × Share)) → quotas_of usage ≡ quotas_of x.usage → world_of (with_usage usage x) ≡ world_of x
same_quotas x usage e = ap (λ quotas. record (world_of x) { quotas = quotas }) e

not_over : (a b : ℕ) → a ≤ b → nat_lt b a ≡ false
not_over a b h = grind (arith, nat_tests)

over : (a b : ℕ) → b < a → nat_lt b a ≡ true
over a b h = grind (arith, nat_tests)

pub granted_by : (c : Change) (w : World) → misplaced c w ≡ None → is_full c w ≡ false → used_by_all (after c w) ≤ most_usage → refusal c w ≡ None
granted_by c w placed room small =
    ap (λ first. option_or first (cond (is_full c w || is_too_much c w) (Some error.RamTotal) None)) placed
    ∙ ap (λ full. cond (full || is_too_much c w) (Some error.RamTotal) None) room
    ∙ ap (λ over. cond over (Some error.RamTotal) None) (not_over (used_by_all (after c w)) most_usage small)

overfull_by : (c : Change) (w : World) → misplaced c w ≡ None → is_full c w ≡ false → most_usage < used_by_all (after c w) → refusal c w ≡ Some error.RamTotal
overfull_by c w placed room large =
    ap (λ first. option_or first (cond (is_full c w || is_too_much c w) (Some error.RamTotal) None)) placed
    ∙ ap (λ full. cond (full || is_too_much c w) (Some error.RamTotal) None) room
    ∙ ap (λ over. cond over (Some error.RamTotal) None) (over (used_by_all (after c w)) most_usage large)

-- the bills that are removed are a part of what their payers use
pub leads_within : (c : Change) (removed added : List (Name × ℕ)) (old : Maps) (x : Maps) → IsBilled old → Leads c removed added old x →
    (account : Name) → paid account removed ≤ used_of (find name_order account old.usage)
leads_within c removed added old x is leads account = omega (arith, leads.within (paid_by account), is.billed account)

-- usage moves as the bills do, and the rule holds
pub made : (c : Change) (removed added : List (Name × ℕ)) (old : Maps) (x : Maps) (shares : List (Name × Share)) →
    IsBilled old → Leads c removed added old x → IsRebilled removed added old.usage shares → usage_sum shares ≤ most_usage → IsMade c old (with_usage shares x)
made c removed added old x shares is leads rebilled small =
    let world : world_of (with_usage shares x) ≡ after c (world_of old) = same_quotas x shares (rebilled.quotas ∙ sym (ap quotas_of leads.usage)) ∙ leads.world in
    let total : used_by_all (world_of (with_usage shares x)) ≡ usage_sum shares = omega (arith, leads.rebills (λ bill. bill.1), rebilled.total, is.total) in
    record {
      granted = granted_by c (world_of old) leads.placed leads.room (omega (arith, ap used_by_all world, total, small));
      world = world;
      billed = record {
        kept = record { objects = leads.kept.objects; rows = leads.kept.rows };
        shares = rebilled.sorted;
        billed = λ account. omega (arith, leads.rebills (paid_by account), rebilled.used account, is.billed account);
        total = total;
        small = small;
      };
    }

-- bills that usage can't take in are the change's refusal
pub unpaid : (c : Change) (removed added : List (Name × ℕ)) (old : Maps) (x : Maps) (e : WriteError) →
    IsBilled old → Leads c removed added old x → IsUnpaid removed added old.usage e → IsCause c (world_of old) e
unpaid c removed added old x error.OutOfMemory is leads h = tt
unpaid c removed added old x error.WriteRefused is leads h = absurd h
unpaid c removed added old x error.RamTotal is leads h =
    overfull_by c (world_of old) leads.placed leads.room (omega (arith, h, leads.rebills (λ bill. bill.1), is.total, ap used_by_all leads.world))
unpaid c removed added old x error.Missing is leads h = absurd h
unpaid c removed added old x error.Exists is leads h = absurd h

-- ---- from bills to the maps

-- one change after another
pub twice : (first second : Maps → Maps) (old mid new : Stack Maps) → mid ≡ with_top (first old.top) old → new ≡ with_top (second mid.top) mid → new ≡ with_top (second (first old.top)) old
twice first second old mid new e e2 = e2 ∙ ap (λ s. with_top (second s.top) s) e

-- what the parts show after the bills and then a map were changed
pub made_then : (c : Change) (removed added : List (Name × ℕ)) (change : Maps → Maps) (x : Maps) (old mid new : Stack Maps) →
    ((shares : List (Name × Share)) → change (with_usage shares old.top) ≡ with_usage shares x) → IsBilled old.top → Leads c removed added old.top x →
    IsRebilled removed added old.top.usage mid.top.usage → usage_sum mid.top.usage ≤ most_usage → mid ≡ with_top (with_usage mid.top.usage old.top) old → new ≡ with_top (change mid.top) mid → IsMade c old.top new.top
made_then c removed added change x old mid new is_x is leads rebilled small same e =
    let top : new.top ≡ with_usage mid.top.usage x = ap (λ s. s.top) e ∙ ap (λ s. change s.top) same ∙ is_x mid.top.usage in
    subst (IsMade c old.top) (sym top) (made c removed added old.top x mid.top.usage is leads rebilled small)

nothing_rebilled : (shares : List (Name × Share)) → T (is_sorted name_order shares) → IsRebilled [] [] shares shares
nothing_rebilled shares sorted = record { sorted = sorted; used = λ account. refl; total = refl; quotas = refl }

-- where nothing is billed, one map alone is changed
pub made_alone : (c : Change) (change : Maps → Maps) (x : Maps) (old new : Stack Maps) → change old.top ≡ with_usage old.top.usage x → IsBilled old.top → Leads c [] [] old.top x →
    new ≡ with_top (change old.top) old → IsMade c old.top new.top
made_alone c change x old new is_x is leads e =
    subst (IsMade c old.top) (sym (ap (λ s. s.top) e ∙ is_x)) (made c [] [] old.top x old.top.usage is leads (nothing_rebilled old.top.usage is.shares) is.small)
