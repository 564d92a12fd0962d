-- The sum of all usage after a change of one account's share, and the rule that it keeps.
use Rattle.std.proofs.Common.{◌≡◌, ℕ, ◌+◌, ◌-◌, ◌≤◌, ℤ, true, false, cond, not, T, List, [], ◌∷◌, length, slice_index_or, Result, Ok, Err, OnOk, OnErr, Option, Some, None, IfSome, refl, sym, ap, subst, ◌∙◌, arith, Ordering, Less, Equal, Greater, is_eq}
use Rattle.std.specs.Ordering.{eq_by_cmp, nat_cmp}
use Rattle.std.specs.Cmp.{IsTotalOrder}
use Rattle.std.specs.List.{AllByRecursion}
use Rattle.std.specs.FinMap.Entries.{by_order, find, is_sorted}
use Rattle.std.proofs.lemmas.Bool.Decides.{nat_tests}
use Rattle.std.proofs.lemmas.Cmp.{tied_itself, nat_cmp_total}
use Rattle.ante_undo.specs.Entries.{with_entry, without_key, changed}
use Rattle.ante_undo.proofs.Entries.{find_changed, sorted_changed, all_changed}
use Rattle.ante_sums.specs.Weights.{weight_at}
use Rattle.ante_sums.proofs.Changed.{weight_within, weight_changed}
use Rattle.std.proofs.lemmas.Slice.Zip.{firsts-zip}
use Rattle.ante_undo.specs.Stack.{Stack, with_top, under_top}
use Rattle.ante_sessions.specs.Zipped.{zip_stacks, Alike}
use Rattle.ante_sessions.specs.Seen.{map_stack, Throughout}
use Rattle.ante_sessions.proofs.Seen.{kept_top}
use Rattle.ante_pack.specs.declared.names.Name.{Name}
use Rattle.ante_state.specs.Billing.{most_usage}
use Rattle.ante_ram.specs.declared.parts.Share.{Share}
use Rattle.ante_ram.specs.declared.parts.Rest.{Rest}
use Rattle.ante_ram.specs.Usage.{used_of, usage_sum, is_free, entry_of, with_share}
use Rattle.ante_ram.specs.Total.{rest_of, IsSummed}

-- what an account uses is what its entry weighs
used_is : (k : Name) (share : Option Share) → used_of share ≡ weight_at (λ e. e.1.used) k share
used_is k None = refl
used_is k (Some share) = refl

-- what one account uses is a part of the sum
pub used_within : (cmp : Name → Name → Ordering) (k : Name) (es : List (Name × Share)) → used_of (find cmp k es) ≤ usage_sum es
used_within cmp k es = omega (arith, used_is k (find cmp k es), weight_within cmp (λ e. e.1.used) (λ k x share tied. refl) k es)

-- an account's entry is not free, where there is one
entry_counted : (used : ℕ) (quota : ℤ) → IfSome (entry_of used quota) (λ share. T (not (is_free share.used share.quota)))
entry_counted used quota =
    elim (is_free used quota) as (λ b. is_free used quota ≡ b → IfSome (cond b None (Some (record { used = used; quota = quota }))) (λ (share : Share). T (not (is_free share.used share.quota)))) [
      | true ↦ λ p. tt
      | false ↦ λ p. subst (λ b. T (not b)) (sym p) tt
    ] refl

module _ (cmp : Name → Name → Ordering) where
  module _ (o : IsTotalOrder cmp) where
    free_uses_nothing : (used : ℕ) (quota : ℤ) → is_free used quota ≡ true → used ≡ 0
    free_uses_nothing used quota h = grind (arith, nat_tests)

    pub used_entry : (used : ℕ) (quota : ℤ) → used_of (entry_of used quota) ≡ used
    used_entry used quota = elim (is_free used quota) as (λ b. is_free used quota ≡ b → used_of (cond b None (Some (record { used = used; quota = quota }))) ≡ used) [
      | true ↦ λ p. sym (free_uses_nothing used quota p)
      | false ↦ λ p. refl
    ] refl

    -- the account's old usage goes out of the sum, and its new usage comes in
    pub sum_share : (k : Name) (used : ℕ) (quota : ℤ) (es : List (Name × Share)) → T (is_sorted cmp es) → usage_sum (with_share cmp k used quota es) + used_of (find cmp k es) ≡ usage_sum es + used
    sum_share k used quota es h = omega (
      arith,
      weight_changed cmp (λ e. e.1.used) (λ k x share tied. refl) o es k (entry_of used quota) h,
      used_is k (find cmp k es),
      used_is k (entry_of used quota),
      used_entry used quota,
    )

    used_share : (k : Name) (used : ℕ) (quota : ℤ) (es : List (Name × Share)) → used_of (find cmp k (with_share cmp k used quota es)) ≡ used
    used_share k used quota es = ap used_of (find_changed cmp o es k (entry_of used quota) k ∙ ap (λ r. cond (is_eq r) (entry_of used quota) (find cmp k es)) (tied_itself o k)) ∙ used_entry used quota

    rest_found : (rest : Rest) (rests : List (ℕ × Rest)) → rest_of (find nat_cmp 0 (changed nat_cmp rests 0 (Some rest))) ≡ rest
    rest_found rest rests = ap rest_of (find_changed nat_cmp nat_cmp_total rests 0 (Some rest) 0)

    -- the rest beside an account is written down
    pub rested : (rest : Rest) (m : List (Name × Share) × List (ℕ × Rest)) → rest.used + used_of (find cmp rest.account m.0) ≡ usage_sum m.0 → IsSummed cmp m → IsSummed cmp (m.0, changed nat_cmp m.1 0 (Some rest))
    rested rest m e is = record {
      sorted = is.sorted;
      total = subst (λ r. r.used + used_of (find cmp r.account m.0) ≡ usage_sum m.0) (sym (rest_found rest m.1)) e;
      small = is.small;
      counted = is.counted;
    }

    -- and then the account's share
    pub shared : (rest : Rest) (used : ℕ) (quota : ℤ) (m : List (Name × Share) × List (ℕ × Rest)) → rest.used + used_of (find cmp rest.account m.0) ≡ usage_sum m.0 → rest.used + used ≤ most_usage → IsSummed cmp m → IsSummed cmp (with_share cmp rest.account used quota m.0, changed nat_cmp m.1 0 (Some rest))
    shared rest used quota m e small is = record {
      sorted = sorted_changed cmp o m.0 rest.account (entry_of used quota) is.sorted;
      total = subst (λ r. r.used + used_of (find cmp r.account (with_share cmp rest.account used quota m.0)) ≡ usage_sum (with_share cmp rest.account used quota m.0)) (sym (rest_found rest m.1))
          (omega (arith, used_share rest.account used quota m.0, sum_share rest.account used quota m.0 is.sorted));
      small = omega (arith, sum_share rest.account used quota m.0 is.sorted);
      counted = all_changed cmp (λ e. T (not (is_free e.1.used e.1.quota))) m.0 rest.account (entry_of used quota) (entry_counted used quota) is.counted;
    }

    -- a writing call first writes the rest down and then the share, or is refused before one of them
    pub written : {A E : Type 0} (rest : Rest) (used : ℕ) (quota : ℤ) (old s s2 : Stack (List (Name × Share) × List (ℕ × Rest))) (r : Result A E) → s ≡ with_top (old.top.0, changed nat_cmp old.top.1 0 (Some rest)) old → OnOk r (s2 ≡ with_top (with_share cmp rest.account used quota s.top.0, s.top.1) s) → OnErr r (s2 ≡ s) → rest.used + used_of (find cmp rest.account old.top.0) ≡ usage_sum old.top.0 → rest.used + used ≤ most_usage → Throughout (IsSummed cmp) old → Throughout (IsSummed cmp) s2
    written rest used quota old s s2 (Ok a) e ok err others small is =
        kept_top (IsSummed cmp) (with_share cmp rest.account used quota s.top.0, s.top.1) s s2 ok
        (subst (λ t. IsSummed cmp (with_share cmp rest.account used quota t.0, t.1)) (sym (ap (λ s. s.top) e)) (shared rest used quota old.top others small is.top))
        (kept_top (IsSummed cmp) (old.top.0, changed nat_cmp old.top.1 0 (Some rest)) old s e (rested rest old.top others is.top) is)
    written rest used quota old s s2 (Err a) e ok err others small is =
        subst (Throughout (IsSummed cmp)) (sym err) (kept_top (IsSummed cmp) (old.top.0, changed nat_cmp old.top.1 0 (Some rest)) old s e (rested rest old.top others is.top) is)

-- what the newest session began with, seen without the rests
pub under_seen : {X Y : Type 0} (a : Stack X) (b : Stack Y) → Alike a b → under_top (map_stack (λ m. m.0) (zip_stacks a b)) ≡ under_top a
under_seen a b h = ap (λ maps. slice_index_or maps (length maps - 1) a.top) (firsts-zip a.under b.under (sym h.under))
