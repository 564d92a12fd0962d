-- Usage after one bill more was taken out of it or added to it.
use Rattle.std.proofs.Common.{◌≡◌, ℕ, suc, ◌+◌, ◌-◌, ◌≤◌, ◌<◌, ◌==◌, Bool, true, false, cond, T, ℤ, List, [], ◌∷◌, ◌++◌, length, take, slice_index_or, refl, sym, ap, subst, ◌∙◌, arith, Equal}
use Rattle.std.specs.Ordering.{eq_by_cmp}
use Rattle.std.specs.Cmp.{IsTotalOrder}
use Rattle.std.specs.FinMap.Entries.{find, is_sorted}
use Rattle.std.proofs.lemmas.List.Sums.{sum_by_push, sum_by-take-le}
use Rattle.std.proofs.Math.Seq.{take-suc}
use Rattle.ante_ram.proofs.Sums.{used_within}
use Rattle.ante_undo.specs.Stack.{Stack, with_top}
use Rattle.ante_undo.proofs.Entries.{find_changed, sorted_changed}
use Rattle.ante_pack.specs.declared.names.Name.{Name}
use Rattle.ante_state.specs.Billing.{most_usage}
use Rattle.ante_state.specs.Orders.{name_order}
use Rattle.ante_types.specs.World.{paid_by}
use Rattle.ante_ram.specs.declared.parts.Share.{Share}
use Rattle.ante_ram.specs.Usage.{used_of, quota_of, usage_sum, entry_of, with_share}
use Rattle.ante_ram.proofs.Sums.{used_entry, sum_share}
use Rattle.ante_store.specs.Bills.{quotas_of, paid, IsRebilled}
use Rattle.ante_store.proofs.Quotas.{quotas_stand}

-- an account is the payer exactly where their names tie
test_is : (a payer : Name) → (payer.0 == a.0) ≡ eq_by_cmp name_order a payer
test_is a payer = grind arith

is_tied : (k a : Name) → (k.0 == a.0) ≡ true → name_order k a ≡ Equal
is_tied k a p = grind arith

module _ (o : IsTotalOrder name_order) (exact : (a b : Name) → name_order a b ≡ Equal → a ≡ b) where
  -- what an account uses after its share, or another's, is written
  used_after : (k : Name) (used : ℕ) (quota : ℤ) (es : List (Name × Share)) (a : Name) → used_of (find name_order a (with_share name_order k used quota es)) ≡ cond (k.0 == a.0) used (used_of (find name_order a es))
  used_after k used quota es a =
      ap used_of (find_changed name_order o es k (entry_of used quota) a)
      ∙ by_test (eq_by_cmp name_order a k)
      ∙ ap (λ b. cond b used (used_of (find name_order a es))) (sym (test_is a k))
    where
      by_test : (b : Bool) → used_of (cond b (entry_of used quota) (find name_order a es)) ≡ cond b used (used_of (find name_order a es))
      by_test true = used_entry name_order o used quota
      by_test false = refl

  -- a share with the usage that the account has leaves all usage as it was
  pub used_stands : (k : Name) (quota : ℤ) (es : List (Name × Share)) (a : Name) → used_of (find name_order a (with_share name_order k (used_of (find name_order k es)) quota es)) ≡ used_of (find name_order a es)
  used_stands k quota es a = used_after k (used_of (find name_order k es)) quota es a ∙ by_key (k.0 == a.0) refl
    where
      by_key : (b : Bool) → (k.0 == a.0) ≡ b → cond (k.0 == a.0) (used_of (find name_order k es)) (used_of (find name_order a es)) ≡ used_of (find name_order a es)
      by_key true p = ap (λ b. cond b (used_of (find name_order k es)) (used_of (find name_order a es))) p ∙ ap (λ x. used_of (find name_order x es)) (exact k a (is_tied k a p))
      by_key false p = ap (λ b. cond b (used_of (find name_order k es)) (used_of (find name_order a es))) p

  abbrev now : Name → List (Name × Share) → ℕ
  now a es = used_of (find name_order a es)

  abbrev quota_now : Name → List (Name × Share) → ℤ
  quota_now a es = quota_of (find name_order a es)

  -- one bill more is added
  pub one_added : (removed added : List (Name × ℕ)) (k : Name) (size : ℕ) (old mid new : List (Name × Share)) → IsRebilled removed added old mid → new ≡ with_share name_order k (now k mid + size) (quota_now k mid) mid → IsRebilled removed (added ++ (k, size) ∷ []) old new
  one_added removed added k size old mid new is e = record {
    sorted = subst (λ m. T (is_sorted name_order m)) (sym e) (sorted_changed name_order o mid k (entry_of (now k mid + size) (quota_now k mid)) is.sorted);
    used = λ a. omega (
      arith,
      ap (λ m. now a m) e,
      used_after k (now k mid + size) (quota_now k mid) mid a,
      is.used a,
      sum_by_push (paid_by a) added (k, size),
      raised a (k.0 == a.0) refl,
    );
    total = omega (arith, ap usage_sum e, sum_share name_order o k (now k mid + size) (quota_now k mid) mid is.sorted, is.total, sum_by_push (λ bill. bill.1) added (k, size));
    quotas = ap quotas_of e ∙ quotas_stand name_order o exact k (now k mid + size) mid is.sorted ∙ is.quotas;
  }
    where
      raised : (a : Name) (b : Bool) → (k.0 == a.0) ≡ b → cond (k.0 == a.0) (now k mid + size) (now a mid) ≡ now a mid + cond (k.0 == a.0) size 0
      raised a true p = ap (λ b. cond b (now k mid + size) (now a mid)) p ∙ ap (λ x. now x mid + size) (exact k a (is_tied k a p)) ∙ sym (ap (λ b. now a mid + cond b size 0) p)
      raised a false p = ap (λ b. cond b (now k mid + size) (now a mid)) p ∙ omega (arith, ap (λ b. now a mid + cond b size 0) p)

  -- one bill more is taken out: the payer used at least as much
  pub one_removed : (removed added : List (Name × ℕ)) (k : Name) (size : ℕ) (old mid new : List (Name × Share)) → size ≤ now k mid → IsRebilled removed added old mid → new ≡ with_share name_order k (now k mid - size) (quota_now k mid) mid → IsRebilled (removed ++ (k, size) ∷ []) added old new
  one_removed removed added k size old mid new le is e = record {
    sorted = subst (λ m. T (is_sorted name_order m)) (sym e) (sorted_changed name_order o mid k (entry_of (now k mid - size) (quota_now k mid)) is.sorted);
    used = λ a. omega (
      arith,
      ap (λ m. now a m) e,
      used_after k (now k mid - size) (quota_now k mid) mid a,
      is.used a,
      sum_by_push (paid_by a) removed (k, size),
      lowered a (k.0 == a.0) refl,
    );
    total = omega (arith, ap usage_sum e, sum_share name_order o k (now k mid - size) (quota_now k mid) mid is.sorted, is.total, sum_by_push (λ bill. bill.1) removed (k, size), le);
    quotas = ap quotas_of e ∙ quotas_stand name_order o exact k (now k mid - size) mid is.sorted ∙ is.quotas;
  }
    where
      lowered : (a : Name) (b : Bool) → (k.0 == a.0) ≡ b → cond (k.0 == a.0) (now k mid - size) (now a mid) + cond (k.0 == a.0) size 0 ≡ now a mid
      lowered a true p = ap (λ b. cond b (now k mid - size) (now a mid) + cond b size 0) p ∙ omega (arith, le, ap (λ x. now x mid) (exact k a (is_tied k a p)))
      lowered a false p = ap (λ b. cond b (now k mid - size) (now a mid) + cond b size 0) p ∙ omega arith

-- what a payer pays of a bill of its own
pays_all : (bill : Name × ℕ) → paid_by bill.0 bill ≡ bill.1
pays_all bill = grind arith

pub take_next : {X : Type 0} (xs : List X) (i : ℕ) (d : X) → i < length xs → take (i + 1) xs ≡ take i xs ++ slice_index_or xs i d ∷ []
take_next xs i d lt = let next : i + 1 ≡ suc i = omega arith in ap (λ n. take n xs) next ∙ take-suc xs i d lt

-- a top over a stack that differs from the first in its top alone
pub over_top : {M : Type 0} (x : M) (first mid new : Stack M) → new ≡ with_top x mid → mid ≡ with_top mid.top first → new ≡ with_top new.top first
over_top x first mid new e h = e ∙ ap (with_top x) h ∙ ap (λ t. with_top t first) (sym (ap (λ s. s.top) e))

-- the next of the bills is within what its payer still uses
pub next_within : (bills : List (Name × ℕ)) (i : ℕ) (d : Name × ℕ) (old mid : List (Name × Share)) → i < length bills → ((a : Name) → paid a bills ≤ used_of (find name_order a old)) → IsRebilled (take i bills) [] old mid →
    (slice_index_or bills i d).1 ≤ used_of (find name_order (slice_index_or bills i d).0 mid)
next_within bills i d old mid lt within is =
    let bill = slice_index_or bills i d in
    omega (
      arith,
      within bill.0,
      is.used bill.0,
      sum_by-take-le (paid_by bill.0) bills (i + 1),
      ap (paid bill.0) (take_next bills i d lt),
      sum_by_push (paid_by bill.0) (take i bills) bill,
      pays_all bill,
    )

pub next_fits : (bills : List (Name × ℕ)) (i : ℕ) (d : Name × ℕ) (old mid : List (Name × Share)) → i < length bills → ((a : Name) → paid a bills ≤ used_of (find name_order a old)) → IsRebilled (take i bills) [] old mid → usage_sum old ≤ most_usage → (slice_index_or bills i d).1 ≤ most_usage
next_fits bills i d old mid lt within is small =
    let bill = slice_index_or bills i d in
    omega (arith, next_within bills i d old mid lt within is, is.used bill.0, used_within name_order bill.0 old, small)

module _ (o : IsTotalOrder name_order) (exact : (a b : Name) → name_order a b ≡ Equal → a ≡ b) where
  -- one turn of the loop that takes bills out, and of the one that adds them
  pub next_removed : (bills : List (Name × ℕ)) (i : ℕ) (d : Name × ℕ) (old mid : List (Name × Share)) (new : List (Name × Share)) → i < length bills → ((a : Name) → paid a bills ≤ used_of (find name_order a old)) → IsRebilled (take i bills) [] old mid →
      new ≡ with_share name_order (slice_index_or bills i d).0 (used_of (find name_order (slice_index_or bills i d).0 mid) - (slice_index_or bills i d).1) (quota_of (find name_order (slice_index_or bills i d).0 mid)) mid → IsRebilled (take (i + 1) bills) [] old new
  next_removed bills i d old mid new lt within is e =
      let bill = slice_index_or bills i d in
      subst (λ removed. IsRebilled removed [] old new) (sym (take_next bills i d lt)) (one_removed o exact (take i bills) [] bill.0 bill.1 old mid new (next_within bills i d old mid lt within is) is e)

  pub next_added : (bills : List (Name × ℕ)) (i : ℕ) (d : Name × ℕ) (old mid : List (Name × Share)) (new : List (Name × Share)) → i < length bills → IsRebilled [] (take i bills) old mid →
      new ≡ with_share name_order (slice_index_or bills i d).0 (used_of (find name_order (slice_index_or bills i d).0 mid) + (slice_index_or bills i d).1) (quota_of (find name_order (slice_index_or bills i d).0 mid)) mid → IsRebilled [] (take (i + 1) bills) old new
  next_added bills i d old mid new lt is e =
      let bill = slice_index_or bills i d in
      subst (λ added. IsRebilled [] added old new) (sym (take_next bills i d lt)) (one_added o exact [] (take i bills) bill.0 bill.1 old mid new is e)

  -- and the sum stays within bounds where the bill was let in
  pub next_small : (k : Name) (size : ℕ) (mid new : List (Name × Share)) → T (is_sorted name_order mid) → new ≡ with_share name_order k (used_of (find name_order k mid) + size) (quota_of (find name_order k mid)) mid → usage_sum mid + size ≤ most_usage → usage_sum new ≤ most_usage
  next_small k size mid new sorted e le = omega (arith, ap usage_sum e, sum_share name_order o k (used_of (find name_order k mid) + size) (quota_of (find name_order k mid)) mid sorted, le)
