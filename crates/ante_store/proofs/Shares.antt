-- The usage that the parts keep is what the world's bills and quotas give.
use Rattle.std.proofs.Common.{◌≡◌, ℕ, ◌==◌, ℤ, negsuc, Bool, true, false, true≢false, cond, not, ◌||◌, T, List, [], ◌∷◌, ◌++◌, map, Option, Some, None, is_some, refl, sym, ap, ◌∙◌, arith}
use Rattle.std.specs.Ordering.{eq_by_cmp, int_eq}
use Rattle.std.specs.Option.{unwrap_or}
use Rattle.std.specs.List.{sum_by, list_any, AllByRecursion}
use Rattle.std.specs.FinMap.Entries.{find, is_sorted, same_entries, is_some-find}
use Rattle.std.proofs.lemmas.Bool.Decides.{Decides-int_eq}
use Rattle.std.proofs.lemmas.List.Sums.{sum_by-cons}
use Rattle.ante_undo.proofs.Entries.{find_changed, sorted_changed}
use Rattle.ante_pack.specs.declared.names.Name.{Name}
use Rattle.ante_state.specs.Orders.{name_order}
use Rattle.ante_types.specs.World.{World, bills, paid_by, used}
use Rattle.ante_ram.specs.declared.parts.Share.{Share}
use Rattle.ante_ram.specs.Usage.{used_of, quota_of, is_free, entry_of}
use Rattle.ante_digest.specs.Digest.{quota, shares, usage_of}
use Rattle.ante_store.specs.Bills.{limit, quotas_of}
use Rattle.ante_store.proofs.KeyOrders.{names_total, names_exact}
use Rattle.ante_store.proofs.Quotas.{tied, find_quotas}

abbrev is_counted : Name × Share → Type 0
is_counted e = T (not (is_free e.1.used e.1.quota))

-- the entry that an account's usage and quota give
abbrev entry : World → Name → Option Share
entry w account = entry_of (used w account) (quota w account)

abbrev is_named : Name → List Name → Bool
is_named account names = list_any (eq_by_cmp name_order account) names

test_is : (a payer : Name) → (payer.0 == a.0) ≡ eq_by_cmp name_order a payer
test_is a payer = grind arith

neither : (a b : Bool) → (a || b) ≡ false → (a ≡ false) × (b ≡ false)
neither true b p = absurd (true≢false p)
neither false b p = (refl, p)

named_in_both : (q : Name) (xs ys : List Name) → is_named q (xs ++ ys) ≡ (is_named q xs || is_named q ys)
named_in_both q [] ys = refl
named_in_both q (x ∷ xs) ys = elim (eq_by_cmp name_order q x) as (λ b. (b || is_named q (xs ++ ys)) ≡ ((b || is_named q xs) || is_named q ys)) [ true ↦ refl | false ↦ named_in_both q xs ys ]

-- an account that no bill names pays nothing
unpaid : (q : Name) (bs : List (Name × ℕ)) → is_named q (map (λ bill. bill.0) bs) ≡ false → sum_by (paid_by q) bs ≡ 0
unpaid q [] h = refl
unpaid q (b ∷ bs) h =
    let apart = neither (eq_by_cmp name_order q b.0) (is_named q (map (λ bill. bill.0) bs)) h in
    let none : paid_by q b ≡ 0 = ap (λ t. cond t b.1 0) (test_is q b.0 ∙ apart.0) in
    sum_by-cons (paid_by q) b bs ∙ omega (arith, none, unpaid q bs apart.1)

not_there : (o : Option ℤ) → is_some o ≡ false → unwrap_or o (negsuc 0) ≡ negsuc 0
not_there None h = refl
not_there (Some z) h = absurd (true≢false h)

-- an account that nothing names has no entry
unnamed : (w : World) (q : Name) → is_named q (map (λ bill. bill.0) (bills w) ++ map (λ e. e.0) w.quotas) ≡ false → entry w q ≡ None
unnamed w q h =
    let apart = neither _ _ (sym (named_in_both q (map (λ bill. bill.0) (bills w)) (map (λ e. e.0) w.quotas)) ∙ h) in
    ap (λ n. entry_of n (quota w q)) (unpaid q (bills w) apart.0) ∙ ap (entry_of 0) (not_there (find name_order q w.quotas) (is_some-find name_order q w.quotas ∙ apart.1))

limited : (z : ℤ) → unwrap_or (limit z) (negsuc 0) ≡ z
limited z = elim (int_eq z (negsuc 0)) as (λ b. int_eq z (negsuc 0) ≡ b → unwrap_or (cond b None (Some z)) (negsuc 0) ≡ z) [
  | true ↦ λ p. sym ((Decides-int_eq z (negsuc 0)).0 p)
  | false ↦ λ p. refl
] refl

counted_entry : (s : Share) → T (not (is_free s.used s.quota)) → entry_of s.used s.quota ≡ Some s
counted_entry s h = elim (is_free s.used s.quota) as (λ b. T (not b) → cond b None (Some s) ≡ Some s) [
  | true ↦ λ h. absurd h
  | false ↦ λ h. refl
] h

-- what is found is what its parts give
found : (q : Name) (m : List (Name × Share)) → AllByRecursion is_counted m → find name_order q m ≡ entry_of (used_of (find name_order q m)) (quota_of (find name_order q m))
found q [] h = refl
found q (e ∷ es) h = elim (eq_by_cmp name_order q e.0) as (λ b. cond b (Some e.1) (find name_order q es) ≡ entry_of (used_of (cond b (Some e.1) (find name_order q es))) (quota_of (cond b (Some e.1) (find name_order q es)))) [
  | true ↦ sym (counted_entry e.1 h.0)
  | false ↦ found q es h.1
]

sorted_shares : (w : World) (names : List Name) → T (is_sorted name_order (shares w names))
sorted_shares w [] = tt
sorted_shares w (a ∷ names) = sorted_changed name_order names_total (shares w names) a (entry w a) (sorted_shares w names)

find_shares : (w : World) (names : List Name) (q : Name) → find name_order q (shares w names) ≡ cond (is_named q names) (entry w q) None
find_shares w [] q = refl
find_shares w (a ∷ names) q =
    find_changed name_order names_total (shares w names) a (entry w a) q
    ∙ by_test (find_shares w names q) (eq_by_cmp name_order q a) refl
  where
    by_test : find name_order q (shares w names) ≡ cond (is_named q names) (entry w q) None → (b : Bool) → eq_by_cmp name_order q a ≡ b → cond b (entry w a) (find name_order q (shares w names)) ≡ cond (b || is_named q names) (entry w q) None
    by_test rest true p = ap (entry w) (sym (names_exact q a (tied (name_order q a) p)))
    by_test rest false p = rest

pub usage_is : (w : World) (m : List (Name × Share)) → T (is_sorted name_order m) → AllByRecursion is_counted m → ((a : Name) → used_of (find name_order a m) ≡ used w a) → quotas_of m ≡ w.quotas → m ≡ usage_of w
usage_is w m sorted counted is quotas = same_entries name_order names_total names_exact m (usage_of w) sorted (sorted_shares w names) (λ q. found q m counted ∙ parts q ∙ sym (find_shares w names q ∙ there q))
  where
    names : List Name
    names = map (λ bill. bill.0) (bills w) ++ map (λ e. e.0) w.quotas

    quota_is : (q : Name) → quota_of (find name_order q m) ≡ quota w q
    quota_is q =
        sym (limited (quota_of (find name_order q m))) ∙ ap (λ z. unwrap_or z (negsuc 0)) (sym (find_quotas name_order names_total q m sorted)) ∙ ap (λ es. unwrap_or (find name_order q es) (negsuc 0)) quotas

    parts : (q : Name) → entry_of (used_of (find name_order q m)) (quota_of (find name_order q m)) ≡ entry w q
    parts q = ap (λ n. entry_of n (quota_of (find name_order q m))) (is q) ∙ ap (entry_of (used w q)) (quota_is q)

    there : (q : Name) → cond (is_named q names) (entry w q) None ≡ entry w q
    there q = elim (is_named q names) as (λ b. is_named q names ≡ b → cond b (entry w q) None ≡ entry w q) [
      | true ↦ λ p. refl
      | false ↦ λ p. sym (unnamed w q p)
    ] refl
