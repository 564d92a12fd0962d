-- Quotas after a change of one account's share.
use Rattle.std.proofs.Common.{◌≡◌, ℕ, ℤ, negsuc, Bool, true, false, cond, ◌&&◌, ◌==◌, T, List, [], ◌∷◌, Some, None, refl, sym, ap, ◌∙◌, Ordering, Less, Equal, Greater, is_eq}
use Rattle.std.specs.Ordering.{int_eq, eq_by_cmp}
use Rattle.std.specs.Cmp.{IsTotalOrder}
use Rattle.std.specs.FinMap.Entries.{find, is_sorted, below_all, same_entries}
use Rattle.std.proofs.lemmas.Bool.Decides.{Decides-int_eq}
use Rattle.ante_undo.specs.Entries.{changed}
use Rattle.ante_undo.proofs.Entries.{both, first, second, find_changed, sorted_changed}
use Rattle.ante_sums.proofs.Changed.{absent, not_above}
use Rattle.ante_pack.specs.declared.names.Name.{Name}
use Rattle.ante_ram.specs.declared.parts.Share.{Share}
use Rattle.ante_ram.specs.Usage.{quota_of, is_free, entry_of, with_share}
use Rattle.ante_store.specs.Bills.{limit, quotas_of}

second_true : (a b : Bool) → (a && b) ≡ true → b ≡ true
second_true true b p = p
second_true false b p = cc

pub tied : (r : Ordering) → is_eq r ≡ true → r ≡ Equal
tied Less p = cc
tied Equal p = refl
tied Greater p = cc

module _ (cmp : Name → Name → Ordering) where
  below_quotas : (x : Name) (es : List (Name × Share)) → T (below_all cmp x es) → T (below_all cmp x (quotas_of es))
  below_quotas x [] h = tt
  below_quotas x (e ∷ es) h =
      let rest = below_quotas x es (second _ _ h) in
      elim (int_eq e.1.quota (negsuc 0)) as (λ b. T (below_all cmp x (cond b (quotas_of es) ((e.0, e.1.quota) ∷ quotas_of es)))) [
        | true ↦ rest
        | false ↦ both _ _ (first _ _ h) rest
      ]

  pub sorted_quotas : (es : List (Name × Share)) → T (is_sorted cmp es) → T (is_sorted cmp (quotas_of es))
  sorted_quotas [] h = tt
  sorted_quotas (e ∷ es) h =
      let rest = sorted_quotas es (second _ _ h) in
      elim (int_eq e.1.quota (negsuc 0)) as (λ b. T (is_sorted cmp (cond b (quotas_of es) ((e.0, e.1.quota) ∷ quotas_of es)))) [
        | true ↦ rest
        | false ↦ both _ _ (below_quotas e.0 es (first _ _ h)) rest
      ]

  module _ (o : IsTotalOrder cmp) where
    -- a quota is found where the account has a share with one
    pub find_quotas : (q : Name) (es : List (Name × Share)) → T (is_sorted cmp es) → find cmp q (quotas_of es) ≡ limit (quota_of (find cmp q es))
    find_quotas q [] h = refl
    find_quotas q (e ∷ es) h =
        let rest = find_quotas q es (second _ _ h) in
        elim (cmp q e.0) as (λ r. cmp q e.0 ≡ r → find cmp q (cond (int_eq e.1.quota (negsuc 0)) (quotas_of es) ((e.0, e.1.quota) ∷ quotas_of es)) ≡ limit (quota_of (cond (is_eq r) (Some e.1) (find cmp q es)))) [
          | Less ↦ λ p. other Less p refl rest
          | Equal ↦ λ p. same p (rest ∙ ap (λ share. limit (quota_of share)) (absent cmp o q e.0 es Equal p (not_above cmp o q e.0 Equal p tt) (first _ _ h)))
          | Greater ↦ λ p. other Greater p refl rest
        ] refl
      where
        other : (r : Ordering) → cmp q e.0 ≡ r → is_eq r ≡ false → find cmp q (quotas_of es) ≡ limit (quota_of (find cmp q es)) → find cmp q (cond (int_eq e.1.quota (negsuc 0)) (quotas_of es) ((e.0, e.1.quota) ∷ quotas_of es)) ≡ limit (quota_of (find cmp q es))
        other r p no_tie rest =
            elim (int_eq e.1.quota (negsuc 0)) as (λ b. find cmp q (cond b (quotas_of es) ((e.0, e.1.quota) ∷ quotas_of es)) ≡ limit (quota_of (find cmp q es))) [
              | true ↦ rest
              | false ↦ ap (λ b. cond b (Some e.1.quota) (find cmp q (quotas_of es))) (ap is_eq p ∙ no_tie) ∙ rest
            ]

        same : cmp q e.0 ≡ Equal → find cmp q (quotas_of es) ≡ None → find cmp q (cond (int_eq e.1.quota (negsuc 0)) (quotas_of es) ((e.0, e.1.quota) ∷ quotas_of es)) ≡ limit e.1.quota
        same p none =
            elim (int_eq e.1.quota (negsuc 0)) as (λ b. find cmp q (cond b (quotas_of es) ((e.0, e.1.quota) ∷ quotas_of es)) ≡ cond b None (Some e.1.quota)) [
              | true ↦ none
              | false ↦ ap (λ r. cond (is_eq r) (Some e.1.quota) (find cmp q (quotas_of es))) p
            ]

    quota_entry : (used : ℕ) (quota : ℤ) → quota_of (entry_of used quota) ≡ quota
    quota_entry used quota = elim (is_free used quota) as (λ b. is_free used quota ≡ b → quota_of (cond b None (Some (record { used = used; quota = quota }))) ≡ quota) [
      | true ↦ λ p. sym ((Decides-int_eq quota (negsuc 0)).0 (second_true (used == 0) (int_eq quota (negsuc 0)) p))
      | false ↦ λ p. refl
    ] refl

    -- the account's quota is the new one, and the others stay
    pub quotas_share : ((a b : Name) → cmp a b ≡ Equal → a ≡ b) → (k : Name) (used : ℕ) (quota : ℤ) (es : List (Name × Share)) → T (is_sorted cmp es) → quotas_of (with_share cmp k used quota es) ≡ changed cmp (quotas_of es) k (limit quota)
    quotas_share exact k used quota es h =
        let after = sorted_changed cmp o es k (entry_of used quota) h in
        same_entries cmp o exact _ _ (sorted_quotas _ after) (sorted_changed cmp o (quotas_of es) k (limit quota) (sorted_quotas es h)) (λ q.
        find_quotas q _ after
        ∙ ap (λ share. limit (quota_of share)) (find_changed cmp o es k (entry_of used quota) q)
        ∙ by_test (eq_by_cmp cmp q k) q
        ∙ sym (find_changed cmp o (quotas_of es) k (limit quota) q))
      where
        by_test : (b : Bool) (q : Name) → limit (quota_of (cond b (entry_of used quota) (find cmp q es))) ≡ cond b (limit quota) (find cmp q (quotas_of es))
        by_test true q = ap limit (quota_entry used quota)
        by_test false q = sym (find_quotas q es h)

    -- where the quota is the old one nothing changes
    pub quotas_stand : ((a b : Name) → cmp a b ≡ Equal → a ≡ b) → (k : Name) (used : ℕ) (es : List (Name × Share)) → T (is_sorted cmp es) → quotas_of (with_share cmp k used (quota_of (find cmp k es)) es) ≡ quotas_of es
    quotas_stand exact k used es h =
        quotas_share exact k used (quota_of (find cmp k es)) es h
        ∙ same_entries cmp o exact _ _ (sorted_changed cmp o (quotas_of es) k _ (sorted_quotas es h)) (sorted_quotas es h) (λ q.
        find_changed cmp o (quotas_of es) k (limit (quota_of (find cmp k es))) q
        ∙ ap (λ found. cond (eq_by_cmp cmp q k) found (find cmp q (quotas_of es))) (sym (find_quotas k es h))
        ∙ by_key q (eq_by_cmp cmp q k) refl)
      where
        by_key : (q : Name) (b : Bool) → eq_by_cmp cmp q k ≡ b → cond b (find cmp k (quotas_of es)) (find cmp q (quotas_of es)) ≡ find cmp q (quotas_of es)
        by_key q true p = ap (λ x. find cmp x (quotas_of es)) (sym (exact q k (tied (cmp q k) p)))
        by_key q false p = refl
