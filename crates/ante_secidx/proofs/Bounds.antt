-- Bounds by the secondary key alone are places in a table's list.
use Rattle.std.proofs.Common.{◌≡◌, ℕ, ◌<◌, ◌≤◌, true, false, cond, T, List, [], ◌∷◌, Some, None, option_map, refl, sym, ap, ◌∙◌, arith, Ordering, Less, Equal, Greater, is_eq}
use Rattle.std.specs.Ordering.{nat_cmp, ordering_then, is_ge, is_gt, is_le, eq_by_cmp, MatchOrdering}
use Rattle.std.specs.Option.{option_or}
use Rattle.std.specs.Cmp.{IsTotalOrder, ranks}
use Rattle.std.specs.List.{AllByRecursion}
use Rattle.std.specs.FinMap.Entries.{is_sorted, below_all}
use Rattle.ante_undo.specs.Entries.{entry_from, entry_after, entry_up_to, last_entry}
use Rattle.ante_undo.proofs.Entries.{first, second}
use Rattle.ante_pack.specs.declared.names.Name.{Name}
use Rattle.ante_pack.specs.declared.names.TableKey.{TableKey}
use Rattle.ante_state.specs.Orders.{table_order, pair_order}
use Rattle.ante_secidx.specs.Keys.{greatest_64}
use Rattle.ante_secidx.specs.Index.{Rows, index_of, lower_bound, upper_bound, exact_match, only_at}
use Rattle.ante_secidx.proofs.Neighbours.{above_stays}

not_below : (n : ℕ) → is_ge (nat_cmp n 0) ≡ true
not_below n = from (nat_cmp n 0) (ranks n 0)
  where
    from : (r : Ordering) → MatchOrdering r (n < 0) (n ≡ 0) (0 < n) → is_ge r ≡ true
    from Less is = absurd (omega (arith, is))
    from Equal is = refl
    from Greater is = refl

not_above : (n : ℕ) → n ≤ greatest_64 → is_gt (nat_cmp n greatest_64) ≡ false
not_above n fits = from (nat_cmp n greatest_64) (ranks n greatest_64)
  where
    from : (r : Ordering) → MatchOrdering r (n < greatest_64) (n ≡ greatest_64) (greatest_64 < n) → is_gt r ≡ false
    from Less is = refl
    from Equal is = refl
    from Greater is = absurd (omega (arith, is, fits))

up_to : (a b : Ordering) → is_gt a ≡ false → is_gt b ≡ false → is_le (ordering_then a b) ≡ true
up_to Less b h g = refl
up_to Equal Less h g = refl
up_to Equal Equal h g = refl
up_to Equal Greater h g = sym g
up_to Greater b h g = sym h

module _ {K : Type 0} (keys : K → K → Ordering) where
  -- from a key with the least primary key on
  pub lower_is : (key : K) (m : List ((K × ℕ) × Name)) → entry_from (pair_order keys) (key, 0) m ≡ lower_bound keys key m
  lower_is key [] = refl
  lower_is key (e ∷ es) =
      elim (keys e.0.0 key) as (λ r. cond (is_ge (ordering_then r (nat_cmp e.0.1 0))) (Some e) (entry_from (pair_order keys) (key, 0) es) ≡ cond (is_ge r) (Some e) (lower_bound keys key es)) [
        | Less ↦ lower_is key es
        | Equal ↦ ap (λ b. cond b (Some e) (entry_from (pair_order keys) (key, 0) es)) (not_below e.0.1)
        | Greater ↦ refl
      ]

  -- after a key with the greatest primary key
  pub upper_is : (key : K) (m : List ((K × ℕ) × Name)) → AllByRecursion (λ e. e.0.1 ≤ greatest_64) m → entry_after (pair_order keys) (key, greatest_64) m ≡ upper_bound keys key m
  upper_is key [] all = refl
  upper_is key (e ∷ es) all =
      elim (keys e.0.0 key) as (λ r. cond (is_gt (ordering_then r (nat_cmp e.0.1 greatest_64))) (Some e) (entry_after (pair_order keys) (key, greatest_64) es) ≡ cond (is_gt r) (Some e) (upper_bound keys key es)) [
        | Less ↦ upper_is key es all.1
        | Equal ↦ ap (λ b. cond b (Some e) (entry_after (pair_order keys) (key, greatest_64) es)) (not_above e.0.1 all.0) ∙ upper_is key es all.1
        | Greater ↦ refl
      ]

  -- up to the greatest of all
  pub last_is : (g : K) (m : List ((K × ℕ) × Name)) → AllByRecursion (λ e. (is_gt (keys e.0.0 g) ≡ false) × (e.0.1 ≤ greatest_64)) m → entry_up_to (pair_order keys) (g, greatest_64) m ≡ last_entry m
  last_is g [] all = refl
  last_is g (e ∷ es) all =
      ap (λ l. option_or l (cond (is_le (pair_order keys e.0 (g, greatest_64))) (Some e) None)) (last_is g es all.1)
      ∙ ap (λ b. option_or (last_entry es) (cond b (Some e) None)) (up_to (keys e.0.0 g) (nat_cmp e.0.1 greatest_64) all.0.0 (not_above e.0.1 all.0.1))

  module _ (o : IsTotalOrder keys) where
    none_past : (key : K) (x : K × ℕ) (es : List ((K × ℕ) × Name)) → keys x.0 key ≡ Greater → T (below_all (pair_order keys) x es) → exact_match keys key es ≡ None
    none_past key x [] g h = refl
    none_past key x (e ∷ es) g h =
        ap (λ r. cond (is_eq r) (Some e) (exact_match keys key es)) (above_stays keys o key x.0 e.0.0 (nat_cmp x.1 e.0.1) (keys x.0 e.0.0) refl g (first _ _ h))
        ∙ none_past key x es g (second _ _ h)

    -- the first row with a key is the first from it on, or there is none
    pub exact_is : (key : K) (m : List ((K × ℕ) × Name)) → T (is_sorted (pair_order keys) m) → only_at keys key (option_map (λ e. e.0) (lower_bound keys key m)) ≡ option_map (λ e. e.0) (exact_match keys key m)
    exact_is key [] h = refl
    exact_is key (e ∷ es) h =
        elim (keys e.0.0 key) as (λ r. keys e.0.0 key ≡ r → only_at keys key (option_map (λ e. e.0) (cond (is_ge r) (Some e) (lower_bound keys key es))) ≡ option_map (λ e. e.0) (cond (is_eq r) (Some e) (exact_match keys key es))) [
          | Less ↦ λ is. exact_is key es (second _ _ h)
          | Equal ↦ λ is. ap (λ r. cond (is_eq r) (Some e.0) None) is
          | Greater ↦ λ is. ap (λ r. cond (is_eq r) (Some e.0) None) is ∙ sym (ap (option_map (λ e. e.0)) (none_past key e.0 es is (first _ _ h)))
        ] refl

module _ {K : Type 0} (P : K → ℕ → Type 0) where
  -- what holds of all rows holds of a table's
  pub all_of : (t : TableKey) (m : Rows K) → AllByRecursion (λ e. P e.0.key e.0.primary) m → AllByRecursion (λ e. P e.0.0 e.0.1) (index_of t m)
  all_of t [] all = tt
  all_of t (e ∷ es) all =
      let rest = all_of t es all.1 in
      elim (eq_by_cmp table_order e.0.table t) as (λ b. AllByRecursion (λ e. P e.0.0 e.0.1) (cond b (((e.0.key, e.0.primary), e.1) ∷ index_of t es) (index_of t es))) [
        | true ↦ (all.0, rest)
        | false ↦ rest
      ]

module _ {X : Type 0} {P Q : X → Type 0} (f : (x : X) → P x → Q x) where
  pub all_weaker : (xs : List X) → AllByRecursion P xs → AllByRecursion Q xs
  all_weaker [] all = tt
  all_weaker (x ∷ xs) all = (f x all.0, all_weaker xs all.1)
