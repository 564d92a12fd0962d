-- A neighbour among the rows of all tables is one in the list of the table's rows, or none of the table's.
use Rattle.std.proofs.Common.{◌≡◌, ℕ, Bool, true, false, true≢false, cond, T, [], ◌∷◌, Option, Some, None, refl, sym, ap, subst, ◌∙◌, Ordering, Less, Equal, Greater, is_lt, is_eq}
use Rattle.std.specs.Ordering.{ordering_then, ordering_reverse}
use Rattle.std.specs.Option.{option_or}
use Rattle.std.specs.Cmp.{IsTotalOrder}
use Rattle.std.specs.FinMap.Entries.{is_sorted, below_all}
use Rattle.ante_undo.specs.Entries.{first_where, last_where}
use Rattle.ante_undo.proofs.Entries.{both, first, second}
use Rattle.ante_pack.specs.declared.names.Name.{Name}
use Rattle.ante_pack.specs.declared.names.TableKey.{TableKey}
use Rattle.ante_state.specs.Orders.{table_order, pair_order, index_order}
use Rattle.ante_state.specs.declared.tables.IndexKey.{IndexKey}
use Rattle.ante_secidx.specs.Index.{Rows, index_key, index_of, in_table}

pub is_true : (b : Bool) → T b → b ≡ true
is_true true h = refl
is_true false h = absurd h

-- what is not below x, where x is above t, is above t: of two parts, by the first
pub above_stays : {X : Type 0} (cmp : X → X → Ordering) → IsTotalOrder cmp → (t a b : X) (within r : Ordering) → cmp a b ≡ r → cmp a t ≡ Greater → T (is_lt (ordering_then r within)) → cmp b t ≡ Greater
above_stays cmp o t a b within Less e g lt = o.antisymm b t ∙ ap ordering_reverse (o.trans t a b (o.antisymm t a ∙ ap ordering_reverse g) e)
above_stays cmp o t a b within Equal e g lt = sym (o.congr a b t e) ∙ g
above_stays cmp o t a b within Greater e g lt = absurd lt

module _ {K : Type 0} (keys : K → K → Ordering) (o : IsTotalOrder table_order) where
  none_above : (t : TableKey) (x : IndexKey K) (es : Rows K) → table_order x.table t ≡ Greater → T (below_all (index_order keys) x es) → index_of t es ≡ []
  none_above t x [] g h = refl
  none_above t x (e ∷ es) g h =
      ap (λ r. cond (is_eq r) (((e.0.key, e.0.primary), e.1) ∷ index_of t es) (index_of t es)) (above_stays table_order o t x.table e.0.table (pair_order keys (x.key, x.primary) (e.0.key, e.0.primary)) (table_order x.table e.0.table) refl g (first _ _ h))
      ∙ none_above t x es g (second _ _ h)

  -- the first row on an upper side of a place in the table
  pub first_in : (test : Ordering → Bool) → test Less ≡ false → test Greater ≡ true → (t : TableKey) (k : K) (p : ℕ) (m : Rows K) → T (is_sorted (index_order keys) m) → in_table t (first_where (λ x. test (index_order keys x (index_key t k p))) m) ≡ first_where (λ x. test (pair_order keys x (k, p))) (index_of t m)
  first_in test low high t k p [] h = refl
  first_in test low high t k p (e ∷ es) h =
      let rest = first_in test low high t k p es (second _ _ h) in
      elim (table_order e.0.table t) as (λ r. table_order e.0.table t ≡ r → in_table t (cond (test (ordering_then r (pair_order keys (e.0.key, e.0.primary) (k, p)))) (Some e) (first_where (λ x. test (index_order keys x (index_key t k p))) es)) ≡ first_where (λ x. test (pair_order keys x (k, p))) (cond (is_eq r) (((e.0.key, e.0.primary), e.1) ∷ index_of t es) (index_of t es))) [
        | Less ↦ λ is. ap (λ b. in_table t (cond b (Some e) (first_where (λ x. test (index_order keys x (index_key t k p))) es))) low ∙ rest
        | Equal ↦ λ is. elim (test (pair_order keys (e.0.key, e.0.primary) (k, p))) as (λ b. in_table t (cond b (Some e) (first_where (λ x. test (index_order keys x (index_key t k p))) es)) ≡ cond b (Some ((e.0.key, e.0.primary), e.1)) (first_where (λ x. test (pair_order keys x (k, p))) (index_of t es))) [
          | true ↦ ap (λ r. cond (is_eq r) (Some ((e.0.key, e.0.primary), e.1)) None) is
          | false ↦ rest
        ]
        | Greater ↦ λ is. ap (λ b. in_table t (cond b (Some e) (first_where (λ x. test (index_order keys x (index_key t k p))) es))) high
            ∙ ap (λ r. cond (is_eq r) (Some ((e.0.key, e.0.primary), e.1)) None) is
            ∙ sym (ap (first_where (λ x. test (pair_order keys x (k, p)))) (none_above t e.0 es is (first _ _ h)))
      ] refl

  none_below : (test : Ordering → Bool) → test Greater ≡ false → (t : TableKey) (k : K) (p : ℕ) (x : IndexKey K) (es : Rows K) → table_order x.table t ≡ Greater → T (below_all (index_order keys) x es) → last_where (λ x. test (index_order keys x (index_key t k p))) es ≡ None
  none_below test high t k p x [] g h = refl
  none_below test high t k p x (e ∷ es) g h =
      let above = above_stays table_order o t x.table e.0.table (pair_order keys (x.key, x.primary) (e.0.key, e.0.primary)) (table_order x.table e.0.table) refl g (first _ _ h) in
      ap (λ l. option_or l (cond (test (ordering_then (table_order e.0.table t) (pair_order keys (e.0.key, e.0.primary) (k, p)))) (Some e) None)) (none_below test high t k p x es g (second _ _ h))
      ∙ ap (λ r. cond (test (ordering_then r (pair_order keys (e.0.key, e.0.primary) (k, p)))) (Some e) None) above
      ∙ ap (λ b. cond b (Some e) None) high

  -- a row on a lower side of a place in the table that comes after a row of the table is of the table
  below_ties : (test : Ordering → Bool) → test Greater ≡ false → (t : TableKey) (k : K) (p : ℕ) (x : IndexKey K) (es : Rows K) (e : IndexKey K × Name) → table_order x.table t ≡ Equal → T (below_all (index_order keys) x es) → last_where (λ x. test (index_order keys x (index_key t k p))) es ≡ Some e → table_order e.0.table t ≡ Equal
  below_ties test high t k p x [] e ties h is = absurd (true≢false cc)
  below_ties test high t k p x (y ∷ es) e ties h is =
      elim (last_where (λ x. test (index_order keys x (index_key t k p))) es) as (λ l. last_where (λ x. test (index_order keys x (index_key t k p))) es ≡ l → option_or l (cond (test (index_order keys y.0 (index_key t k p))) (Some y) None) ≡ Some e → table_order e.0.table t ≡ Equal) [
        | Some z ↦ λ l q. below_ties test high t k p x es e ties (second _ _ h) (l ∙ q)
        | None ↦ λ l q. head_ties (table_order y.0.table t) refl q
      ] refl is
    where
      not_less : (r : Ordering) → table_order x.table y.0.table ≡ r → T (is_lt (ordering_then r (pair_order keys (x.key, x.primary) (y.0.key, y.0.primary)))) → table_order y.0.table t ≡ Less → ⊥
      not_less Less e1 lt less_t = absurd (true≢false (ap is_lt (sym (o.trans x.table y.0.table t e1 less_t)) ∙ ap is_lt ties))
      not_less Equal e1 lt less_t = absurd (true≢false (ap is_lt (sym (o.congr x.table y.0.table t e1 ∙ less_t)) ∙ ap is_lt ties))
      not_less Greater e1 lt less_t = absurd lt

      head_ties : (r : Ordering) → table_order y.0.table t ≡ r → cond (test (ordering_then r (pair_order keys (y.0.key, y.0.primary) (k, p)))) (Some y) None ≡ Some e → table_order e.0.table t ≡ Equal
      head_ties Less e1 q = absurd (not_less (table_order x.table y.0.table) refl (first _ _ h) e1)
      head_ties Equal e1 q = elim (test (pair_order keys (y.0.key, y.0.primary) (k, p))) as (λ b. cond b (Some y) None ≡ Some e → table_order e.0.table t ≡ Equal) [
        | true ↦ λ q. let same : y ≡ e = cc in subst (λ e. table_order e.0.table t ≡ Equal) same e1
        | false ↦ λ q. absurd (true≢false cc)
      ] q
      head_ties Greater e1 q = let none : None ≡ Some e = ap (λ b. cond b (Some y) None) (sym high) ∙ q in absurd (true≢false cc)

  -- the last row on a lower side of a place in the table
  pub last_in : (test : Ordering → Bool) → test Less ≡ true → test Greater ≡ false → (t : TableKey) (k : K) (p : ℕ) (m : Rows K) → T (is_sorted (index_order keys) m) → in_table t (last_where (λ x. test (index_order keys x (index_key t k p))) m) ≡ last_where (λ x. test (pair_order keys x (k, p))) (index_of t m)
  last_in test low high t k p [] h = refl
  last_in test low high t k p (e ∷ es) h =
      let rest = last_in test low high t k p es (second _ _ h) in
      elim (table_order e.0.table t) as (λ r. table_order e.0.table t ≡ r → in_table t (option_or (last_where (λ x. test (index_order keys x (index_key t k p))) es) (cond (test (ordering_then r (pair_order keys (e.0.key, e.0.primary) (k, p)))) (Some e) None)) ≡ last_where (λ x. test (pair_order keys x (k, p))) (cond (is_eq r) (((e.0.key, e.0.primary), e.1) ∷ index_of t es) (index_of t es))) [
        | Less ↦ λ is. ap (λ b. in_table t (option_or (last_where (λ x. test (index_order keys x (index_key t k p))) es) (cond b (Some e) None))) low
            ∙ before_table is (last_where (λ x. test (index_order keys x (index_key t k p))) es) rest
        | Equal ↦ λ is. in_this is (last_where (λ x. test (index_order keys x (index_key t k p))) es) refl rest
        | Greater ↦ λ is. ap (λ b. in_table t (option_or (last_where (λ x. test (index_order keys x (index_key t k p))) es) (cond b (Some e) None))) high
            ∙ ap (λ l. in_table t (option_or l None)) (none_below test high t k p e.0 es is (first _ _ h))
            ∙ sym (ap (last_where (λ x. test (pair_order keys x (k, p)))) (none_above t e.0 es is (first _ _ h)))
      ] refl
    where
      before_table : table_order e.0.table t ≡ Less → (l : Option (IndexKey K × Name)) → in_table t l ≡ last_where (λ x. test (pair_order keys x (k, p))) (index_of t es) → in_table t (option_or l (Some e)) ≡ last_where (λ x. test (pair_order keys x (k, p))) (index_of t es)
      before_table is None rest = ap (λ r. cond (is_eq r) (Some ((e.0.key, e.0.primary), e.1)) None) is ∙ rest
      before_table is (Some y) rest = rest

      in_this : table_order e.0.table t ≡ Equal → (l : Option (IndexKey K × Name)) → last_where (λ x. test (index_order keys x (index_key t k p))) es ≡ l → in_table t l ≡ last_where (λ x. test (pair_order keys x (k, p))) (index_of t es) → in_table t (option_or l (cond (test (pair_order keys (e.0.key, e.0.primary) (k, p))) (Some e) None)) ≡ option_or (last_where (λ x. test (pair_order keys x (k, p))) (index_of t es)) (cond (test (pair_order keys (e.0.key, e.0.primary) (k, p))) (Some ((e.0.key, e.0.primary), e.1)) None)
      in_this is None l rest = elim (test (pair_order keys (e.0.key, e.0.primary) (k, p))) as (λ b. in_table t (cond b (Some e) None) ≡ cond b (Some ((e.0.key, e.0.primary), e.1)) None) [
        | true ↦ ap (λ r. cond (is_eq r) (Some ((e.0.key, e.0.primary), e.1)) None) is
        | false ↦ refl
      ] ∙ ap (λ o. option_or o (cond (test (pair_order keys (e.0.key, e.0.primary) (k, p))) (Some ((e.0.key, e.0.primary), e.1)) None)) rest
      in_this is (Some y) l rest =
          let ties = ap (λ r. cond (is_eq r) (Some ((y.0.key, y.0.primary), y.1)) None) (below_ties test high t k p e.0 es y is (first _ _ h) l) in
          ties ∙ ap (λ o. option_or o (cond (test (pair_order keys (e.0.key, e.0.primary) (k, p))) (Some ((e.0.key, e.0.primary), e.1)) None)) (sym ties ∙ rest)

  rows_below : (t : TableKey) (x : IndexKey K) (es : Rows K) → table_order x.table t ≡ Equal → T (below_all (index_order keys) x es) → T (below_all (pair_order keys) (x.key, x.primary) (index_of t es))
  rows_below t x [] ties h = tt
  rows_below t x (e ∷ es) ties h = from (table_order e.0.table t) refl (rows_below t x es ties (second _ _ h))
    where
      from : (r : Ordering) → table_order e.0.table t ≡ r → T (below_all (pair_order keys) (x.key, x.primary) (index_of t es)) → T (below_all (pair_order keys) (x.key, x.primary) (cond (is_eq r) (((e.0.key, e.0.primary), e.1) ∷ index_of t es) (index_of t es)))
      from Less is rest = rest
      from Equal is rest =
          let tie : table_order x.table e.0.table ≡ Equal = o.congr x.table t e.0.table ties ∙ o.antisymm t e.0.table ∙ ap ordering_reverse is in
          both _ _ (subst (λ r. T (is_lt (ordering_then r (pair_order keys (x.key, x.primary) (e.0.key, e.0.primary))))) tie (first _ _ h)) rest
      from Greater is rest = rest

  rows_rise : (t : TableKey) (m : Rows K) → T (is_sorted (index_order keys) m) → T (is_sorted (pair_order keys) (index_of t m))
  rows_rise t [] h = tt
  rows_rise t (e ∷ es) h = from (table_order e.0.table t) refl (rows_rise t es (second _ _ h))
    where
      from : (r : Ordering) → table_order e.0.table t ≡ r → T (is_sorted (pair_order keys) (index_of t es)) → T (is_sorted (pair_order keys) (cond (is_eq r) (((e.0.key, e.0.primary), e.1) ∷ index_of t es) (index_of t es)))
      from Less is rest = rest
      from Equal is rest = both _ _ (rows_below t e.0 es is (first _ _ h)) rest
      from Greater is rest = rest

  -- the rows of a table rise
  pub rows_ordered : (t : TableKey) (m : Rows K) → is_sorted (index_order keys) m ≡ true → is_sorted (pair_order keys) (index_of t m) ≡ true
  rows_ordered t m h = is_true _ (rows_rise t m (subst T (sym h) tt))
