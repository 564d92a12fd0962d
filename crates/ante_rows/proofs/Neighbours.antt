-- A neighbour in the map of all rows is one in the list of the table's rows, or none of the table's.
use Rattle.std.proofs.Common.{◌≡◌, ℕ, Bool, true, false, true≢false, cond, ◌&&◌, T, List, [], ◌∷◌, Option, Some, None, refl, sym, ap, subst, ◌∙◌, Ordering, Less, Equal, Greater, is_lt, is_eq}
use Rattle.std.specs.Ordering.{nat_cmp, ordering_then, ordering_reverse}
use Rattle.std.specs.Option.{option_or}
use Rattle.std.specs.Cmp.{IsTotalOrder}
use Rattle.std.specs.FinMap.Entries.{find, is_sorted, below_all}
use Rattle.ante_undo.specs.Entries.{first_where, last_where}
use Rattle.ante_undo.proofs.Entries.{first, second}
use Rattle.ante_pack.specs.declared.names.TableKey.{TableKey}
use Rattle.ante_state.specs.Orders.{table_order, row_order}
use Rattle.ante_state.specs.declared.tables.RowKey.{RowKey}
use Rattle.ante_rows.specs.Rows.{rows_of, in_table}

both : (a b : Bool) → T a → T b → T (a && b)
both true b p q = q
both false b p q = p

pub is_true : (b : Bool) → T b → b ≡ true
is_true true h = refl
is_true false h = absurd h

module _ (o : IsTotalOrder table_order) where
  -- the table of a later row is above what an earlier row's table is above
  above_stays : (t a b : TableKey) (p q : ℕ) (r : Ordering) → table_order a b ≡ r → table_order a t ≡ Greater → T (is_lt (ordering_then r (nat_cmp p q))) → table_order b t ≡ Greater
  above_stays t a b p q Less e g lt = o.antisymm b t ∙ ap ordering_reverse (o.trans t a b (o.antisymm t a ∙ ap ordering_reverse g) e)
  above_stays t a b p q Equal e g lt = sym (o.congr a b t e) ∙ g
  above_stays t a b p q Greater e g lt = absurd lt

  module _ {V : Type 0} where
    none_above : (t : TableKey) (x : RowKey) (es : List (RowKey × V)) → table_order x.table t ≡ Greater → T (below_all row_order x es) → rows_of table_order t es ≡ []
    none_above t x [] g h = refl
    none_above t x (e ∷ es) g h =
        ap (λ r. cond (is_eq r) ((e.0.primary, e.1) ∷ rows_of table_order t es) (rows_of table_order t es)) (above_stays t x.table e.0.table x.primary e.0.primary (table_order x.table e.0.table) refl g (first _ _ h))
        ∙ none_above t x es g (second _ _ h)

    -- the first row on an upper side of a place in the table
    pub first_in : (test : Ordering → Bool) → test Less ≡ false → test Greater ≡ true → (t : TableKey) (p : ℕ) (m : List (RowKey × V)) → T (is_sorted row_order m) → in_table table_order t (first_where (λ x. test (row_order x (record { table = t; primary = p }))) m) ≡ first_where (λ x. test (nat_cmp x p)) (rows_of table_order t m)
    first_in test low high t p [] h = refl
    first_in test low high t p (e ∷ es) h =
        let rest = first_in test low high t p es (second _ _ h) in
        elim (table_order e.0.table t) as (λ r. table_order e.0.table t ≡ r → in_table table_order t (cond (test (ordering_then r (nat_cmp e.0.primary p))) (Some e) (first_where (λ x. test (row_order x (record { table = t; primary = p }))) es)) ≡ first_where (λ x. test (nat_cmp x p)) (cond (is_eq r) ((e.0.primary, e.1) ∷ rows_of table_order t es) (rows_of table_order t es))) [
          | Less ↦ λ is. ap (λ b. in_table table_order t (cond b (Some e) (first_where (λ x. test (row_order x (record { table = t; primary = p }))) es))) low ∙ rest
          | Equal ↦ λ is. elim (test (nat_cmp e.0.primary p)) as (λ b. in_table table_order t (cond b (Some e) (first_where (λ x. test (row_order x (record { table = t; primary = p }))) es)) ≡ cond b (Some (e.0.primary, e.1)) (first_where (λ x. test (nat_cmp x p)) (rows_of table_order t es))) [
            | true ↦ ap (λ r. cond (is_eq r) (Some (e.0.primary, e.1)) None) is
            | false ↦ rest
          ]
          | Greater ↦ λ is. ap (λ b. in_table table_order t (cond b (Some e) (first_where (λ x. test (row_order x (record { table = t; primary = p }))) es))) high
              ∙ ap (λ r. cond (is_eq r) (Some (e.0.primary, e.1)) None) is
              ∙ sym (ap (first_where (λ x. test (nat_cmp x p))) (none_above t e.0 es is (first _ _ h)))
        ] refl

    none_below : (test : Ordering → Bool) → test Greater ≡ false → (t : TableKey) (p : ℕ) (x : RowKey) (es : List (RowKey × V)) → table_order x.table t ≡ Greater → T (below_all row_order x es) → last_where (λ x. test (row_order x (record { table = t; primary = p }))) es ≡ None
    none_below test high t p x [] g h = refl
    none_below test high t p x (e ∷ es) g h =
        let above = above_stays t x.table e.0.table x.primary e.0.primary (table_order x.table e.0.table) refl g (first _ _ h) in
        ap (λ l. option_or l (cond (test (ordering_then (table_order e.0.table t) (nat_cmp e.0.primary p))) (Some e) None)) (none_below test high t p x es g (second _ _ h))
        ∙ ap (λ r. cond (test (ordering_then r (nat_cmp e.0.primary p))) (Some e) None) above
        ∙ ap (λ b. cond b (Some e) None) high

    -- a row on a lower side of a place in the table that comes after a row of the table is of the table
    below_ties : (test : Ordering → Bool) → test Greater ≡ false → (t : TableKey) (p : ℕ) (x : RowKey) (es : List (RowKey × V)) (e : RowKey × V) → table_order x.table t ≡ Equal → T (below_all row_order x es) → last_where (λ x. test (row_order x (record { table = t; primary = p }))) es ≡ Some e → table_order e.0.table t ≡ Equal
    below_ties test high t p x [] e ties h is = absurd (true≢false cc)
    below_ties test high t p x (y ∷ es) e ties h is =
        elim (last_where (λ x. test (row_order x (record { table = t; primary = p }))) es) as (λ l. last_where (λ x. test (row_order x (record { table = t; primary = p }))) es ≡ l → option_or l (cond (test (row_order y.0 (record { table = t; primary = p }))) (Some y) None) ≡ Some e → table_order e.0.table t ≡ Equal) [
          | Some z ↦ λ l q. below_ties test high t p x es e ties (second _ _ h) (l ∙ q)
          | None ↦ λ l q. head_ties (table_order y.0.table t) refl q
        ] refl is
      where
        not_less : (r : Ordering) → table_order x.table y.0.table ≡ r → T (is_lt (ordering_then r (nat_cmp x.primary y.0.primary))) → table_order y.0.table t ≡ Less → ⊥
        not_less Less e1 lt less_t = absurd (true≢false (ap is_lt (sym (o.trans x.table y.0.table t e1 less_t)) ∙ ap is_lt ties))
        not_less Equal e1 lt less_t = absurd (true≢false (ap is_lt (sym (o.congr x.table y.0.table t e1 ∙ less_t)) ∙ ap is_lt ties))
        not_less Greater e1 lt less_t = absurd lt

        head_ties : (r : Ordering) → table_order y.0.table t ≡ r → cond (test (ordering_then r (nat_cmp y.0.primary p))) (Some y) None ≡ Some e → table_order e.0.table t ≡ Equal
        head_ties Less e1 q = absurd (not_less (table_order x.table y.0.table) refl (first _ _ h) e1)
        head_ties Equal e1 q = elim (test (nat_cmp y.0.primary p)) as (λ b. cond b (Some y) None ≡ Some e → table_order e.0.table t ≡ Equal) [
          | true ↦ λ q. let same : y ≡ e = cc in subst (λ e. table_order e.0.table t ≡ Equal) same e1
          | false ↦ λ q. absurd (true≢false cc)
        ] q
        head_ties Greater e1 q = let none : None ≡ Some e = ap (λ b. cond b (Some y) None) (sym high) ∙ q in absurd (true≢false cc)

    -- the last row on a lower side of a place in the table
    pub last_in : (test : Ordering → Bool) → test Less ≡ true → test Greater ≡ false → (t : TableKey) (p : ℕ) (m : List (RowKey × V)) → T (is_sorted row_order m) → in_table table_order t (last_where (λ x. test (row_order x (record { table = t; primary = p }))) m) ≡ last_where (λ x. test (nat_cmp x p)) (rows_of table_order t m)
    last_in test low high t p [] h = refl
    last_in test low high t p (e ∷ es) h =
        let rest = last_in test low high t p es (second _ _ h) in
        elim (table_order e.0.table t) as (λ r. table_order e.0.table t ≡ r → in_table table_order t (option_or (last_where (λ x. test (row_order x (record { table = t; primary = p }))) es) (cond (test (ordering_then r (nat_cmp e.0.primary p))) (Some e) None)) ≡ last_where (λ x. test (nat_cmp x p)) (cond (is_eq r) ((e.0.primary, e.1) ∷ rows_of table_order t es) (rows_of table_order t es))) [
          | Less ↦ λ is. ap (λ b. in_table table_order t (option_or (last_where (λ x. test (row_order x (record { table = t; primary = p }))) es) (cond b (Some e) None))) low
              ∙ before_table is (last_where (λ x. test (row_order x (record { table = t; primary = p }))) es) rest
          | Equal ↦ λ is. in_this is (last_where (λ x. test (row_order x (record { table = t; primary = p }))) es) refl rest
          | Greater ↦ λ is. ap (λ b. in_table table_order t (option_or (last_where (λ x. test (row_order x (record { table = t; primary = p }))) es) (cond b (Some e) None))) high
              ∙ ap (λ l. in_table table_order t (option_or l None)) (none_below test high t p e.0 es is (first _ _ h))
              ∙ sym (ap (last_where (λ x. test (nat_cmp x p))) (none_above t e.0 es is (first _ _ h)))
        ] refl
      where
        before_table : table_order e.0.table t ≡ Less → (l : Option (RowKey × V)) → in_table table_order t l ≡ last_where (λ x. test (nat_cmp x p)) (rows_of table_order t es) → in_table table_order t (option_or l (Some e)) ≡ last_where (λ x. test (nat_cmp x p)) (rows_of table_order t es)
        before_table is None rest = ap (λ r. cond (is_eq r) (Some (e.0.primary, e.1)) None) is ∙ rest
        before_table is (Some y) rest = rest

        in_this : table_order e.0.table t ≡ Equal → (l : Option (RowKey × V)) → last_where (λ x. test (row_order x (record { table = t; primary = p }))) es ≡ l → in_table table_order t l ≡ last_where (λ x. test (nat_cmp x p)) (rows_of table_order t es) → in_table table_order t (option_or l (cond (test (nat_cmp e.0.primary p)) (Some e) None)) ≡ option_or (last_where (λ x. test (nat_cmp x p)) (rows_of table_order t es)) (cond (test (nat_cmp e.0.primary p)) (Some (e.0.primary, e.1)) None)
        in_this is None l rest = elim (test (nat_cmp e.0.primary p)) as (λ b. in_table table_order t (cond b (Some e) None) ≡ cond b (Some (e.0.primary, e.1)) None) [
          | true ↦ ap (λ r. cond (is_eq r) (Some (e.0.primary, e.1)) None) is
          | false ↦ refl
        ] ∙ ap (λ o. option_or o (cond (test (nat_cmp e.0.primary p)) (Some (e.0.primary, e.1)) None)) rest
        in_this is (Some y) l rest =
            let ties = ap (λ r. cond (is_eq r) (Some (y.0.primary, y.1)) None) (below_ties test high t p e.0 es y is (first _ _ h) l) in
            ties ∙ ap (λ o. option_or o (cond (test (nat_cmp e.0.primary p)) (Some (e.0.primary, e.1)) None)) (sym ties ∙ rest)

    -- the row at a place in the table
    pub found_in : (t : TableKey) (p : ℕ) (m : List (RowKey × V)) → find row_order (record { table = t; primary = p }) m ≡ find nat_cmp p (rows_of table_order t m)
    found_in t p [] = refl
    found_in t p (e ∷ es) =
        let rest = found_in t p es in
        elim (table_order e.0.table t) as (λ r. table_order e.0.table t ≡ r → find row_order (record { table = t; primary = p }) (e ∷ es) ≡ find nat_cmp p (cond (is_eq r) ((e.0.primary, e.1) ∷ rows_of table_order t es) (rows_of table_order t es))) [
          | Less ↦ λ is. ap (λ r. cond (is_eq (ordering_then r (nat_cmp p e.0.primary))) (Some e.1) (find row_order (record { table = t; primary = p }) es)) (o.antisymm t e.0.table ∙ ap ordering_reverse is) ∙ rest
          | Equal ↦ λ is. ap (λ r. cond (is_eq (ordering_then r (nat_cmp p e.0.primary))) (Some e.1) (find row_order (record { table = t; primary = p }) es)) (o.antisymm t e.0.table ∙ ap ordering_reverse is) ∙ ap (cond (is_eq (nat_cmp p e.0.primary)) (Some e.1)) rest
          | Greater ↦ λ is. ap (λ r. cond (is_eq (ordering_then r (nat_cmp p e.0.primary))) (Some e.1) (find row_order (record { table = t; primary = p }) es)) (o.antisymm t e.0.table ∙ ap ordering_reverse is) ∙ rest
        ] refl

    rows_below : (t : TableKey) (x : RowKey) (es : List (RowKey × V)) → table_order x.table t ≡ Equal → T (below_all row_order x es) → T (below_all nat_cmp x.primary (rows_of table_order t es))
    rows_below t x [] ties h = tt
    rows_below t x (e ∷ es) ties h = from (table_order e.0.table t) refl (rows_below t x es ties (second _ _ h))
      where
        from : (r : Ordering) → table_order e.0.table t ≡ r → T (below_all nat_cmp x.primary (rows_of table_order t es)) → T (below_all nat_cmp x.primary (cond (is_eq r) ((e.0.primary, e.1) ∷ rows_of table_order t es) (rows_of table_order t es)))
        from Less is rest = rest
        from Equal is rest =
            let tie : table_order x.table e.0.table ≡ Equal = o.congr x.table t e.0.table ties ∙ o.antisymm t e.0.table ∙ ap ordering_reverse is in
            both _ _ (subst (λ r. T (is_lt (ordering_then r (nat_cmp x.primary e.0.primary)))) tie (first _ _ h)) rest
        from Greater is rest = rest

    rows_rise : (t : TableKey) (m : List (RowKey × V)) → T (is_sorted row_order m) → T (is_sorted nat_cmp (rows_of table_order t m))
    rows_rise t [] h = tt
    rows_rise t (e ∷ es) h = from (table_order e.0.table t) refl (rows_rise t es (second _ _ h))
      where
        from : (r : Ordering) → table_order e.0.table t ≡ r → T (is_sorted nat_cmp (rows_of table_order t es)) → T (is_sorted nat_cmp (cond (is_eq r) ((e.0.primary, e.1) ∷ rows_of table_order t es) (rows_of table_order t es)))
        from Less is rest = rest
        from Equal is rest = both _ _ (rows_below t e.0 es is (first _ _ h)) rest
        from Greater is rest = rest

    -- the rows of a table rise by their primary keys
    pub rows_ordered : (t : TableKey) (m : List (RowKey × V)) → is_sorted row_order m ≡ true → is_sorted nat_cmp (rows_of table_order t m) ≡ true
    rows_ordered t m h = is_true _ (rows_rise t m (subst T (sym h) tt))
