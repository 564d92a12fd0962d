-- Where the row of a secondary index stands that a table has with a primary key.
use Rattle.std.proofs.Common.{◌≡◌, ℕ, Bool, true, false, true≢false, cond, [], ◌∷◌, Some, None, is_some, refl, sym, ap, subst, ◌∙◌, Ordering, is_eq}
use Rattle.std.specs.Ordering.{eq_by_cmp}
use Rattle.std.specs.Cmp.{IsTotalOrder}
use Rattle.std.specs.FinMap.{IsAntisymmetric}
use Rattle.std.specs.FinMap.Entries.{find}
use Rattle.std.proofs.lemmas.Cmp.{tied_itself}
use Rattle.ante_pack.specs.declared.names.Name.{Name}
use Rattle.ante_pack.specs.declared.names.TableKey.{TableKey}
use Rattle.ante_state.specs.Orders.{row_order, index_order}
use Rattle.ante_state.specs.declared.tables.IndexKey.{IndexKey}
use Rattle.ante_secidx.specs.Index.{Rows, index_key, row_key, index_row}
use Rattle.ante_store.proofs.Counting.{tied}
use Rattle.ante_store.proofs.KeyOrders.{rows_total, rows_exact}

some_none : {X : Type 0} (x : X) → Some x ≡ None → ⊥
some_none x h = absurd (true≢false (ap is_some h))

module _ {K : Type 0} (keys : K → K → Ordering) (o : IsTotalOrder (index_order keys)) (exact : IsAntisymmetric (index_order keys)) where
  abbrev is_row : TableKey → ℕ → IndexKey K → Bool
  is_row t p x = eq_by_cmp row_order (row_key x) (record { table = t; primary = p })

  found_is : (t : TableKey) (p : ℕ) (m : Rows K) (e : IndexKey K × Name) → index_row t p m ≡ Some e → is_row t p e.0 ≡ true
  found_is t p [] e h = absurd (some_none e (sym h))
  found_is t p (x ∷ xs) e h =
      elim (is_row t p x.0) as (λ b. is_row t p x.0 ≡ b → cond b (Some x) (index_row t p xs) ≡ Some e → is_row t p e.0 ≡ true) [
        | true ↦ λ is q. let same : x ≡ e = cc in subst (λ y. is_row t p y.0 ≡ true) same is
        | false ↦ λ is q. found_is t p xs e q
      ] refl h

  -- it is a row of the table
  pub found_table : (t : TableKey) (p : ℕ) (m : Rows K) (e : IndexKey K × Name) → index_row t p m ≡ Some e → e.0.table ≡ t
  found_table t p m e h =
      ap (λ r. r.table) (rows_exact (row_key e.0) (record { table = t; primary = p }) (tied (row_order (row_key e.0) (record { table = t; primary = p })) (found_is t p m e h)))

  -- it is found at its place
  pub found_stands : (t : TableKey) (p : ℕ) (m : Rows K) (e : IndexKey K × Name) → index_row t p m ≡ Some e → find (index_order keys) e.0 m ≡ Some e.1
  found_stands t p [] e h = absurd (some_none e (sym h))
  found_stands t p (x ∷ xs) e h =
      elim (is_row t p x.0) as (λ b. is_row t p x.0 ≡ b → cond b (Some x) (index_row t p xs) ≡ Some e → cond (is_eq (index_order keys e.0 x.0)) (Some x.1) (find (index_order keys) e.0 xs) ≡ Some e.1) [
        | true ↦ λ is q. let same : x ≡ e = cc in
            subst (λ y. cond (is_eq (index_order keys e.0 y.0)) (Some y.1) (find (index_order keys) e.0 xs) ≡ Some e.1) (sym same)
            (ap (λ r. cond (is_eq r) (Some e.1) (find (index_order keys) e.0 xs)) (tied_itself o e.0))
        | false ↦ λ is q. other is q (found_stands t p xs e q) (eq_by_cmp (index_order keys) e.0 x.0) refl
      ] refl h
    where
      other : is_row t p x.0 ≡ false → index_row t p xs ≡ Some e → find (index_order keys) e.0 xs ≡ Some e.1 → (b : Bool) → eq_by_cmp (index_order keys) e.0 x.0 ≡ b → cond b (Some x.1) (find (index_order keys) e.0 xs) ≡ Some e.1
      other is q rest true ties =
          absurd (true≢false (sym (found_is t p xs e q) ∙ ap (is_row t p) (exact e.0 x.0 (tied (index_order keys e.0 x.0) ties)) ∙ is))
      other is q rest false ties = rest

  -- and where there is none, no place has one
  pub free_stands : (t : TableKey) (key : K) (p : ℕ) (m : Rows K) → index_row t p m ≡ None → find (index_order keys) (index_key t key p) m ≡ None
  free_stands t key p [] h = refl
  free_stands t key p (x ∷ xs) h =
      elim (is_row t p x.0) as (λ b. is_row t p x.0 ≡ b → cond b (Some x) (index_row t p xs) ≡ None → cond (is_eq (index_order keys (index_key t key p) x.0)) (Some x.1) (find (index_order keys) (index_key t key p) xs) ≡ None) [
        | true ↦ λ is q. absurd (some_none x q)
        | false ↦ λ is q. other is (free_stands t key p xs q) (eq_by_cmp (index_order keys) (index_key t key p) x.0) refl
      ] refl h
    where
      other : is_row t p x.0 ≡ false → find (index_order keys) (index_key t key p) xs ≡ None → (b : Bool) → eq_by_cmp (index_order keys) (index_key t key p) x.0 ≡ b → cond b (Some x.1) (find (index_order keys) (index_key t key p) xs) ≡ None
      other is rest true ties = absurd (true≢false
          (sym (ap is_eq (tied_itself rows_total (record { table = t; primary = p })))
          ∙ ap (is_row t p) (exact (index_key t key p) x.0 (tied (index_order keys (index_key t key p) x.0) ties)) ∙ is))
      other is rest false ties = rest
